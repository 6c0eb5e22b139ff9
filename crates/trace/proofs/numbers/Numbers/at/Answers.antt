-- `Numbers::at` meets its contract: by whether number i is among the bytes.
-- Assumes nothing.
use mathlib.Core.Path.{sym, ◌∙◌}
use native.Mathlib.Omega.{arith}
use Rattle.trace.proofs.ByteNumbers.{length_given, given_front, given_rest}
use Rattle.trace.proofs.numbers.Numbers.at.Goals as goal

pub offset_bounds-self-i : goal.offset_bounds-self-i
offset_bounds-self-i c = omega (arith, length_given c.args.self.bytes.now c.args.self.list.now, c.requires)

pub bounds-self-i : goal.bounds-self-i
bounds-self-i c = omega (arith, length_given c.args.self.bytes.now c.args.self.list.now, c.requires)

pub returns-then-i-n : goal.returns-then-i-n
returns-then-i-n c = c.number_at.ensures ∙ sym (given_front c.args.self.bytes.now c.args.self.list.now c.args.i c.if-i-n.true)

pub returns-else-i-n : goal.returns-else-i-n
returns-else-i-n c = sym (given_rest c.args.self.bytes.now c.args.self.list.now c.args.i c.if-i-n.false)
