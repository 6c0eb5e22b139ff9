-- `Numbers::len` meets its contract.
-- Assumes nothing.
use mathlib.Core.Path.{sym}
use Rattle.trace.proofs.ByteNumbers.{length_given}
use Rattle.trace.proofs.numbers.Numbers.len.Goals as goal

pub returns : goal.returns
returns c = sym (length_given c.args.self.bytes.now c.args.self.list.now)
