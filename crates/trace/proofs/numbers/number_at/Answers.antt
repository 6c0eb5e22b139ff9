-- `trace::numbers::number_at` meets its contract: the 4 bytes from byte 4 * i on make number i.
-- Assumes nothing.
use mathlib.Core.Path.{sym, ◌∙◌}
use Rattle.trace.proofs.ByteNumbers.{four_first, number_is}
use borrow.Author.Rules.{rules}
use Rattle.trace.proofs.numbers.number_at.Goals as goal

pub returns : goal.returns
returns c =
    let a = c.args in
    c.from_be_bytes.ensures ∙ four_first _ _ _ _ ∙ sym (number_is a.bytes.now a.i (search rules))
