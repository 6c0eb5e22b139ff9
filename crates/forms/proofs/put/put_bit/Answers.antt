-- `forms::put::put_bit` meets its contract: storing a bit in its byte stores it in the buffer's bits.
-- Assumes nothing.
use borrow.Author.Rules.{rules}
use Rattle.reader.specs.Bits.{odd}
use Rattle.forms.proofs.Storing.{bits_of_put}
use Rattle.forms.proofs.put.put_bit.Goals as goal

pub returns : goal.returns
returns c =
    let a = c.args in
    bits_of_put a.buf.now a.at c.with_bit.result (odd a.new) (search rules) c.with_bit.ensures
