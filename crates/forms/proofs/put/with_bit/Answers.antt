-- `forms::put::with_bit` meets its contract: the new bit's weight is added, and the old one's taken away.
-- Assumes nothing.
use Rattle.std.proofs.Common.{arith, rules}
use Rattle.reader.specs.Bits.{odd}
use Rattle.forms.proofs.Storing.{with_bit_lt, bit_stored}
use Rattle.forms.proofs.put.with_bit.Goals as goal

pub overflow_cast-result-2 : goal.overflow_cast-result-2
overflow_cast-result-2 c =
    let a = c.args in
    omega (arith, bit_stored a.b a.k a.new _ (search rules) c.requires.0 c.requires.1 c.bit.ensures, with_bit_lt a.b a.k (odd a.new))

pub returns : goal.returns
returns c =
    let a = c.args in
    bit_stored a.b a.k a.new _ (search rules) c.requires.0 c.requires.1 c.bit.ensures
