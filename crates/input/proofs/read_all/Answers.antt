-- As many bytes as were read lie in the buffer.
-- Assumes nothing.
use Rattle.std.proofs.Common.{arith, sym}
use lib.Seq.{length-take-le}
use Rattle.input.proofs.read_all.Goals as goal

pub returns-after-loop-done : goal.returns-after-loop-done
returns-after-loop-done g c = (omega arith, sym (length-take-le c.loop-done.done c.loop-done.buf c.loop-done.invariant.0))
