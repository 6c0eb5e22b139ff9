-- `forms::put::put_field` meets its contract. The loop's invariant: the first k bits of the field are written over the buffer's bits, and the buffer's length
-- is kept.
-- Assumes nothing.
use mathlib.Core.Path.{◌≡◌}
use lib.ListN.{length}
use lib.Seq.{paste}
use Rattle.reader.specs.Bits.{bits, bits_of}
use Rattle.forms.proofs.put.put_field.Given as goal

abbrev pub invariant-loop-k : goal.invariant-loop-k
invariant-loop-k l =
    (length l.buf ≡ length l.initial.buf) × (bits_of l.buf ≡ paste (bits_of l.initial.buf) l.at (bits l.width l.value) l.k)
