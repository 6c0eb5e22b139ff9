-- `forms::put::put_blocks` meets its contract. The loop's invariant: the blocks passed are written over the buffer's bits from bit 32 on, up to the
-- position, and the buffer's length is kept.
-- Assumes nothing.
use Prim.Native.Nat.{◌+◌, ◌*◌, ◌≤◌}
use mathlib.Core.Path.{◌≡◌}
use lib.ListN.{length}
use Rattle.reader.specs.Bits.{bits_of}
use Rattle.forms.specs.Over.{over}
use Rattle.forms.proofs.Writes.{up_to}
use Rattle.forms.proofs.put.put_blocks.Given as goal

abbrev pub invariant-loop-b : goal.invariant-loop-b
invariant-loop-b l =
    (l.at ≡ 32 + length (up_to l.fn.net.blocks l.b-index)) × (l.at ≤ 32 + 110 * l.b-index) × (length l.buf ≡ length l.initial.buf) × (bits_of l.buf ≡ over (bits_of l.initial.buf) 32 (up_to l.fn.net.blocks l.b-index))
