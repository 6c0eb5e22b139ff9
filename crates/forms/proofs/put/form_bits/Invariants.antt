-- `forms::put::form_bits` meets its contract. The loop's invariant: the bits are the header's and those of the blocks passed, at most 110 a block.
-- Assumes nothing.
use Prim.Native.Nat.{◌+◌, ◌*◌, ◌≤◌}
use mathlib.Core.Path.{◌≡◌}
use lib.ListN.{length}
use Rattle.forms.proofs.Writes.{up_to}
use Rattle.forms.proofs.put.form_bits.Given as goal

abbrev pub invariant-loop-b : goal.invariant-loop-b
invariant-loop-b l = (l.bits ≡ 32 + length (up_to l.fn.net.blocks l.b-index)) × (l.bits ≤ 32 + 110 * l.b-index)
