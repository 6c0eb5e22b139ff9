-- `blocks::cycle::copy_out` meets its contract: the lowest bit of the marks from the copy on.
-- Assumes nothing.
use Rattle.std.proofs.Common.{◌∙◌}
use Rattle.blocks.proofs.Bits.{bit-zero}
use Rattle.blocks.proofs.cycle.copy_out.Goals as goal
use Rattle.blocks.proofs.cycle.copy_out.Goals.{then-a, else-a}

pub returns : goal.returns
returns c =
    c.show.ensures ∙ elim c.if-a.branch [ then-a w ↦ simp (w.show-is, w.if-a.true, bit-zero) | else-a w ↦ simp (w.show-is, w.if-a.false) ]
