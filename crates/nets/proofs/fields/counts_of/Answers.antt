-- `nets::fields::counts_of` meets its contract: one block more is counted.
-- Assumes nothing.
use Rattle.std.proofs.Common.{◌≢◌, ◌<◌, ◌∙◌, length, arith, below_more, get_or-set_other, get_or-set_same, length-set}
use Rattle.nets.proofs.fields.counts_of.Goals as goal

pub loop-b-preserved : goal.loop-b-preserved
loop-b-preserved c = (
  length-set _ _ _ ∙ c.loop-b.invariant.0,
  below_more _ _
      (λ k h. let ne : k ≢ c.loop-b.b = omega arith in rw get_or-set_other (c.loop-b.invariant.1 k h))
      (let lt : c.loop-b.b < length c.loop-b.all = omega (arith, c.loop-b.invariant.0) in rw get_or-set_same (c.counts.ensures.inputs, c.counts.ensures.outputs)),
)
