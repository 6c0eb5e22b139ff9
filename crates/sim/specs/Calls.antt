-- What the public calls `fresh` and `step` answer: the definitions of crate `cycles`, with `accepted` of crate `nets` for "the net value doesn't earn 12".
-- Assumes nothing.
use Rattle.std.specs.Prelude.{ℕ, cond, List}
use Rattle.blocks.specs.declared.Net.{Net}
use Rattle.nets.proofs.Decided.{accepted}
use Rattle.cycles.specs.Step.{step_by, fresh_by}
use Rattle.blocks.specs.declared.State.{State}
use Rattle.cycles.specs.declared.Stepped.{Stepped}
use Rattle.sim.specs.declared.Fresh.{Fresh}

-- refusal 12 gives a zero state
unfoldable pub fresh_of : Net → Fresh
fresh_of net = record { refusal = cond (accepted net) 0 12; state = fresh_by (accepted net) net }

-- refusals in checking order 12, 13, 14, 16: the state handed in, nothing delivered
unfoldable pub step_of : Net → State → List ℕ → List ℕ → ℕ → ℕ → Stepped
step_of net s words ends offer ready = step_by (accepted net) net s words ends offer ready
