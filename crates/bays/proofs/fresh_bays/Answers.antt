-- `bays::fresh_bays` meets its contract: by that of `fresh`.
-- Assumes nothing.
use mathlib.Core.Path.{ap}
use lib.ListN.{replicate}
use Rattle.sim.specs.declared.Fresh.{Fresh}
use Rattle.bays.specs.Calls.{fresh_bays}
use Rattle.bays.specs.declared.FreshBays.{FreshBays}
use Rattle.bays.proofs.fresh_bays.Goals as goal

-- the record of four states, each as `fresh` gives it
abbrev four : Fresh → FreshBays
four f = record { refusal = f.refusal; bays = record { states = replicate 4 f.state; turn = 0 } }

pub returns : goal.returns
unfolding fresh_bays
returns c = ap four c.fresh-fresh.ensures
