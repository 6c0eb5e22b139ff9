-- `sim::step::fresh` meets its contract: by what the check of the net finds.
-- Assumes nothing.
use Rattle.std.proofs.Common.{refl, ap}
use Rattle.blocks.specs.declared.State.{State}
use Rattle.nets.proofs.Nets.{size-high}
use Rattle.sim.specs.Calls.{fresh_of}
use Rattle.sim.proofs.Verdicts.{accepted_when, refused_when}
use Rattle.sim.proofs.step.fresh.Goals as goal

pub fresh_state-requires : goal.fresh_state-requires
fresh_state-requires c = size-high c.args.net c.in-Ok.ensures.0.0.fields

pub returns-in-Ok : goal.returns-in-Ok
unfolding fresh_of
returns-in-Ok c = rw (accepted_when _ _ c.in-Ok.ensures) (ap (λ (s : State). record { refusal = 0; state = s }) c.fresh_state.ensures)

pub returns-in-Err : goal.returns-in-Err
unfolding fresh_of
returns-in-Err c = rw (refused_when _ _ c.in-Err.ensures) refl
