-- `sim::step::stepped` meets its contract: refusal after refusal, then the cycle.
-- Assumes nothing.
use Rattle.std.proofs.Common.{◌∙◌}
use Rattle.std.proofs.lemmas.Result.{err_from_is_err_and}
use Rattle.sim.specs.Calls.{step_of}
use Rattle.sim.proofs.Answers.{passed, refused-12, refused-tested, refused-16, not-refused}
use Rattle.sim.proofs.Verdicts.{accepted_when, refused_when}
use Rattle.sim.proofs.step.stepped.Goals as goal

pub returns-in_default : goal.returns-in_default
unfolding step_of
returns-in_default c = rw (refused_when _ _ c.in_default.ensures) (refused-12 _ _ _ _ _ _)

pub returns-in_err-laid : goal.returns-in_err-laid
unfolding step_of
returns-in_err-laid c =
    let r = c.from_residual in
    let p = err_from_is_err_and r.result r.ensures.1 in
    let h = c.in_err-laid.ensures in
    rw (p.1, p.2, accepted_when _ _ c.in-Ok.ensures) (refused-tested _ _ _ _ _ _ _ h.tested h.fails)

pub returns-then-state-ge-CYCLE_LIMIT : goal.returns-then-state-ge-CYCLE_LIMIT
unfolding step_of
returns-then-state-ge-CYCLE_LIMIT c =
    let ok = passed _ _ _ _ c.in_ok-laid.ensures.tested in
    rw (accepted_when _ _ c.in-Ok.ensures) (refused-16 _ _ _ _ _ _ ok.0 ok.1 c.if-state-ge-CYCLE_LIMIT.true)

pub work-requires-clause-net_value : goal.work-requires-clause-net_value
work-requires-clause-net_value c =
    rw c.in_ok-laid.ensures.same_net (accepted_when _ _ c.in-Ok.ensures)

pub returns : goal.returns
unfolding step_of
returns c =
    let ok = passed _ _ _ _ c.in_ok-laid.ensures.tested in
    c.work.ensures ∙ rw (c.in_ok-laid.ensures.same_net, accepted_when _ _ c.in-Ok.ensures) (not-refused _ _ _ _ _ _ ok.0 ok.1 c.if-state-ge-CYCLE_LIMIT.false)
