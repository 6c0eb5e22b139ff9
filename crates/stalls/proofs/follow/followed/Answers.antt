-- `stalls::follow::followed` meets its contract: refusal after refusal, then the chain.
-- Assumes nothing.
use Rattle.std.proofs.Common.{sym, ◌∙◌}
use Rattle.std.proofs.lemmas.Result.{err_from_is_err_and}
use Rattle.sim.proofs.Answers.{passed}
use Rattle.sim.proofs.Verdicts.{accepted_when, refused_when}
use Rattle.stalls.proofs.Answers.{refused_12, refused-tested, refused-24, not-refused, followed_is}
use Rattle.stalls.proofs.follow.followed.Goals as goal

pub returns-in_default : goal.returns-in_default
returns-in_default c = refused_12 _ _ _ _ _ _ _ (refused_when _ _ c.in_default.ensures)

pub returns-in_err-laid : goal.returns-in_err-laid
returns-in_err-laid c =
    let r = c.from_residual in
    let p = err_from_is_err_and r.result r.ensures.1 in
    let h = c.in_err-laid.ensures in
    rw (p.1, p.2) (refused-tested _ _ _ _ _ _ _ _ h.tested (λ z. h.fails (sym h.tested ∙ z)) ∙ followed_is _ _ _ _ _ _ _ (accepted_when _ _ c.in-Ok.ensures))

pub returns-then-net-channel : goal.returns-then-net-channel
returns-then-net-channel c =
    let ok = passed _ _ _ _ c.in_ok-laid.ensures.tested in
    refused-24 _ _ _ _ _ _ _ ok.0 ok.1 c.if-net-channel.true ∙ followed_is _ _ _ _ _ _ _ (accepted_when _ _ c.in-Ok.ensures)

pub returns : goal.returns
returns c =
    let ok = passed _ _ _ _ c.in_ok-laid.ensures.tested in
    c.work.ensures ∙ rw c.in_ok-laid.ensures.same_net (not-refused _ _ _ _ _ _ _ ok.0 ok.1 c.if-net-channel.false ∙ followed_is _ _ _ _ _ _ _ (accepted_when _ _ c.in-Ok.ensures))
