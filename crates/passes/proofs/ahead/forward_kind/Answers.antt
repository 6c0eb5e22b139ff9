-- `passes::ahead::forward_kind` meets its contract: one of the kind after the other; the loop's invariant is that those that were done and the first of the kind have their equation.
-- Assumes nothing.
use Rattle.std.proofs.Common.{◌≡◌, ℕ, get_or, length, arith, eqb-true}
use Rattle.blocks.specs.Numbers.{kind_number}
use Rattle.blocks.specs.States.{reg_in}
use Rattle.ports.specs.Places.{sig_at}
use Rattle.passes.specs.Rows.{kind_no, Listed}
use Rattle.passes.proofs.Arms.{kind_low}
use Rattle.passes.proofs.Passes.{pass_more, pass_all}
use Rattle.passes.proofs.Sites.{ahead-kind}
use Rattle.passes.proofs.ahead.forward_kind.Goals as goal

pub loop-b-preserved : goal.loop-b-preserved
loop-b-preserved c w k rest xs mask done resting src =
    let l = c.loop-b in
    let net = c.args.net.now in
    let kind = kind_number c.args.kind in
    let list = c.of_kind-list.result.now in
    let at : ℕ = get_or list l.b-index 0 in
    let same : kind_no net at ≡ kind = eqb-true _ _ (k.each l.b-index c.loop-b-test.true).1 in
    pass_more _ _ _ _ _ _ (ahead-kind net xs mask (reg_in c.args.state.now) w kind list k done rest resting) _ _ l.b-index c.loop-b-test.true (l.invariant w k rest xs mask done resting src)
    (rw c.reg.ensures at ((c.forward_one.ensures (xs at) (mask at)).works (rw same c.requires.kind_rests.1)))

pub returns : goal.returns
returns c xs mask done resting src =
    let l = c.loop-b in
    let net = c.args.net.now in
    let kind = kind_number c.args.kind in
    let list = c.of_kind-list.result.now in
    let w = c.requires.rowed in
    let k : Listed net kind list = rw c.of_kind-list.ensures (c.requires.kinds.listed kind (kind_low c.args.kind)) in
    let rest = c.requires.kind_rests.0 in
    let all : l.b-index ≡ length list = omega arith in
    pass_all _ _ _ _ _ _ (ahead-kind net xs mask (reg_in c.args.state.now) w kind list k done rest resting) (sig_at l.signals)
    (rw all at (l.invariant w k rest xs mask done resting src))
