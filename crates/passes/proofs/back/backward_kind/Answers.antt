-- `passes::back::backward_kind` meets its contract: one of the kind after the other; the loop's invariant is that those that were done and the first of the kind have their equation.
-- Assumes nothing.
use Rattle.std.proofs.Common.{◌≡◌, ℕ, length, get_or, eqb-true, arith}
use Rattle.blocks.specs.Numbers.{kind_number}
use Rattle.blocks.specs.States.{reg_in}
use Rattle.ports.specs.Places.{sig_at, ready_at}
use Rattle.passes.specs.Rows.{kind_no}
use Rattle.passes.proofs.Passes.{pass_more, pass_all}
use Rattle.passes.proofs.Sites.{back-kind}
use Rattle.passes.proofs.Listings.{listed_of}
use Rattle.passes.proofs.back.backward_kind.Goals as goal

pub loop-b-preserved : goal.loop-b-preserved
loop-b-preserved c w listed rest xs mask done resting src =
    let a = c.args in
    let i : ℕ = c.loop-b.b-index in
    let b : ℕ = get_or c.of_kind-list.result.now i 0 in
    pass_more _ _ _ _ _ _ (back-kind a.net.now xs mask (reg_in a.state.now) w (sig_at a.signals.now) (kind_number a.kind) c.of_kind-list.result.now listed done rest resting) _ _ i (omega arith)
    (c.loop-b.invariant w listed rest xs mask done resting src)
    ((rw c.reg.ensures at (c.backward_one.ensures (xs b) (mask b))).works (rw (eqb-true (kind_no a.net.now b) (kind_number a.kind) (listed.each i (omega arith)).1) c.requires.kind_rests.1))

pub returns : goal.returns
returns c xs mask done resting src =
    let a = c.args in
    let listed = listed_of a.net.now a.sorted.now a.kind _ c.requires.kinds c.of_kind-list.ensures in
    let rest = c.requires.kind_rests.0 in
    let all : c.loop-b.b-index ≡ length c.of_kind-list.result.now = omega arith in
    pass_all _ _ _ _ _ _ (back-kind a.net.now xs mask (reg_in a.state.now) c.requires.rowed (sig_at a.signals.now) (kind_number a.kind) c.of_kind-list.result.now listed done rest resting)
    (ready_at c.loop-b.ready)
    (rw all at (c.loop-b.invariant c.requires.rowed listed rest xs mask done resting src))
