-- `passes::back::backward` meets its contract: from the end of the order; the loop's invariant is that the blocks that rest and those that are met have their equation.
-- Assumes nothing.
use Rattle.std.proofs.Common.{◌≡◌, subst, sym, ap, ◌∙◌, ℕ, ◌-◌, ◌<◌, List, [], ◌∷◌, ◌++◌, length, get_or, false, append-nil, length-append, arith, Iter}
use Rattle.std.specs.declared.iter.Rev.{Rev}
use Rattle.blocks.specs.States.{reg_in}
use Rattle.blocks.proofs.Folds.{which}
use Rattle.ports.specs.Places.{sig_at, ready_at}
use Rattle.passes.specs.Rows.{kind_no, rests_back}
use Rattle.passes.proofs.Passes.{pass_none, pass_next, pass_all}
use Rattle.passes.proofs.Sites.{back-pass}
use Rattle.passes.proofs.Arms.{turns_back}
use Rattle.passes.proofs.Listings.{rear}
use Rattle.passes.proofs.back.backward.Goals as goal
use Rattle.passes.proofs.back.backward.Goals.{In-Some}

-- the blocks that are met before, and where the next one stands
abbrev met : In-Some → List ℕ
met c = c.loop-b.invariant.0

here : (c : In-Some)
    → (c.args.order.now ≡ c.next.new.self.iter.rest.now ++ (c.in-Some.b.now ∷ met c)) × (length (met c) < length c.args.order.now)
    × (get_or c.args.order.now (length c.args.order.now - 1 - length (met c)) 0 ≡ c.in-Some.b.now)
here c = rear c.args.order.now _ _ (met c) c.in-Some.b.now c.loop-b.invariant.1 c.in-Some.ensures.steps

-- it is a block of the net, and does not rest
turns : (c : In-Some) → (c.in-Some.b.now < c.args.net.now.size) × (rests_back (kind_no c.args.net.now c.in-Some.b.now) ≡ false)
turns c =
    let at = here c in
    let s = c.requires.along.listed (length c.args.order.now - 1 - length (met c)) (omega (arith, at.1)) in
    subst (λ (b : ℕ). (b < c.args.net.now.size) × (rests_back (kind_no c.args.net.now b) ≡ false)) at.2 (s.0, s.1)

pub loop-b-init : goal.loop-b-init
loop-b-init c =
    let a = c.args in
    let source = ap (λ (it : Rev (Iter ℕ)). it.iter) c.into_iter-b-iterator.ensures.into_iter_gives ∙ c.rev-b-items.ensures.source in
    let rest = ap (λ (it : Iter ℕ). it.rest.now) source ∙ c.iter.ensures.rest in
    ([], rw append-nil (sym rest), λ w o xs mask src. pass_none _ _ _ _ _ _ (back-pass a.net.now xs mask (reg_in a.state.now) w (sig_at a.signals.now) a.order.now o) (ready_at a.ready.now) src)

pub invariant_of-backward_one : goal.invariant_of-backward_one
invariant_of-backward_one c = record { ported = c.requires.rowed.ported _ (turns (goal.at.invariant_of-backward_one c).In-Some).0 }

pub backward_one-requires-clause-m_value : goal.backward_one-requires-clause-m_value
backward_one-requires-clause-m_value c = c.requires.rowed.sound _ (turns (goal.at.backward_one-requires-clause-m_value c).In-Some).0

pub backward_one-requires-clause-settled : goal.backward_one-requires-clause-settled
backward_one-requires-clause-settled c = rw c.reg.ensures (c.requires.all_settled _ (turns (goal.at.backward_one-requires-clause-settled c).In-Some).0)

pub loop-b-preserved-in-Some-of : goal.loop-b-preserved-in-Some-of
loop-b-preserved-in-Some-of c =
    let p = (goal.at.loop-b-preserved-in-Some-of c).In-Some in
    let a = c.args in
    let b : ℕ = c.in-Some.b.now in
    let at = here p in (
      b ∷ met p,
      at.0,
      λ w o xs mask src.
          pass_next _ _ _ _ _ _ (back-pass a.net.now xs mask (reg_in a.state.now) w (sig_at a.signals.now) a.order.now o) _ _ (length (met p)) b at.1 at.2
          (c.loop-b.invariant.2 w o xs mask src) ((rw c.reg.ensures at (c.backward_one.ensures (xs b) (mask b))).works (turns_back (kind_no a.net.now b) (turns p).1)),
    )

pub returns : goal.returns
returns c xs mask src b lb =
    let a = c.args in
    let o = c.requires.along in
    let parts = ap length c.loop-b.invariant.1 ∙ length-append c.loop-b.b-iterator.iter.rest.now c.loop-b.invariant.0 in
    let all : length c.loop-b.invariant.0 ≡ length a.order.now = omega (arith, parts, c.in-None.ensures.steps.0) in
    pass_all _ _ _ _ _ _ (back-pass a.net.now xs mask (reg_in a.state.now) c.requires.rowed (sig_at a.signals.now) a.order.now o) (ready_at c.loop-b.ready)
    (rw all at (c.loop-b.invariant.2 c.requires.rowed o xs mask src)) b lb (which (rests_back (kind_no a.net.now b)))
