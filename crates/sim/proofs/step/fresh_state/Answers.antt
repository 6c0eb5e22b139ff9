-- `sim::step::fresh_state` meets its contract.
-- Assumes nothing.
use Rattle.std.proofs.Common.{◌≡◌, refl, ap, ◌∙◌, true, ℕ, replicate, arith, []}
use Rattle.std.proofs.lemmas.List.{get_or-replicate, length-set}
use Rattle.blocks.specs.Equations.{fresh_reg}
use Rattle.blocks.specs.declared.Reg.{Reg}
use Rattle.nets.specs.Net.{block_at}
use Rattle.cycles.specs.State.{plain_kind}
use Rattle.rows.proofs.Ascends.{filled_more, filled_none}
use Rattle.sim.proofs.Results.{filled-tab}
use Rattle.sim.proofs.step.fresh_state.Goals as goal

pub loop-b-init : goal.loop-b-init
loop-b-init c =
    let net = c.args.net.now in (
      omega arith,
      omega arith,
      omega arith,
      filled_none 64 (replicate 64 0) (λ k. true) (λ k. (fresh_reg (plain_kind net k)).word) (λ k h. get_or-replicate {A = ℕ} 64 k 0 0 h),
      filled_none 64 (replicate 64 0) (λ k. true) (λ k. (fresh_reg (plain_kind net k)).marks) (λ k h. get_or-replicate {A = ℕ} 64 k 0 0 h),
    )

pub loop-b-preserved : goal.loop-b-preserved
loop-b-preserved c =
    let l = c.loop-b in
    let net = c.args.net.now in
    let e : c.fresh_reg-reg.result ≡ fresh_reg (plain_kind net l.b) = c.fresh_reg-reg.ensures (block_at net l.b).m [] in (
      l.invariant.0,
      length-set l.state.words l.b _ ∙ l.invariant.1,
      length-set l.state.marks l.b _ ∙ l.invariant.2,
      filled_more 64 l.state.words l.b _ (λ k. true) (λ k. (fresh_reg (plain_kind net k)).word) l.invariant.1 (omega arith) l.invariant.3 (ap (λ (z : Reg). z.word) e),
      filled_more 64 l.state.marks l.b _ (λ k. true) (λ k. (fresh_reg (plain_kind net k)).marks) l.invariant.2 (omega arith) l.invariant.4 (ap (λ (z : Reg). z.marks) e),
    )

pub returns : goal.returns
returns c =
    let l = c.loop-b in
    let net = c.args.net.now in
    let all : l.b ≡ net.size = omega arith in
    let f : ℕ → Reg = λ k. fresh_reg (plain_kind net k) in
    let n = l.invariant.0 in
    let ws = filled-tab net f (λ (z : Reg). z.word) l.state.words refl l.invariant.1 (rw all at l.invariant.3) in
    let ms = filled-tab net f (λ (z : Reg). z.marks) l.state.marks refl l.invariant.2 (rw all at l.invariant.4) in
    λ i. record { count = n i; words = ws i; marks = ms i }
