-- `ports::backward::backward_mux` meets its contract: the select is ready when the output delivers, and so is the selected input.
-- Assumes nothing.
use Rattle.std.proofs.Common.{◌≡◌, refl, sym, ap, ap₂, ◌∙◌, ℕ, ◌+◌, Bool, ◌&&◌, eqb, arith}
use Rattle.std.proofs.Math.Option.{Option}
use Rattle.blocks.specs.Signals.{named}
use Rattle.blocks.specs.Words.{reach}
use Rattle.blocks.specs.Kinds.{mux}
use Rattle.blocks.specs.declared.Sig.{Sig}
use Rattle.ports.proofs.ByKind.{first_and_more}
use Rattle.ports.specs.Places.{sig_at, ready_at, port_at}
use Rattle.ports.specs.Worked.{went_at}
use Rattle.ports.proofs.backward.backward_mux.Goals as goal

plus_zero : (n : ℕ) → n ≡ n + 0
plus_zero n = omega arith

pub returns : goal.returns
returns c mask r =
    let a = c.args in
    let m : ℕ = a.at.block.now.m in
    let t = c.port_of-t in
    let go = c.moved-go in
    let s : _ ≡ sig_at a.signals.now (port_at a.at.block.now 0) = ap (sig_at a.signals.now) c.place.ensures.0 in
    let went : ℕ → Bool = λ k. (sig_at a.signals.now k).valid && ready_at a.ready.now k in
    let g : go.result ≡ went_at (m + 1) a.at.block.now a.signals.now a.ready.now 0 =
    (go.ensures ∙ ap went c.place-2.ensures.0) ∙ ap (λ (k : ℕ). went (port_at a.at.block.now k)) (plus_zero (m + 1)) in
    first_and_more (mux m) mask r a.at.block.now (sig_at a.signals.now) _ go.result (λ j. go.result && eqb j t.result) m _ _ refl
    c.requires.own_inputs c.put_ready.ensures c.ready_chosen.ensures g
    (λ i h. ap₂ ◌&&◌ g (ap (λ (o : Option ℕ). named o (eqb i)) (sym t.ensures.s_value) ∙ ap (λ (z : Sig). named (reach m z.word) (eqb i)) s))
