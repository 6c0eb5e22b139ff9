-- `ports::backward::backward_merge` meets its contract: the winner's input is ready when both sides are done.
-- Assumes nothing.
use Rattle.std.proofs.Common.{◌≡◌, refl, ap, ap₂, ◌∙◌, ℕ, Bool, ◌&&◌, eqb, []}
use Rattle.std.proofs.Math.Option.{Option}
use Rattle.blocks.specs.Signals.{chosen}
use Rattle.blocks.specs.Equations.{all_done, winner, recorded}
use Rattle.blocks.specs.Kinds.{merge}
use Rattle.blocks.specs.declared.Sig.{Sig}
use Rattle.blocks.proofs.Options.{won-number}
use Rattle.blocks.proofs.Local.{winner-below}
use Rattle.ports.proofs.ByKind.{all_inputs}
use Rattle.ports.specs.Places.{sig_at}
use Rattle.ports.specs.Worked.{ins_show, went_at}
use Rattle.ports.proofs.backward.backward_merge.Goals as goal

pub returns : goal.returns
returns c mask =
    let a = c.args in
    let m : ℕ = a.at.block.now.m in
    let x : ℕ → Sig = ins_show a.at.block.now (sig_at a.signals.now) in
    let o : Option ℕ = winner m x a.reg.word in
    let d : ℕ → Bool = went_at m a.at.block.now a.signals.now a.ready.now in
    let w-is : c.winner_of-w.result ≡ recorded o = c.winner_of-w.ensures in
    let s-is : c.won_by-a.result ≡ chosen o x = c.won_by-a.ensures o (winner-below m x a.reg.word) w-is in
    let g : c.fork_ready-go.result ≡ ((chosen o x).valid && all_done 2 a.reg.marks d) =
    c.fork_ready-go.ensures a.reg.marks d c.gone_with-gone.ensures ∙ ap (λ (s : Sig). s.valid && all_done 2 a.reg.marks d) s-is in
    all_inputs (merge m []) mask a.reg a.at.block.now (sig_at a.signals.now) _
    (λ j. c.fork_ready-go.result && eqb j c.saturating_sub.result) _ m refl
    c.ready_chosen.ensures
    (λ i h. ap₂ ◌&&◌ g (ap (eqb i) c.saturating_sub.ensures) ∙ won-number o x (all_done 2 a.reg.marks d) i c.winner_of-w.result w-is)
