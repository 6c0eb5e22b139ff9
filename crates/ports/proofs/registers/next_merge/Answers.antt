-- `ports::registers::next_merge` meets its contract: by the winner, and the sides that are done.
-- Assumes nothing.
use Rattle.std.proofs.Common.{◌≡◌, ap, ap₂, ◌∙◌, ℕ, Bool}
use Rattle.std.proofs.Math.Option.{Option}
use Rattle.blocks.specs.Signals.{chosen}
use Rattle.blocks.specs.Equations.{all_done, winner, recorded, merge_next}
use Rattle.blocks.specs.declared.Sig.{Sig}
use Rattle.blocks.proofs.Local.{winner-below}
use Rattle.ports.specs.Places.{sig_at}
use Rattle.ports.specs.Worked.{ins_show, went_at}
use Rattle.ports.proofs.registers.next_merge.Goals as goal

pub returns : goal.returns
returns c =
    let a = c.args in
    let m : ℕ = a.at.block.now.m in
    let x : ℕ → Sig = ins_show a.at.block.now (sig_at a.signals.now) in
    let o : Option ℕ = winner m x a.reg.word in
    let d : ℕ → Bool = went_at m a.at.block.now a.signals.now a.ready.now in
    let w-is : c.winner_of-w.result ≡ recorded o = c.winner_of-w.ensures in
    let s-is : c.won_by-a.result ≡ chosen o x = c.won_by-a.ensures o (winner-below m x a.reg.word) w-is in
    let done : c.fork_ready-done.result ≡ all_done 2 a.reg.marks d = c.fork_ready-done.ensures a.reg.marks d c.gone_with-gone.ensures in
    c.merge_next.ensures ∙ ap (λ (s : Sig). merge_next a.reg s.valid c.fork_ready-done.result c.winner_of-w.result c.gone_with-gone.result) s-is
    ∙ ap (λ (t : Bool). merge_next a.reg (chosen o x).valid t c.winner_of-w.result c.gone_with-gone.result) done
    ∙ ap₂ (merge_next a.reg (chosen o x).valid (all_done 2 a.reg.marks d)) w-is c.gone_with-gone.ensures
