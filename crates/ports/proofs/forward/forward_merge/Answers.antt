-- `ports::forward::forward_merge` meets its contract: the two sides are put one after the other.
-- Assumes nothing.
use Rattle.std.proofs.Common.{◌≡◌, ℕ, ◌+◌, refl, sym, ap, ap₂, ◌∙◌, arith}
use Rattle.ports.proofs.ByKind.{put_port_more}
use Rattle.ports.proofs.Puts.{put_as, put_none}
use Rattle.ports.specs.Places.{sig_at, port_at}
use Rattle.ports.specs.Worked.{ins_show}
use Rattle.blocks.specs.Folds.{bit}
use Rattle.blocks.specs.Equations.{copy_out, merge_out, winner, won, recorded, report_of}
use Rattle.blocks.specs.declared.Sig.{Sig}
use Rattle.blocks.proofs.Bits.{bit_half}
use Rattle.blocks.proofs.Local.{winner-below}
use Rattle.ports.proofs.forward.forward_merge.Goals as goal

pub returns : goal.returns
returns c =
    let block = c.args.at.block.now in
    let m = block.m in
    let reg = c.args.reg in
    let x : ℕ → Sig = ins_show block (sig_at c.args.signals.now) in
    let w-is : c.winner_of-w.result ≡ recorded (winner m x reg.word) = c.winner_of-w.ensures in
    let s-is : c.won_by-a.result ≡ won m reg x = c.won_by-a.ensures (winner m x reg.word) (winner-below m x reg.word) w-is in
    let own = c.requires.own_outputs in
    let shift : (j : ℕ) → m + j ≡ m + 0 + j = λ j. omega arith in
    λ mask. put_port_more block m 2 1 (merge_out m reg x) _ _ _ c.copy_out-2.result own (omega arith)
    (put_port_more block m 2 0 (merge_out m reg x) _ _ _ c.copy_out.result own (omega arith) (put_none _ _ _)
    (put_as (λ j. port_at block (m + j)) (λ j. port_at block (m + 0 + j)) _ _ 1 _ _ (λ j h. ap (port_at block) (shift j)) (λ j h. refl) c.put.ensures)
    (c.copy_out.ensures ∙ ap (copy_out (bit 0 reg.marks)) s-is))
    c.put-2.ensures
    (c.copy_out-2.ensures ∙ ap₂ copy_out (sym (bit_half 0 reg.marks)) (c.report_of-report.ensures ∙ ap₂ report_of (ap (λ (s : Sig). s.valid) s-is) w-is))
