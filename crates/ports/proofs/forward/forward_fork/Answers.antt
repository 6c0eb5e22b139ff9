-- `ports::forward::forward_fork` meets its contract: copy after copy is put; the loop's invariant is that the first i are, and that rest is the marks from bit i on.
-- Assumes nothing.
use Rattle.std.proofs.Common.{◌≡◌, ℕ, ◌/◌, ◌≤◌, refl, ap, arith}
use Rattle.ports.proofs.Copies.{copy_more}
use Rattle.ports.proofs.Puts.{put_as, put_none}
use Rattle.ports.specs.Places.{sig_at}
use Rattle.blocks.specs.Folds.{bit}
use Rattle.blocks.specs.Equations.{copy_out}
use Rattle.blocks.proofs.Bits.{rest_half}
use Rattle.ports.proofs.forward.forward_fork.Goals as goal

pub loop-i-init : goal.loop-i-init
loop-i-init c =
    let block = c.args.at.block.now in
    let marks = c.args.reg.marks in
    let own = c.requires.own_outputs in (
      omega arith,
      copy_more block block.m 1 marks (marks / 2) _ _ _ _ own (omega arith) (omega arith)
          (copy_more block block.m 0 marks marks _ _ _ _ own (omega arith) (omega arith) (put_none _ _ _) c.put_copy.ensures) c.put_copy-2.ensures,
    )

pub loop-i-preserved : goal.loop-i-preserved
loop-i-preserved c =
    let l = c.loop-i in
    let block = c.args.at.block.now in
    let marks = c.args.reg.marks in (
      rest_half l.i marks l.rest l.invariant.0,
      copy_more block block.m l.i marks l.rest _ _ _ _ c.requires.own_outputs (omega arith) l.invariant.0 l.invariant.1 c.put_copy-in-loop-i.ensures,
    )

pub returns : goal.returns
returns c =
    let l = c.loop-i in
    let signals = c.args.signals.now in
    let marks = c.args.reg.marks in
    let least : 2 ≤ c.args.at.block.now.m = c.requires.le_m in
    let all : l.i ≡ c.args.at.block.now.m = omega arith in
    λ mask. put_as _ _ (λ j. copy_out (bit j marks) (sig_at signals c.place.result)) _ _ _ _ (λ j h. refl)
    (λ j h. ap (λ (k : ℕ). copy_out (bit j marks) (sig_at signals k)) c.place.ensures.0) (rw all at l.invariant.1)
