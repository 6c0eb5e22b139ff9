-- `ports::backward::backward_fork` meets its contract: copy after copy is asked; the loop's invariant is that go says that the input is valid and none of the first i hinders.
-- Assumes nothing.
use Rattle.std.proofs.Common.{◌≡◌, refl, ap, ◌∙◌, ℕ, Bool, ◌&&◌, arith}
use Rattle.blocks.specs.Folds.{all_below}
use Rattle.blocks.specs.Kinds.{fork}
use Rattle.blocks.proofs.Folds.{all_besides, all_besides_more}
use Rattle.ports.specs.Places.{sig_at}
use Rattle.ports.specs.Worked.{free_at}
use Rattle.ports.proofs.ByKind.{one_input}
use Rattle.ports.proofs.Copies.{copied_ready}
use Rattle.ports.proofs.backward.backward_fork.Goals as goal

pub loop-i-init : goal.loop-i-init
loop-i-init c =
    let a = c.args in
    let more = all_besides_more (free_at a.at.block.now a.signals.now a.ready.now) _ in
    c.with_copy-go-2.ensures ∙ more c.with_copy-go.result _ 1 (c.with_copy-go.ensures ∙ more _ _ 0 (all_besides _ _) refl) refl

pub loop-i-preserved : goal.loop-i-preserved
loop-i-preserved c =
    let a = c.args in
    c.with_copy-go-in-loop-i.ensures ∙ all_besides_more (free_at a.at.block.now a.signals.now a.ready.now) _ c.loop-i.go _ c.loop-i.i c.loop-i.invariant refl

pub returns : goal.returns
returns c mask r copied =
    let a = c.args in
    let all : c.loop-i.i ≡ a.at.block.now.m = omega arith in
    let input = ap (λ (k : ℕ). (sig_at a.signals.now k).valid) c.place.ensures.0 in
    one_input (fork a.at.block.now.m) mask r a.at.block.now (sig_at a.signals.now) _ c.loop-i.go _ refl c.put_ready.ensures
    (rw all at c.loop-i.invariant ∙ ap (λ (t : Bool). t && all_below (free_at a.at.block.now a.signals.now a.ready.now) a.at.block.now.m) input
    ∙ copied_ready a.at.block.now.m r.marks a.at.block.now a.signals.now copied a.ready.now _ refl)
