-- `asking::first_of` meets its contract: the loop's invariant is that the question can be handed to no port before i.
-- Assumes nothing.
use Rattle.std.proofs.Common.{◌≡◌, sym, ◌∙◌, ℕ, Bool, false, below_more, arith}
use Rattle.blocks.proofs.Folds.{lowest-none, lowest_found}
use Rattle.asking.specs.Rows.{takes_it}
use Rattle.asking.proofs.first_of.Goals as goal

pub returns-then-takes_it : goal.returns-then-takes_it
returns-then-takes_it c =
    let a = c.args in
    let f : ℕ → Bool = takes_it a.side a.chosen a.first a.at.block.now a.signals.now a.ready.now in
    (lowest_found f a.n c.loop-i.i (omega arith) (sym c.takes_it.ensures ∙ c.if-takes_it.true) c.loop-i.invariant, omega arith)

pub loop-i-preserved : goal.loop-i-preserved
loop-i-preserved c =
    let a = c.args in
    below_more (λ q. takes_it a.side a.chosen a.first a.at.block.now a.signals.now a.ready.now q ≡ false) c.loop-i.i c.loop-i.invariant (sym c.takes_it.ensures ∙ c.if-takes_it.false)

pub returns : goal.returns
returns c =
    let a = c.args in
    lowest-none (takes_it a.side a.chosen a.first a.at.block.now a.signals.now a.ready.now) a.n (λ q h. c.loop-i.invariant q (omega arith))
