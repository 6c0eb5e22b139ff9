-- `asking::first_of` meets its contract: the loop's invariant is that the question can be handed to no port before i.
-- Assumes nothing.
use Rattle.std.proofs.Common.{◌≡◌, ℕ, ◌<◌, false}
use Rattle.asking.specs.Rows.{takes_it}
use Rattle.asking.proofs.first_of.Given as goal

abbrev pub invariant-loop-i : goal.invariant-loop-i
invariant-loop-i l = (q : ℕ) → q < l.i → takes_it l.side l.chosen l.first l.at.block.now l.signals l.ready q ≡ false
