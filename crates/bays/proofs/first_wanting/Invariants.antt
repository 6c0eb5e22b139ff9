-- `bays::first_wanting` meets its contract: bay after bay from the turn on. The loop's invariant is that no bay asked before wants a cycle.
-- Assumes nothing.
use Rattle.std.proofs.Common.{◌≡◌, ℕ, ◌<◌, false}
use Rattle.bays.specs.Calls.{wants_at}
use Rattle.bays.proofs.first_wanting.Given as goal

abbrev pub invariant-loop-i : goal.invariant-loop-i
invariant-loop-i l = (j : ℕ) → j < l.i → wants_at l.turn l.want j ≡ false
