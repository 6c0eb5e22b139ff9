-- `signals::ends::ready_sinks` meets its contract: sink after sink; the loop's invariant is that the first are ready as their bits say, and that rest is the mask from the next one's bit on.
-- Assumes nothing.
use Rattle.std.proofs.Common.{◌≡◌, ℕ, ◌/◌, ◌^◌, ◌<◌, get_or}
use Rattle.blocks.specs.Folds.{bit}
use Rattle.ports.specs.Places.{ready_at}
use Rattle.passes.specs.Rows.{in_no}
use Rattle.signals.proofs.ends.ready_sinks.Given as goal

abbrev pub invariant-loop-b : goal.invariant-loop-b
invariant-loop-b l = (l.rest ≡ l.fn.mask / 2 ^ l.b-index) × ((j : ℕ) → j < l.b-index → ready_at l.ready (in_no l.laid.net.now (get_or l.list j 0) 0) ≡ bit j l.fn.mask)
