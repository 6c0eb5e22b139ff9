-- `signals::ends::offer_sources` meets its contract: source after source; the loop's invariant is that the first k show what they offer, that their ends are numbers of 32 bits, that start is the end before source k, and that rest is the mask from bit k on.
-- Assumes nothing.
use Rattle.std.proofs.Common.{◌≡◌, ℕ, ◌/◌, ◌^◌, ◌<◌, get_or}
use Rattle.blocks.specs.Folds.{bit}
use Rattle.blocks.specs.Equations.{source_out}
use Rattle.blocks.specs.States.{reg_in}
use Rattle.cycles.specs.Streams.{end_before}
use Rattle.ports.specs.Places.{sig_at}
use Rattle.passes.specs.Rows.{in_no}
use Rattle.rows.specs.Ends.{read, stream_no}
use Rattle.signals.proofs.ends.offer_sources.Given as goal

abbrev pub invariant-loop-k : goal.invariant-loop-k
invariant-loop-k l =
    (l.rest ≡ l.fn.offer / 2 ^ l.k) × (l.start ≡ end_before (read l.streams.ends) l.k) × ((j : ℕ) → j < l.k → get_or (read l.streams.ends) j 0 < 2 ^ 32)
    × ((j : ℕ) → j < l.k → sig_at l.signals (in_no l.laid.net.now (get_or l.list j 0) 0) ≡ source_out (stream_no (read l.streams.words) (read l.streams.ends) j) (reg_in l.state (get_or l.list j 0)) (bit j l.fn.offer))
