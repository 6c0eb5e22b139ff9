-- `compare::gathering::count_on` meets its contract. The loop's invariant: k is the number of the channel's words among the first i records.
-- Assumes nothing.
use Prim.Native.Nat.{◌≤◌}
use mathlib.Core.Path.{◌≡◌}
use lib.ListN.{length}
use Rattle.recorded.specs.Recorded.{records_read}
use Rattle.compare.proofs.Words.{first}
use Rattle.compare.proofs.gathering.count_on.Given as goal

abbrev pub invariant-loop-i : goal.invariant-loop-i
invariant-loop-i l = record { few : l.k ≤ l.i; number : l.k ≡ length (first l.channel (records_read l.trace) l.i) }
