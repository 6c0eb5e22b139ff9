-- `compare::gathering::fill` meets its contract. The loop's invariant: the channel's words among the first i records, k of them, stand at the front of the list, and what follows is
-- as it was.
-- Assumes nothing.
use Rattle.recorded.specs.Recorded.{records_read}
use Rattle.compare.proofs.Words.{Filled}
use Rattle.compare.proofs.gathering.fill.Given as goal

abbrev pub invariant-loop-i : goal.invariant-loop-i
invariant-loop-i l = Filled l.channel (records_read l.trace) l.initial.list l.list l.k l.i
