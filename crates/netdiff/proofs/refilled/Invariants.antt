-- What waits lies in the list, whose length stays.
-- Assumes nothing.
use Rattle.std.proofs.Common.{◌≡◌, length}
use Rattle.netdiff.specs.Waits.{Within}
use Rattle.netdiff.proofs.refilled.Given as goal

abbrev pub invariant-loop : goal.invariant-loop
invariant-loop l = Within (length l.list) l.waiting × (length l.list ≡ length l.initial.list)
