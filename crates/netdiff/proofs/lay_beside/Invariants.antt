-- What waits of each file lies in its list.
-- Assumes nothing.
use Rattle.std.proofs.Common.{length}
use Rattle.netdiff.specs.Waits.{Within}
use Rattle.netdiff.proofs.lay_beside.Given as goal

abbrev pub invariant-loop : goal.invariant-loop
invariant-loop l = Within (length l.a) l.at.first × Within (length l.b) l.at.second
