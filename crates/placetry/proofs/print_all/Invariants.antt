-- The list has at most 6 channels, so at most 4,096 numbers.
-- Assumes nothing.
use Rattle.std.proofs.Common.{◌≤◌}
use Rattle.placetry.proofs.print_all.Given as goal

abbrev pub invariant-loop-k : goal.invariant-loop-k
invariant-loop-k g l = (l.n ≤ 6) × (l.count ≤ 4096)
