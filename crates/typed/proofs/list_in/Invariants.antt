-- What is counted lies in the list, whose length stays.
-- Assumes nothing.
use Rattle.std.proofs.Common.{◌≤◌, length, ◌≡◌}
use Rattle.typed.proofs.list_in.Given as goal

abbrev pub invariant-loop-item : goal.invariant-loop-item
invariant-loop-item l = (l.count ≤ length l.list) × (length l.list ≡ length l.initial.list)
