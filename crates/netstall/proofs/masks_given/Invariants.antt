-- The masks of the arguments read so far lie in the list, whose length stays.
-- Assumes nothing.
use Rattle.std.proofs.Common.{◌≡◌, ◌≤◌, length}
use Rattle.netstall.proofs.masks_given.Given as goal

abbrev pub invariant-loop-i : goal.invariant-loop-i
invariant-loop-i l = (l.masks.count ≤ length l.list) × (length l.list ≡ length l.initial.list)
