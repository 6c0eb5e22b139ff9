-- The streams of the arguments read so far lie in the two lists, whose lengths stay.
-- Assumes nothing.
use Rattle.std.proofs.Common.{◌≡◌, ◌≤◌, length}
use Rattle.netstall.proofs.streams_given.Given as goal

abbrev pub invariant-loop-i : goal.invariant-loop-i
invariant-loop-i l =
    ((l.streams.words ≤ length l.words) × (l.streams.count ≤ length l.ends))
    × ((length l.words ≡ length l.initial.words) × (length l.ends ≡ length l.initial.ends))
