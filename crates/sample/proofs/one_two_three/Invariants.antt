-- `sample::one_two_three` meets its contract. The loop's invariant: the first i words are 1, 2, 3 over and over.
-- Assumes nothing.
use Prim.Native.Nat.{ℕ, ◌+◌, ◌%◌, ◌<◌}
use mathlib.Core.Path.{◌≡◌}
use lib.ListN.{length, get_or}
use Rattle.sample.proofs.one_two_three.Given as goal

abbrev pub invariant-loop-i : goal.invariant-loop-i
invariant-loop-i l = (length l.word-items ≡ 96) × ((k : ℕ) → k < l.i → get_or l.word-items k 0 ≡ k % 3 + 1)
