-- `sample::ends_of_three` meets its contract. The loop's invariant: the first k ends are 3, 6, 9 and so on.
-- Assumes nothing.
use Prim.Native.Nat.{ℕ, ◌+◌, ◌*◌, ◌<◌}
use mathlib.Core.Path.{◌≡◌}
use lib.ListN.{length, get_or}
use Rattle.sample.proofs.ends_of_three.Given as goal

abbrev pub invariant-loop-k : goal.invariant-loop-k
invariant-loop-k l = (length l.end-items ≡ 32) × ((j : ℕ) → j < l.k → get_or l.end-items j 0 ≡ 3 * j + 3)
