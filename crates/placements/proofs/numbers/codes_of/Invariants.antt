-- `placements::numbers::codes_of` meets its contract: digit after digit from the last; the loop's invariant is that the codes from j on are written, those beyond are 0, and rest is
-- what is above them.
-- Assumes nothing.
use mathlib.Core.Path.{◌≡◌}
use mathlib.Core.List.{List}
use Prim.Native.Nat.{ℕ, ◌-◌, ◌/◌, ◌%◌, ◌^◌, ◌≤◌, ◌<◌}
use lib.ListN.{length, get_or}
use Rattle.placements.proofs.numbers.codes_of.Given as goal

-- of n codes those from j on are those of k, and those from n on are 0
pub record Written (n k j : ℕ) (codes : List ℕ) : Type 0 where
  pub long : length codes ≡ 6
  pub last : (i : ℕ) → j ≤ i → i < n → get_or codes i 0 ≡ (k / 4 ^ (n - 1 - i)) % 4
  pub beyond : (i : ℕ) → n ≤ i → i < 6 → get_or codes i 0 ≡ 0

abbrev pub invariant-loop-j : goal.invariant-loop-j
invariant-loop-j l = (l.rest ≡ l.k / 4 ^ (l.n - l.j)) × Written l.n l.k l.j l.codes
