-- Induction from a number on.
-- Assumes nothing.
use mathlib.Core.Path.{◌≡◌, subst}
use Prim.Native.Nat.{ℕ, zero, suc, ◌+◌, ◌-◌, ◌≤◌}
use native.Mathlib.Omega.{arith}

module _ (P : ℕ → Type 0) (n : ℕ) (p : P n) (next : (m : ℕ) → n ≤ m → P m → P (m + 1)) where
  further : (d : ℕ) → P (n + d)
  further zero = subst P same p
    where
      same : n ≡ n + 0
      same = omega arith
  further (suc d) = subst P same (next (n + d) (omega arith) (further d))
    where
      same : n + d + 1 ≡ n + suc d
      same = omega arith

  -- what holds of n, and passes from each number from n on to the next, holds from n on
  pub from_on : (m : ℕ) → n ≤ m → P m
  from_on m l = subst P same (further (m - n))
    where
      same : n + (m - n) ≡ m
      same = omega arith
