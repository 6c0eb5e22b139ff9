-- Counting in two parts, and counting what never passes.
-- Assumes nothing.
use Prim.Native.Nat.{ℕ, zero, suc, ◌+◌, ◌<◌}
use mathlib.Core.Path.{◌≡◌, refl, ◌∙◌, ap}
use mathlib.Core.Bool.{Bool, false}
use native.Mathlib.Omega.{arith}
use Rattle.blocks.specs.Folds.{count_below}

pub count_never : (f : ℕ → Bool) (n : ℕ) → ((i : ℕ) → i < n → f i ≡ false) → count_below f n ≡ 0
unfolding count_below
count_never f zero h = refl
count_never f (suc n) h = rw (count_never f n (λ i q. h i (omega arith)), h n (omega arith))

pub count_parts : (f : ℕ → Bool) (a k : ℕ) → count_below f (a + k) ≡ count_below f a + count_below (λ i. f (a + i)) k
unfolding count_below
count_parts f a zero = let z : a + 0 ≡ a = omega arith in ap (count_below f) z ∙ omega arith
count_parts f a (suc k) =
    let z : a + suc k ≡ suc (a + k) = omega arith in
    ap (count_below f) z ∙ omega (arith, count_parts f a k)
