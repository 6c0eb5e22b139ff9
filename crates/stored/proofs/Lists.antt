-- Laws of a property that each element of a list has.
-- Assumes nothing.
use Prim.Native.Nat.{ℕ, zero, suc}
use mathlib.Core.Path.{◌≡◌, refl, ap₂}
use mathlib.Core.List.{List, [], ◌∷◌, ◌++◌}
use lib.ListN.{length, take, drop, replicate}
use Rattle.stored.specs.Sizes.{All}

pub all_so : {A : Type 0} {P Q : A → Type 0} (l : List A) → ((a : A) → P a → Q a) → All P l → All Q l
all_so [] f p = tt
all_so (a ∷ l) f p = (f a p.0, all_so l f p.1)

pub all_with : {A : Type 0} {P Q R : A → Type 0} (l : List A) → ((a : A) → P a → Q a → R a) → All P l → All Q l → All R l
all_with [] f p q = tt
all_with (a ∷ l) f p q = (f a p.0 q.0, all_with l f p.1 q.1)

module _ {A : Type 0} (P : A → Type 0) where
  pub all_take : (n : ℕ) (l : List A) → All P l → All P (take n l)
  all_take zero l p = tt
  all_take (suc n) [] p = tt
  all_take (suc n) (a ∷ l) p = (p.0, all_take n l p.1)

  pub all_drop : (n : ℕ) (l : List A) → All P l → All P (drop n l)
  all_drop zero l p = p
  all_drop (suc n) [] p = tt
  all_drop (suc n) (a ∷ l) p = all_drop n l p.1

  pub all_append : (l m : List A) → All P l → All P m → All P (l ++ m)
  all_append [] m p q = q
  all_append (a ∷ l) m p q = (p.0, all_append l m p.1 q)

module _ {A : Type 0} (z : A) where
  pub all_same : (l : List A) → All (λ a. a ≡ z) l → l ≡ replicate (length l) z
  all_same [] p = refl
  all_same (a ∷ l) p = ap₂ ◌∷◌ p.0 (all_same l p.1)

  pub same_all : (m : ℕ) → All (λ a. a ≡ z) (replicate m z)
  same_all zero = tt
  same_all (suc m) = (refl, same_all m)
