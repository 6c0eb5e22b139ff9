-- Laws of `shared`, the number of words that two lists share from the front: it counts pairs that agree, and no more than either list has.
-- Assumes nothing.
use mathlib.Core.Path.{◌≡◌, refl, ap, ◌∙◌}
use mathlib.Core.List.{List, [], ◌∷◌}
use mathlib.Core.Bool.{Bool, true, false, cond}
use Prim.Native.Nat.{ℕ, suc, ◌<◌, ◌≤◌, zero-le}
use native.Mathlib.Omega.{arith}
use lib.Dec.{eqb}
use lib.ListN.{length, get_or, drop}
use lib.Seq.{drop-cons}
use borrow.Author.Tests.{eq-eqb, ne_eqb}
use Rattle.std.specs.List.{zip, take_while}
use Rattle.std.proofs.lemmas.List.Sums.{take_while-cons}
use Rattle.compare.specs.Compare.{shared, more}

-- one pair more in front of those that agree
one_pair : (t : Bool) (p : ℕ × ℕ) (pairs : List (ℕ × ℕ)) (n : ℕ) → length pairs ≡ n → length (cond t (p ∷ pairs) []) ≡ more t n
one_pair true p pairs n e = ap suc e
one_pair false p pairs n e = refl

-- how many pairs agree from the front on
pub shared_pairs : (xs ys : List ℕ) → length (take_while (λ p. eqb p.0 p.1) (zip xs ys)) ≡ shared xs ys
unfolding shared
shared_pairs [] ys = refl
shared_pairs (x ∷ xs) [] = refl
shared_pairs (x ∷ xs) (y ∷ ys) =
    ap length (take_while-cons (λ p. eqb p.0 p.1) (x, y) (zip xs ys)) ∙ one_pair (eqb x y) (x, y) _ _ (shared_pairs xs ys)

-- ## Past the first i of each list

module _ (xs ys : List ℕ) (i : ℕ) where
  -- words that differ: nothing more is shared
  pub parted : i < length xs → i < length ys → (get_or xs i 0 ≡ get_or ys i 0 → ⊥) → shared (drop i xs) (drop i ys) ≡ 0
  unfolding shared
  parted hx hy ne = rw (drop-cons xs i 0 hx, drop-cons ys i 0 hy, ne_eqb (get_or xs i 0) (get_or ys i 0) ne)

  -- words that agree: one more
  pub agreed : i < length xs → i < length ys → get_or xs i 0 ≡ get_or ys i 0
      → shared (drop i xs) (drop i ys) ≡ suc (shared (drop (suc i) xs) (drop (suc i) ys))
  unfolding shared
  agreed hx hy e = rw (drop-cons xs i 0 hx, drop-cons ys i 0 hy, eq-eqb (get_or xs i 0) (get_or ys i 0) e)

-- ## No more is shared than either list has

more_within : (t : Bool) {n m : ℕ} → n ≤ m → more t n ≤ suc m
more_within true h = omega arith
more_within false h = zero-le

pub within_first : (xs ys : List ℕ) → shared xs ys ≤ length xs
unfolding shared
within_first [] ys = zero-le
within_first (x ∷ xs) [] = zero-le
within_first (x ∷ xs) (y ∷ ys) = more_within (eqb x y) (within_first xs ys)

pub within_second : (xs ys : List ℕ) → shared xs ys ≤ length ys
unfolding shared
within_second [] ys = zero-le
within_second (x ∷ xs) [] = zero-le
within_second (x ∷ xs) (y ∷ ys) = more_within (eqb x y) (within_second xs ys)
