-- The library's tests of a list's elements, and the tests of its indices.
-- Assumes nothing.
use mathlib.Core.Path.{◌≡◌, refl, sym, ◌∙◌, ap}
use mathlib.Core.Bool.{Bool, true, false, ◌&&◌}
use mathlib.Core.List.{List, [], ◌∷◌}
use mathlib.Core.Logic.{◌⊎◌, inl, inr}
use Prim.Native.Nat.{ℕ, zero, suc, ◌+◌, ◌≤◌, ◌<◌}
use native.Mathlib.Omega.{arith}
use lib.Dec.{eqb, ltb}
use lib.ListN.{length, get_or, take, replicate}
use lib.Pointwise.{pointwise}
use borrow.Author.Tests.{le-ltb}
use Rattle.std.proofs.Common.{count_by, add-one}
use Rattle.std.specs.List.{list_all}
use Rattle.std.proofs.lemmas.List.Sums.{count_by_more_yes, count_by_more_no}
use Rattle.std.proofs.lemmas.List.Folds.{list_all_more}
use Rattle.blocks.specs.Folds.{one, all_below, count_below}
use Rattle.nets.specs.Block.{port_ok, ports_ok}
use Rattle.blocks.proofs.Folds.{which, all_same}

module _ {A : Type 0} (p : A → Bool) (d : A) (xs : List A) where
  count_more_taken : (n : ℕ) → n < length xs → count_by p (take n xs) ≡ count_below (λ i. p (get_or xs i d)) n
      → (p (get_or xs n d) ≡ true) ⊎ (p (get_or xs n d) ≡ false) → count_by p (take (suc n) xs) ≡ count_below (λ i. p (get_or xs i d)) n + one (p (get_or xs n d))
  count_more_taken n h e (inl t) = rw (sym (add-one n), t) (count_by_more_yes p xs n d h t ∙ ap (λ (k : ℕ). k + 1) e)
  count_more_taken n h e (inr f) = rw (sym (add-one n), f) (count_by_more_no p xs n d h f ∙ e ∙ omega arith)

  pub count_taken : (n : ℕ) → n ≤ length xs → count_by p (take n xs) ≡ count_below (λ i. p (get_or xs i d)) n
  unfolding count_below
  count_taken zero h = refl
  count_taken (suc n) h = count_more_taken n (omega arith) (count_taken n (omega arith)) (which (p (get_or xs n d)))

  pub all_taken : (n : ℕ) → n ≤ length xs → list_all p (take n xs) ≡ all_below (λ i. p (get_or xs i d)) n
  unfolding all_below
  all_taken zero h = refl
  all_taken (suc n) h = rw (sym (add-one n)) (list_all_more p xs n d (omega arith) ∙ ap (λ (b : Bool). b && p (get_or xs n d)) (all_taken n (omega arith)))

-- ## Ports that are all 0

and-assoc : (a b c : Bool) → ((a && b) && c) ≡ (a && (b && c))
and-assoc true b c = refl
and-assoc false b c = refl

and-true : (a : Bool) → (true && a) ≡ (a && true)
and-true true = refl
and-true false = refl

all_from_first : (f : ℕ → Bool) (n : ℕ) → all_below f (suc n) ≡ (f 0 && all_below (λ i. f (suc i)) n)
unfolding all_below
all_from_first f zero = and-true (f 0)
all_from_first f (suc n) = ap (λ (b : Bool). b && f (suc n)) (all_from_first f n) ∙ and-assoc (f 0) (all_below (λ i. f (suc i)) n) (f (suc n))

all-zero : (xs : List ℕ) (n : ℕ) → length xs ≡ n → pointwise eqb xs (replicate n 0) ≡ all_below (λ i. eqb (get_or xs i 0) 0) n
unfolding all_below
all-zero [] zero h = refl
all-zero [] (suc n) h = absurd (omega arith)
all-zero (x ∷ xs) zero h = absurd (omega arith)
all-zero (x ∷ xs) (suc n) h =
    ap (λ (b : Bool). eqb x 0 && b) (all-zero xs n (omega arith)) ∙ sym (all_from_first (λ i. eqb (get_or (x ∷ xs) i 0) 0) n)

pub zero-ports : (ports : List ℕ) → length ports ≡ 10 → pointwise eqb ports (replicate 10 0) ≡ ports_ok ports 0 0
unfolding ports_ok
zero-ports ports h =
    all-zero ports 10 h
    ∙ all_same (λ i. eqb (get_or ports i 0) 0) (λ i. port_ok (get_or ports i 0) (ltb i 0) 0) 10 (λ i q. rw (le-ltb i 0 (omega arith)) refl)
