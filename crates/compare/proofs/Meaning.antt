-- What `compared_of` answers is so, and nothing else is. Of two lists of which one begins the other it never answers a difference, and words that both begin with only move its place.
-- Assumes nothing.
use mathlib.Core.Path.{◌≡◌, refl, sym, subst, ap, ◌∙◌}
use mathlib.Core.Bool.{Bool, true, false}
use mathlib.Core.Logic.{◌≢◌, ◌⊎◌, inl, inr}
use mathlib.Core.List.{List, [], ◌∷◌, ◌++◌, IsPrefix}
use Prim.Native.Nat.{ℕ, suc, ◌<◌}
use native.Mathlib.Omega.{arith}
use lib.ListN.{length, get_or, take, drop, get_or-append}
use lib.Seq.{get_or-take}
use lib.Dec.{eqb, ltb}
use borrow.Author.Tests.{eqb-true, eqb-false, eq-eqb, ltb-true, ltb-false}
use Rattle.blocks.proofs.Options.{test}
use Rattle.compare.specs.declared.Compared.{Compared}
use Rattle.compare.specs.declared.Compared.TheVariants.{Equal, FirstBegins, SecondBegins, Differ}
use Rattle.compare.specs.Compare.{Says, more, shared, verdict, compared_of}

-- ## What is answered is so

-- one equal word in front
one_more : (x y : ℕ) (xs ys : List ℕ) (n : ℕ) (left other : List ℕ) → x ≡ y → Says xs ys (verdict n left other) → Says (x ∷ xs) (y ∷ ys) (verdict (suc n) left other)
one_more x y xs ys n [] [] e h = cc
one_more x y xs ys n [] (b ∷ bs) e h = ((h.0.0, cc h.0.1), omega (arith, h.1))
one_more x y xs ys n (a ∷ as') [] e h = ((h.0.0, cc h.0.1), omega (arith, h.1))
one_more x y xs ys n (a ∷ as') (b ∷ bs) e h = (omega (arith, h.0), omega (arith, h.1), cc h.2, h.3)

-- by whether the heads agree
by_heads : (x y : ℕ) (xs ys : List ℕ) (t : Bool) → eqb x y ≡ t
    → Says xs ys (verdict (shared xs ys) (drop (shared xs ys) xs) (drop (shared xs ys) ys))
    → Says (x ∷ xs) (y ∷ ys) (verdict (more t (shared xs ys)) (drop (more t (shared xs ys)) (x ∷ xs)) (drop (more t (shared xs ys)) (y ∷ ys)))
by_heads x y xs ys true e h = one_more x y xs ys (shared xs ys) (drop (shared xs ys) xs) (drop (shared xs ys) ys) (eqb-true x y e) h
by_heads x y xs ys false e h = (omega arith, omega arith, refl, eqb-false x y e)

pub says : (xs ys : List ℕ) → Says xs ys (compared_of xs ys)
unfolding compared_of shared
says [] [] = refl
says [] (y ∷ ys) = ((y ∷ ys, refl), omega arith)
says (x ∷ xs) [] = ((x ∷ xs, refl), omega arith)
says (x ∷ xs) (y ∷ ys) = by_heads x y xs ys (eqb x y) refl (says xs ys)

-- an answer that is worked out, with what it says
pub said : (xs ys : List ℕ) (v : Compared) → v ≡ compared_of xs ys → (v ≡ compared_of xs ys) × Says xs ys v
said xs ys v e = (e, subst (Says xs ys) (sym e) (says xs ys))

-- ## Nothing else is so

-- a list that begins another agrees with it at each of its places
begun : (xs ys : List ℕ) → IsPrefix xs ys → (n : ℕ) → n < length xs → get_or xs n 0 ≡ get_or ys n 0
begun xs ys p n h = sym (get_or-append xs p.0 0 n h) ∙ ap (λ (l : List ℕ). get_or l n 0) p.1

-- lists that agree up to m agree at each place before
agree : (xs ys : List ℕ) (n m : ℕ) → n < m → take m xs ≡ take m ys → get_or xs n 0 ≡ get_or ys n 0
agree xs ys n m h e = sym (get_or-take m xs n 0 h) ∙ ap (λ (l : List ℕ). get_or l n 0) e ∙ get_or-take m ys n 0 h

module _ (xs ys : List ℕ) where
  not_equal : (n : ℕ) → xs ≡ ys → Says xs ys (Differ n) → ⊥
  not_equal n e d = d.3 (ap (λ (l : List ℕ). get_or l n 0) e)

  not-begun : (n : ℕ) → IsPrefix xs ys ⊎ IsPrefix ys xs → Says xs ys (Differ n) → ⊥
  not-begun n (inl p) d = d.3 (begun xs ys p n d.0)
  not-begun n (inr p) d = d.3 (sym (begun ys xs p n d.1))

  one_place : (n m : ℕ) → Says xs ys (Differ n) → Says xs ys (Differ m) → n ≡ m
  one_place n m d e =
      test (ltb n m) (λ q. absurd (d.3 (agree xs ys n m (ltb-true n m q) e.2)))
      (λ q. test (ltb m n) (λ r. absurd (e.3 (agree xs ys m n (ltb-true m n r) d.2))) (λ r. omega (arith, ltb-false n m q, ltb-false m n r)))

  -- no two answers hold of one pair of lists
  pub one_answer : (v w : Compared) → Says xs ys v → Says xs ys w → v ≡ w
  one_answer Equal Equal p q = refl
  one_answer Equal FirstBegins p q = absurd (omega (arith, ap length p, q.1))
  one_answer Equal SecondBegins p q = absurd (omega (arith, ap length p, q.1))
  one_answer Equal (Differ n) p q = absurd (not_equal n p q)
  one_answer FirstBegins Equal p q = absurd (omega (arith, ap length q, p.1))
  one_answer FirstBegins FirstBegins p q = refl
  one_answer FirstBegins SecondBegins p q = absurd (omega (arith, p.1, q.1))
  one_answer FirstBegins (Differ n) p q = absurd (not-begun n (inl p.0) q)
  one_answer SecondBegins Equal p q = absurd (omega (arith, ap length q, p.1))
  one_answer SecondBegins FirstBegins p q = absurd (omega (arith, p.1, q.1))
  one_answer SecondBegins SecondBegins p q = refl
  one_answer SecondBegins (Differ n) p q = absurd (not-begun n (inr p.0) q)
  one_answer (Differ n) Equal p q = absurd (not_equal n q p)
  one_answer (Differ n) FirstBegins p q = absurd (not-begun n (inl q.0) p)
  one_answer (Differ n) SecondBegins p q = absurd (not-begun n (inr q.0) p)
  one_answer (Differ n) (Differ m) p q = ap Differ (one_place n m p q)

  -- of two lists of which one begins the other it is never a difference
  pub never_differ : IsPrefix xs ys ⊎ IsPrefix ys xs → (n : ℕ) → compared_of xs ys ≢ Differ n
  never_differ p n e = not-begun n p (subst (Says xs ys) e (says xs ys))

-- ## Piece by piece

-- a difference stands one place later
abbrev pub later : Compared → Compared
later Equal = Equal
later FirstBegins = FirstBegins
later SecondBegins = SecondBegins
later (Differ n) = Differ (suc n)

abbrev pub later_by : List ℕ → Compared → Compared
later_by [] v = v
later_by (z ∷ zs) v = later (later_by zs v)

later_is : (n : ℕ) (xs ys : List ℕ) → verdict (suc n) xs ys ≡ later (verdict n xs ys)
later_is n [] [] = refl
later_is n [] (y ∷ ys) = refl
later_is n (x ∷ xs) [] = refl
later_is n (x ∷ xs) (y ∷ ys) = refl

one_later : (z : ℕ) (xs ys : List ℕ) → compared_of (z ∷ xs) (z ∷ ys) ≡ later (compared_of xs ys)
unfolding compared_of shared
one_later z xs ys = rw (eq-eqb z z refl) (later_is (shared xs ys) (drop (shared xs ys) xs) (drop (shared xs ys) ys))

-- Words zs that both lists begin with can be passed over, as netdiff does with those that it has read and matched.
pub passed_over : (zs xs ys : List ℕ) → compared_of (zs ++ xs) (zs ++ ys) ≡ later_by zs (compared_of xs ys)
passed_over [] xs ys = refl
passed_over (z ∷ zs) xs ys = one_later z (zs ++ xs) (zs ++ ys) ∙ ap later (passed_over zs xs ys)
