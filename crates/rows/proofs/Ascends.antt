-- Ends that ascend, and arrays that are filled channel by channel.
-- Assumes nothing.
use mathlib.Core.Path.{◌≡◌, refl, sym, ap, ◌∙◌}
use mathlib.Core.Bool.{Bool, true, false, cond, ◌&&◌}
use mathlib.Core.List.{List, [], ◌∷◌}
use Prim.Native.Nat.{ℕ, zero, suc, ◌+◌, ◌≤◌, ◌<◌}
use native.Mathlib.Decide.{ℕ_discrete}
use native.Mathlib.Numerals.{add-one}
use native.Mathlib.Omega.{arith}
use borrow.Author.Tests.{leb-true, le-leb, lt-leb, lt-ltb, le-ltb, ltb-true, ltb-false, eqb-true}
use lib.Dec.{eqb, leb, ltb}
use lib.ListN.{length, get_or, drop, set}
use lib.Seq.{drop-cons, drop-length, get_or-set_same, get_or-set_other}
use Rattle.blocks.proofs.Folds.{and_1, and_2}
use Rattle.cycles.specs.Streams.{ascend}
use Rattle.rows.specs.Ends.{Fitting}

module _ (low high : ℕ) (ends : List ℕ) (i : ℕ) (h : i < length ends) where
  here : ascend low high (drop i ends) ≡ (leb low (get_or ends i 0) && ascend (get_or ends i 0) high (drop (suc i) ends))
  here = ap (ascend low high) (drop-cons ends i 0 h)

  pub ascend-fails : get_or ends i 0 < low → ascend low high (drop i ends) ≡ false
  ascend-fails l = here ∙ rw (lt-leb low (get_or ends i 0) l)

  pub ascend_more : low ≤ get_or ends i 0 → ascend low high (drop i ends) ≡ ascend (get_or ends i 0) high (drop (i + 1) ends)
  ascend_more l = here ∙ rw (le-leb low (get_or ends i 0) l, add-one i)

pub ascend_end : (low high : ℕ) (ends : List ℕ) (i : ℕ) → i ≡ length ends → ascend low high (drop i ends) ≡ leb low high
ascend_end low high ends i e = rw (e, drop-length ends)

-- what ascending ends say of each
ascends_up : (low high : ℕ) (es : List ℕ) → ascend low high es ≡ true → (k : ℕ) → k < length es → (get_or (low ∷ es) k 0 ≤ get_or es k 0) × (get_or es k 0 ≤ high)
ascends_up low high [] e k h = absurd (omega arith)
ascends_up low high (x ∷ es) e zero h =
    let a = leb-true low x (and_1 (leb low x) (ascend x high es) e) in
    (a, reach x high es (and_2 (leb low x) (ascend x high es) e))
  where
    reach : (low high : ℕ) (es : List ℕ) → ascend low high es ≡ true → low ≤ high
    reach low high [] e = leb-true low high e
    reach low high (y ∷ es) e = let r : y ≤ high = reach y high es (and_2 (leb low y) (ascend y high es) e) in omega (arith, leb-true low y (and_1 (leb low y) (ascend y high es) e))
ascends_up low high (x ∷ es) e (suc k) h = ascends_up x high es (and_2 (leb low x) (ascend x high es) e) k (omega arith)

pub fitting_of : (count long : ℕ) (ends : List ℕ) → (eqb (length ends) count && ascend 0 long ends) ≡ true → Fitting count long ends
fitting_of count long ends e =
    let n : length ends ≡ count = eqb-true (length ends) count (and_1 (eqb (length ends) count) (ascend 0 long ends) e) in
    let a : ascend 0 long ends ≡ true = and_2 (eqb (length ends) count) (ascend 0 long ends) e in
    record { each = n; up = λ k h. (ascends_up 0 long ends a k (omega arith)).0; within = λ k h. (ascends_up 0 long ends a k (omega arith)).1 }

-- ## Filled channel by channel

low_same : (k c : ℕ) → (k ≡ c → ⊥) → ltb k c ≡ ltb k (c + 1)
low_same k c n = go (ltb k c) refl
  where
    go : (t : Bool) → ltb k c ≡ t → t ≡ ltb k (c + 1)
    go true e = sym (lt-ltb k (c + 1) (omega (arith, ltb-true k c e)))
    go false e = sym (le-ltb k (c + 1) (omega (arith, ltb-false k c e)))

pub filled_more : (size : ℕ) (d : List ℕ) (c v : ℕ) (t : ℕ → Bool) (g : ℕ → ℕ) → length d ≡ size → c < size → ((k : ℕ) → k < size → get_or d k 0 ≡ cond (ltb k c && t k) (g k) 0)
    → v ≡ cond (t c) (g c) 0 → (k : ℕ) → k < size → get_or (set d c v) k 0 ≡ cond (ltb k (c + 1) && t k) (g k) 0
filled_more size d c v t g e l h q k lk = go (ℕ_discrete k c)
  where
    go : Dec (k ≡ c) → get_or (set d c v) k 0 ≡ cond (ltb k (c + 1) && t k) (g k) 0
    go (yes z) = rw z (get_or-set_same d c v 0 (omega arith) ∙ q ∙ ap (λ (x : Bool). cond (x && t c) (g c) 0) (sym (lt-ltb c (c + 1) (omega arith))))
    go (no z) = get_or-set_other d c k v 0 z ∙ h k lk ∙ ap (λ (x : Bool). cond (x && t k) (g k) 0) (low_same k c z)

pub filled_none : (size : ℕ) (d : List ℕ) (t : ℕ → Bool) (g : ℕ → ℕ) → ((k : ℕ) → k < size → get_or d k 0 ≡ 0) → (k : ℕ) → k < size → get_or d k 0 ≡ cond (ltb k 0 && t k) (g k) 0
filled_none size d t g h k l = h k l ∙ ap (λ (x : Bool). cond (x && t k) (g k) 0) (sym (le-ltb k 0 (omega arith)))
