-- Blocks of a kind: each stands in the list at its number.
-- Assumes nothing.
use Rattle.std.proofs.Common.{◌≡◌, sym, ap, subst, ◌∙◌, ℕ, ◌+◌, ◌-◌, ◌<◌, Bool, true, List, [], ◌∷◌, ◌++◌, length, get_or, append_assoc, length-append, arith}
use Rattle.std.proofs.Math.Seq.{get_or-append_seam}
use native.Mathlib.Decide.{ℕ_discrete, dec_lt}
use Rattle.blocks.specs.Folds.{count_below}
use Rattle.blocks.specs.Numbers.{kind_number}
use Rattle.blocks.specs.declared.Kind.{Kind}
use Rattle.blocks.specs.declared.Net.{Net}
use Rattle.blocks.proofs.Folds.{count_step}
use Rattle.passes.specs.Rows.{in_kind, is_kind_no, Listed, Kinds}
use Rattle.passes.specs.declared.Sorted.{Sorted}
use Rattle.passes.proofs.Arms.{kind_low}

-- of those that are wanted, no two have the same number of wanted ones below them
pub count_apart : (want : ℕ → Bool) (x y : ℕ) → want x ≡ true → want y ≡ true → count_below want x ≡ count_below want y → x ≡ y
count_apart want x y tx ty e = go (ℕ_discrete x y)
  where
    go : Dec (x ≡ y) → x ≡ y
    go (yes q) = q
    go (no q) = absurd (cmp (dec_lt x y))
      where
        cmp : Dec (x < y) → ⊥
        cmp (yes h) = omega (arith, count_step want y x h tx)
        cmp (no h) = let l : y < x = omega arith in omega (arith, count_step want x y l ty)

-- every block of the kind stands in the list, at its number
pub listed_at : (net : Net) (kind : ℕ) (list : List ℕ) → Listed net kind list → (b : ℕ) → b < net.size → is_kind_no net kind b ≡ true
    → (count_below (is_kind_no net kind) b < length list) × (get_or list (count_below (is_kind_no net kind) b) 0 ≡ b)
listed_at net kind list l b lb t =
    let f : ℕ → Bool = is_kind_no net kind in
    let k : ℕ = count_below f b in
    let low : k < length list = omega (arith, count_step f net.size b lb t, l.count_is) in
    let a = l.each k low in
    (low, count_apart f (get_or list k 0) b a.1 t a.2)

-- and stands there once
pub listed_once : (net : Net) (kind : ℕ) (list : List ℕ) → Listed net kind list → (j k : ℕ) → j < length list → k < length list → get_or list j 0 ≡ get_or list k 0 → j ≡ k
listed_once net kind list l j k lj lk e = sym (l.each j lj).2 ∙ ap (count_below (is_kind_no net kind)) e ∙ (l.each k lk).2

-- the blocks of a kind, as they are handed out
pub listed_of : (net : Net) (sorted : Sorted) (kind : Kind) (list : List ℕ) → Kinds net sorted → list ≡ in_kind sorted (kind_number kind) → Listed net (kind_number kind) list
listed_of net sorted kind list k e = subst (Listed net (kind_number kind)) (sym e) (k.listed (kind_number kind) (kind_low kind))

-- an order that is met from its end on: b stands before those that are met
pub rear : (order rest left met : List ℕ) (b : ℕ) → order ≡ rest ++ met → rest ≡ left ++ (b ∷ [])
    → (order ≡ left ++ (b ∷ met)) × (length met < length order) × (get_or order (length order - 1 - length met) 0 ≡ b)
rear order rest left met b e f =
    let here : order ≡ left ++ (b ∷ met) = e ∙ ap (λ (xs : List ℕ). xs ++ met) f ∙ append_assoc left (b ∷ []) met in
    let long : length order ≡ length left + (1 + length met) = ap length here ∙ length-append left (b ∷ met) ∙ (omega arith) in
    let place : length order - 1 - length met ≡ length left = omega arith in
    (here, omega arith, ap (λ (k : ℕ). get_or order k 0) place ∙ ap (λ (xs : List ℕ). get_or xs (length left) 0) here ∙ get_or-append_seam left b met 0)
