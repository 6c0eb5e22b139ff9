-- A loop that takes many values, one in each turn: what is taken already, in front of what the rest of the bits gives.
-- Assumes nothing.
use Prim.Native.Nat.{ℕ, suc, ◌+◌, ◌-◌, ◌<◌}
use native.Mathlib.Omega.{arith}
use native.Mathlib.Nat.{sub-zero}
use mathlib.Core.Path.{◌≡◌, refl, ap, sym, ◌∙◌}
use mathlib.Core.List.{List, [], ◌∷◌, ◌++◌, append-nil}
use mathlib.Core.Bool.{Bool}
use lib.ListN.{length, set, replicate, length-append}
use lib.Seq.{set_at, append_snoc}
use Rattle.stored.specs.Form.{Taken, got, refused, and_then, take_many, padded}
use Rattle.stored.proofs.Codecs.{then_there}

abbrev pub prepend : {A : Type 0} → List A → Taken (List A) → Taken (List A)
prepend xs (got ys r) = got (xs ++ ys) r
prepend xs (refused e) = refused e

pub set-padded : {A : Type 0} (z : A) (k : ℕ) (xs : List A) (i : ℕ) (a : A) → length xs ≡ i → i < k
    → set (padded z k xs) i a ≡ padded z k (xs ++ (a ∷ []))
unfolding padded
set-padded z k xs i a e h =
    let d = k - (i + 1) in
    let n : k - length xs ≡ suc d = omega arith in
    let m : k - length (xs ++ (a ∷ [])) ≡ d = simp length-append (omega arith) in
    rw (n, m) (set_at xs z (replicate d z) a i e ∙ sym (append_snoc xs a (replicate d z)))

module _ {A : Type 0} (one : List Bool → Taken A) where
  pub many_start : (n : ℕ) (l : List Bool) → take_many one n l ≡ prepend [] (take_many one (n - 0) l)
  many_start n l = rw sub-zero (alone (take_many one n l))
    where
      alone : (t : Taken (List A)) → t ≡ prepend [] t
      alone (got xs r) = refl
      alone (refused e) = refl

  -- one value more
  pub many_turn : (xs : List A) (n m : ℕ) (l : List Bool) (a : A) (r : List Bool) → n ≡ suc m → one l ≡ got a r
      → prepend xs (take_many one n l) ≡ prepend (xs ++ (a ∷ [])) (take_many one m r)
  unfolding take_many and_then
  many_turn xs n m l a r e h =
      ap (λ (k : ℕ). prepend xs (take_many one k l)) e ∙ ap (prepend xs) (then_there _ h refl) ∙ moved (take_many one m r)
    where
      moved : (t : Taken (List A)) → prepend xs (and_then t (λ ys s. got (a ∷ ys) s)) ≡ prepend (xs ++ (a ∷ [])) t
      moved (got ys s) = ap (λ (zs : List A). got zs s) (sym (append_snoc xs a ys))
      moved (refused d) = refl

  -- a refusal
  pub many_stop : (xs : List A) (n m : ℕ) (l : List Bool) (e : ℕ) → n ≡ suc m → one l ≡ refused e → prepend xs (take_many one n l) ≡ refused e
  unfolding take_many and_then
  many_stop xs n m l e p h = ap (λ (k : ℕ). prepend xs (take_many one k l)) p ∙ rw h refl

  -- the end
  pub many_end : (xs : List A) (n : ℕ) (l : List Bool) → n ≡ 0 → prepend xs (take_many one n l) ≡ got xs l
  unfolding take_many
  many_end xs n l e = ap (λ (k : ℕ). prepend xs (take_many one k l)) e ∙ ap (λ (ys : List A). got ys l) (append-nil xs)
