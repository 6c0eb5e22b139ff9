-- Lists made longer by zeros: one that has the elements of another, and zeros beyond, is that other made as long.
-- Assumes nothing.
use Prim.Native.Nat.{ℕ, ◌+◌, ◌-◌, ◌≤◌, ◌<◌}
use mathlib.Core.Path.{◌≡◌, refl, sym, ap, ◌∙◌}
use mathlib.Core.List.{List, ◌++◌}
use native.Mathlib.Omega.{arith}
use lib.Dec.{ltb}
use borrow.Author.Tests.{ltb-true, ltb-false}
use lib.ListN.{length, get_or, take, replicate, get_or-replicate, length-append, length-replicate, get_or-append}
use lib.Seq.{get_or-append-add, take_at, ext_get_or}
use Rattle.blocks.proofs.Options.{test}
use Rattle.stored.specs.Form.{padded}

module _ (n : ℕ) (l : List ℕ) (few : length l ≤ n) where
  pub length-padded : length (padded 0 n l) ≡ n
  unfolding padded
  length-padded = omega (arith, length-append l (replicate (n - length l) 0), length-replicate {A = ℕ} (n - length l) 0)

  pub padded_at : (i : ℕ) → i < length l → get_or (padded 0 n l) i 0 ≡ get_or l i 0
  unfolding padded
  padded_at i h = get_or-append l (replicate (n - length l) 0) 0 i h

  pub padded-beyond : (i : ℕ) → length l ≤ i → i < n → get_or (padded 0 n l) i 0 ≡ 0
  unfolding padded
  padded-beyond i h q =
      let z : i ≡ length l + (i - length l) = omega arith in
      ap (λ (k : ℕ). get_or (l ++ replicate (n - length l) 0) k 0) z
      ∙ get_or-append-add l (replicate (n - length l) 0) (i - length l) 0
      ∙ get_or-replicate {A = ℕ} (n - length l) (i - length l) 0 0 (omega arith)

  pub padded_is : (x : List ℕ) → length x ≡ n → ((i : ℕ) → i < length l → get_or x i 0 ≡ get_or l i 0) → ((i : ℕ) → length l ≤ i → i < n → get_or x i 0 ≡ 0)
      → x ≡ padded 0 n l
  padded_is x long same beyond =
      ext_get_or 0 x (padded 0 n l) (long ∙ sym length-padded)
      (λ i h.
      test (ltb i (length l)) (λ e. let q : i < length l = ltb-true i (length l) e in same i q ∙ sym (padded_at i q))
      (λ e. let q : length l ≤ i = ltb-false i (length l) e in beyond i q (omega arith) ∙ sym (padded-beyond i q (omega arith))))

  -- its beginning is the list
  pub padded-front : take (length l) (padded 0 n l) ≡ l
  unfolding padded
  padded-front = take_at l (replicate (n - length l) 0) (length l) refl
