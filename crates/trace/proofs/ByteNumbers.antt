-- Laws of the numbers that bytes make: how many there are, which bytes make number i, and that each is below 2 ^ 32 where the bytes are below 256.
-- Assumes nothing.
use Prim.Native.Nat.{ℕ, zero, suc, ◌+◌, ◌-◌, ◌*◌, ◌/◌, ◌^◌, ◌<◌, ◌≤◌}
use native.Mathlib.Omega.{arith}
use mathlib.Core.Path.{◌≡◌, refl, sym, ap, subst, ◌∙◌}
use mathlib.Core.List.{List, [], ◌∷◌, append-nil}
use mathlib.Core.Bool.{Bool, true, false}
use borrow.Author.Tests.{ltb-true, ltb-false}
use lib.Dec.{ltb}
use lib.ListN.{length, get_or, length-append, get_or-append}
use lib.Seq.{get_or-append-add}
use Rattle.std.specs.Int.{w32, from_be_bytes}
use Rattle.trace.specs.Numbers.{four_bytes, numbers_of, given}

pub length_numbers : (l : List ℕ) → length (numbers_of l) ≡ length l / 4
unfolding numbers_of
length_numbers (a ∷ b ∷ c ∷ d ∷ l) = omega (arith, length_numbers l)
length_numbers (a ∷ b ∷ c ∷ []) = refl
length_numbers (a ∷ b ∷ []) = refl
length_numbers (a ∷ []) = refl
length_numbers [] = refl

-- the number that the 4 bytes from byte 4 * i on make
abbrev pub number_at : List ℕ → ℕ → ℕ
number_at l i = four_bytes (get_or l (4 * i) 0) (get_or l (4 * i + 1) 0) (get_or l (4 * i + 2) 0) (get_or l (4 * i + 3) 0)

-- what std reads from four bytes, most significant first
pub four_first : (a b c d : ℕ) → from_be_bytes w32 (a ∷ b ∷ c ∷ d ∷ []) ≡ four_bytes a b c d
four_first a b c d = omega arith

four_more : (i k : ℕ) → 4 * suc i + k ≡ suc (suc (suc (suc (4 * i + k))))
four_more i k = omega arith

pub number_is : (l : List ℕ) (i : ℕ) → 4 * i + 4 ≤ length l → get_or (numbers_of l) i 0 ≡ number_at l i
unfolding numbers_of
number_is (a ∷ b ∷ c ∷ d ∷ l) zero h = refl
number_is (a ∷ b ∷ c ∷ d ∷ l) (suc i) h =
    let e : 4 * suc i ≡ suc (suc (suc (suc (4 * i)))) = omega arith in
    rw (four_more i 1, four_more i 2, four_more i 3, e) (number_is l i (omega arith))
number_is (a ∷ b ∷ c ∷ []) i h = absurd (omega arith)
number_is (a ∷ b ∷ []) i h = absurd (omega arith)
number_is (a ∷ []) i h = absurd (omega arith)
number_is [] i h = absurd (omega arith)

pub four_bytes_lt : (a b c d : ℕ) → a < 256 → b < 256 → c < 256 → d < 256 → four_bytes a b c d < 2 ^ 32
four_bytes_lt a b c d p q r s = omega arith

-- every number is a word; beyond the last one it is 0
pub numbers_lt : (l : List ℕ) → ((k : ℕ) → get_or l k 0 < 256) → (i : ℕ) → get_or (numbers_of l) i 0 < 2 ^ 32
unfolding numbers_of
numbers_lt (a ∷ b ∷ c ∷ d ∷ l) h zero = four_bytes_lt a b c d (h 0) (h 1) (h 2) (h 3)
numbers_lt (a ∷ b ∷ c ∷ d ∷ l) h (suc i) = numbers_lt l (λ k. h (suc (suc (suc (suc k))))) i
numbers_lt (a ∷ b ∷ c ∷ []) h i = omega arith
numbers_lt (a ∷ b ∷ []) h i = omega arith
numbers_lt (a ∷ []) h i = omega arith
numbers_lt [] h i = omega arith

-- ## Numbers given as bytes and then as a list

module _ (bytes list : List ℕ) where
  pub length_given : length (given bytes list) ≡ length bytes / 4 + length list
  length_given = length-append (numbers_of bytes) list ∙ ap (λ (n : ℕ). n + length list) (length_numbers bytes)

  pub given_front : (i : ℕ) → i < length bytes / 4 → get_or (given bytes list) i 0 ≡ get_or (numbers_of bytes) i 0
  given_front i h = get_or-append (numbers_of bytes) list 0 i (omega (arith, length_numbers bytes))

  pub given_rest : (i : ℕ) → length bytes / 4 ≤ i → get_or (given bytes list) i 0 ≡ get_or list (i - length bytes / 4) 0
  given_rest i h =
      let n : ℕ = length (numbers_of bytes) in
      let e : i ≡ n + (i - length bytes / 4) = omega (arith, length_numbers bytes) in
      ap (λ (k : ℕ). get_or (given bytes list) k 0) e ∙ get_or-append-add (numbers_of bytes) list (i - length bytes / 4) 0

  -- all of them below 2 ^ 32
  pub given_lt : ((k : ℕ) → get_or bytes k 0 < 256) → ((k : ℕ) → get_or list k 0 < 2 ^ 32) → (i : ℕ) → get_or (given bytes list) i 0 < 2 ^ 32
  given_lt f g i = by (ltb i (length bytes / 4)) refl
    where
      by : (t : Bool) → ltb i (length bytes / 4) ≡ t → get_or (given bytes list) i 0 < 2 ^ 32
      by true e = subst (λ (x : ℕ). x < 2 ^ 32) (sym (given_front i (ltb-true i (length bytes / 4) e))) (numbers_lt bytes f i)
      by false e = subst (λ (x : ℕ). x < 2 ^ 32) (sym (given_rest i (ltb-false i (length bytes / 4) e))) (g (i - length bytes / 4))

-- no list
pub given_bytes : (bytes : List ℕ) → given bytes [] ≡ numbers_of bytes
given_bytes bytes = append-nil (numbers_of bytes)
