-- Codes as a number in base 4 and back.
-- Assumes nothing.
use Prim.Native.Nat.{ℕ, zero, suc, ◌+◌, ◌*◌, ◌/◌, ◌%◌, ◌^◌, ◌-◌, ◌≤◌, ◌<◌}
use mathlib.Core.Path.{◌≡◌, refl, sym, ap, ◌∙◌}
use mathlib.Core.List.{List, [], ◌∷◌}
use native.Mathlib.Numerals.{add-one}
use native.Mathlib.Nat.{pow-le-pow_right, div-div-eq-div-mul, mul-add-div_right, div-eq_of_lt, div-add-mod', mul-add-mod_self_right, mod-eq_of_lt, mod-lt, mul-le-mul_right, pow-suc}
use native.Mathlib.Omega.{arith}
use lib.ListN.{length, get_or}
use Rattle.placements.specs.Listing.{value_of, codes_of}

pub power_some : (n : ℕ) → 0 < 4 ^ n
power_some zero = omega arith
power_some (suc n) = omega (arith, power_some n)

pub codes_length : (n k : ℕ) → length (codes_of n k) ≡ n
codes_length zero k = refl
codes_length (suc n) k = ap suc (codes_length n k)

-- one digit more
module _ (P q r : ℕ) (low : r < P) where
  top_digit : (q * P + r) / P ≡ q
  top_digit = mul-add-div_right (omega arith) q r ∙ omega (arith, div-eq_of_lt low)

module _ (P k : ℕ) (some : 0 < P) where
  -- k in three parts: what is above the digit, the digit, what is below
  parts : k ≡ k / P / 4 * (P * 4) + (k / P % 4 * P + k % P)
  parts =
      let a : k / P * P + k % P ≡ k = div-add-mod' k P in
      let b : k / P / 4 * 4 + k / P % 4 ≡ k / P = div-add-mod' (k / P) 4 in
      let d : (k / P / 4 * 4 + k / P % 4) * P ≡ k / P * P = ap (λ (x : ℕ). x * P) b in
      omega arith

  below : k / P % 4 * P + k % P < P * 4
  below =
      let a : k % P < P = mod-lt k some in
      let b : k / P % 4 ≤ 3 = omega arith in
      let d : k / P % 4 * P ≤ 3 * P = mul-le-mul_right P b in
      omega arith

  pub digit_more : k / P % 4 * P + k % P ≡ k % (P * 4)
  digit_more =
      sym (mod-eq_of_lt below) ∙ sym (mul-add-mod_self_right (k / P / 4) (P * 4) (k / P % 4 * P + k % P)) ∙ ap (λ (x : ℕ). x % (P * 4)) (sym parts)

pub value-back : (n k : ℕ) → value_of (codes_of n k) ≡ k % 4 ^ n
value-back zero k = omega arith
value-back (suc n) k =
    let z : 4 ^ n * 4 ≡ 4 ^ suc n = omega arith in
    rw (codes_length n k, value-back n k) (digit_more (4 ^ n) k (power_some n) ∙ ap (λ (x : ℕ). k % x) z)

-- ## Codes of which none is above 3

pub data Digits : List ℕ → Type 0 where
  no_digit : Digits []
  one_digit : {k : ℕ} {ks : List ℕ} → k ≤ 3 → Digits ks → Digits (k ∷ ks)

pub value_low : {ks : List ℕ} → Digits ks → value_of ks < 4 ^ length ks
value_low no_digit = omega arith
value_low (one_digit {k = k} {ks = ks} h s) =
    let a : k * 4 ^ length ks ≤ 3 * 4 ^ length ks = mul-le-mul_right (4 ^ length ks) h in
    omega (arith, value_low s, pow-suc 4 (length ks))

-- with anything above them the digits come back
codes_above : {ks : List ℕ} → Digits ks → (m : ℕ) → codes_of (length ks) (m * 4 ^ length ks + value_of ks) ≡ ks
codes_above no_digit m = refl
codes_above (one_digit {k = k} {ks = ks} h s) m =
    let P : ℕ = 4 ^ length ks in
    let z : m * 4 ^ suc (length ks) + (k * P + value_of ks) ≡ (m * 4 + k) * P + value_of ks = omega (arith, ap (λ (x : ℕ). m * x) (pow-suc 4 (length ks))) in
    let d : ((m * 4 + k) * P + value_of ks) / P % 4 ≡ k = ap (λ (x : ℕ). x % 4) (top_digit P (m * 4 + k) (value_of ks) (value_low s)) ∙ omega arith in
    ap (λ (x : ℕ). codes_of (suc (length ks)) x) z ∙ (λ i. d i ∷ codes_above s (m * 4 + k) i)

pub codes_back : {ks : List ℕ} → Digits ks → codes_of (length ks) (value_of ks) ≡ ks
codes_back {ks} s = ap (codes_of (length ks)) (omega arith) ∙ codes_above s 0

-- ## Digit by digit

pub power_small : (n : ℕ) → n ≤ 6 → 4 ^ n ≤ 4096
power_small n h = pow-le-pow_right (omega arith) h

pub digit_at : (n k i : ℕ) → i < n → get_or (codes_of n k) i 0 ≡ (k / 4 ^ (n - 1 - i)) % 4
digit_at zero k i h = absurd (omega arith)
digit_at (suc n) k zero h = let z : n ≡ suc n - 1 - 0 = omega arith in ap (λ (x : ℕ). (k / 4 ^ x) % 4) z
digit_at (suc n) k (suc i) h = let z : n - 1 - i ≡ suc n - 1 - suc i = omega arith in digit_at n k i (omega arith) ∙ ap (λ (x : ℕ). (k / 4 ^ x) % 4) z

pub digit-small : (n k i : ℕ) → i < n → get_or (codes_of n k) i 0 ≤ 3
digit-small n k i h = omega (arith, digit_at n k i h)

-- the rest of a number by its next digit
pub rest_more : (k j : ℕ) → k / 4 ^ j / 4 ≡ k / 4 ^ (j + 1)
rest_more k j = div-div-eq-div-mul k (4 ^ j) 4 ∙ ap (λ (x : ℕ). k / x) (sym (pow-suc 4 j)) ∙ ap (λ (x : ℕ). k / 4 ^ x) (sym (add-one j))
