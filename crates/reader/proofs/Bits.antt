-- Laws of bits and numbers: a list of bits and the number that it makes determine each other, a form's bits are its bytes' bits, and one bit more of a field doubles its number.
-- Assumes nothing.
use Prim.Native.Nat.{ℕ, zero, suc, ◌+◌, ◌-◌, ◌*◌, ◌/◌, ◌%◌, ◌^◌, ◌<◌, ◌≤◌}
use native.Mathlib.Omega.{arith}
use native.Mathlib.Nat.{two-pow-succ, mod-lt, le_trans}
use native.Mathlib.Decide.{dec_lt}
use native.Mathlib.Numerals.{add-one, one-add}
use mathlib.Core.Path.{◌≡◌, refl, ap, ap₂, sym, ◌∙◌}
use mathlib.Core.List.{List, [], ◌∷◌, ◌++◌}
use mathlib.Core.Bool.{Bool, true, false}
use mathlib.Core.Logic.{◌⊎◌, inl, inr, ⊎_elim}
use lib.ListN.{length, get_or, take, drop, length-append, length-take, length-drop, get_or-append}
use lib.Seq.{take-suc, get_or-drop, get_or-append-add}
use lib.Dec.{eqb}
use lib.Pow.{pow_pos, pow_mono, high, low, split, shr_mod, field, mod-mod-pow}
use Rattle.reader.specs.Bits.{digit, odd, bits, number, bits_of, bit_at}

pub lt_or_le : (a b : ℕ) → (a < b) ⊎ (b ≤ a)
lt_or_le a b = elim (dec_lt a b) [ yes p ↦ inl p | no q ↦ inr (omega arith) ]

pub digit-odd : (x : ℕ) → digit (odd x) ≡ x % 2
digit-odd x = go (x % 2) (omega arith)
  where
    go : (r : ℕ) → r < 2 → digit (eqb r 1) ≡ r
    go zero h = refl
    go (suc zero) h = refl
    go (suc (suc n)) h = absurd (omega arith)

odd-digit : (b : Bool) → odd (digit b) ≡ b
odd-digit true = refl
odd-digit false = refl

pub length-bits : (w v : ℕ) → length (bits w v) ≡ w
length-bits zero v = refl
length-bits (suc w) v = ap suc (length-bits w (v % 2 ^ w))

pub number_snoc : (l : List Bool) (b : Bool) → number (l ++ (b ∷ [])) ≡ 2 * number l + digit b
number_snoc [] b = omega arith
number_snoc (false ∷ l) b = omega (arith, number_snoc l b)
number_snoc (true ∷ l) b =
    let p : 2 ^ length (l ++ (b ∷ [])) ≡ 2 ^ length l + 2 ^ length l =
    ap (λ (n : ℕ). 2 ^ n) (length-append l (b ∷ []) ∙ add-one (length l)) ∙ two-pow-succ (length l) in
    omega (arith, number_snoc l b)

pub number_lt : (l : List Bool) → number l < 2 ^ length l
number_lt [] = omega arith
number_lt (false ∷ l) = omega (arith, number_lt l, two-pow-succ (length l))
number_lt (true ∷ l) = omega (arith, number_lt l, two-pow-succ (length l))

pub number-take_lt : (k : ℕ) (l : List Bool) → number (take k l) < 2 ^ k
number-take_lt k l = le_trans (number_lt (take k l)) (pow_mono (simp length-take (omega arith)))

-- the bits of the number that bits make are those bits
pub bits-number : (l : List Bool) → bits (length l) (number l) ≡ l
bits-number [] = refl
bits-number (b ∷ l) =
    rw (high (digit b) (length l) (number_lt l), low (digit b) (length l) (number_lt l), odd-digit b) (ap (λ t. b ∷ t) (bits-number l))

-- the number that a number's bits make is that number
pub number-bits : (w v : ℕ) → v < 2 ^ w → number (bits w v) ≡ v
number-bits zero v h = omega arith
number-bits (suc w) v h =
    let m : v % 2 ^ w < 2 ^ w = mod-lt v (pow_pos w) in
    let b : v < 2 ^ (1 + w) = rw one-add h in
    ap₂ (λ (d n : ℕ). d * 2 ^ n + number (bits w (v % 2 ^ w))) (digit-odd (v / 2 ^ w) ∙ shr_mod 1 w b) (length-bits w (v % 2 ^ w))
    ∙ ap (λ (n : ℕ). v / 2 ^ w * 2 ^ w + n) (number-bits w (v % 2 ^ w) m)
    ∙ split v w

-- bit i of a form is bit i % 8 of byte i / 8
pub get_d_bits_of : (f : List ℕ) (i : ℕ) → i < 8 * length f → get_or (bits_of f) i false ≡ get_or (bits 8 (get_or f (i / 8) 0)) (i % 8) false
get_d_bits_of [] i h = absurd (omega arith)
get_d_bits_of (b ∷ f) i h = ⊎_elim here (λ s. there s (get_d_bits_of f (i - 8) (omega arith))) (lt_or_le i 8)
  where
    here : i < 8 → get_or (bits_of (b ∷ f)) i false ≡ get_or (bits 8 (get_or (b ∷ f) (i / 8) 0)) (i % 8) false
    here s =
        let q : i / 8 ≡ 0 = omega arith in
        let r : i % 8 ≡ i = omega arith in
        rw (q, r) (get_or-append (bits 8 b) (bits_of f) false i s)

    there : 8 ≤ i → get_or (bits_of f) (i - 8) false ≡ get_or (bits 8 (get_or f ((i - 8) / 8) 0)) ((i - 8) % 8) false
        → get_or (bits_of (b ∷ f)) i false ≡ get_or (bits 8 (get_or (b ∷ f) (i / 8) 0)) (i % 8) false
    there s t =
        let j : i ≡ 8 + (i - 8) = omega arith in
        let q : i / 8 ≡ suc ((i - 8) / 8) = omega arith in
        let r : i % 8 ≡ (i - 8) % 8 = omega arith in
        rw (q, r) (ap (λ (n : ℕ). get_or (bits_of (b ∷ f)) n false) j ∙ get_or-append-add (bits 8 b) (bits_of f) (i - 8) false ∙ t)

pub length_bits_of : (f : List ℕ) → length (bits_of f) ≡ 8 * length f
length_bits_of [] = refl
length_bits_of (b ∷ f) = omega (arith, length_bits_of f)

-- one bit more
pub number_more : (l : List Bool) (k : ℕ) → k < length l → number (take (k + 1) l) ≡ 2 * number (take k l) + digit (get_or l k false)
number_more l k h = rw (add-one, take-suc l k false h) (number_snoc (take k l) (get_or l k false))

pub field_more : (f : List ℕ) (at k : ℕ) → at + k < 8 * length f
    → number (take (k + 1) (drop at (bits_of f))) ≡ 2 * number (take k (drop at (bits_of f))) + bit_at (get_or f ((at + k) / 8) 0) ((at + k) % 8)
field_more f at k h =
    number_more (drop at (bits_of f)) k (simp (length-drop, length_bits_of) (omega arith))
    ∙ ap (λ (b : Bool). 2 * number (take k (drop at (bits_of f))) + digit b) (get_or-drop at (bits_of f) k false ∙ get_d_bits_of f (at + k) h)

digit_le : (b : Bool) → digit b ≤ 1
digit_le true = omega arith
digit_le false = omega arith

pub bit_at_le : (b k : ℕ) → bit_at b k ≤ 1
bit_at_le b k = digit_le (get_or (bits 8 b) k false)

-- a bit of a number, by a shift
pub get_d_bits : (w v k : ℕ) → k < w → get_or (bits w v) k false ≡ odd (v / 2 ^ (w - 1 - k))
get_d_bits zero v k h = absurd (omega arith)
get_d_bits (suc w) v zero h = let e : suc w - 1 - 0 ≡ w = omega arith in rw e refl
get_d_bits (suc w) v (suc k) h =
    let j = w - 1 - k in
    let e : suc w - 1 - suc k ≡ j = omega arith in
    let s : w ≡ (k + 1) + j = omega arith in
    let g : v % 2 ^ w / 2 ^ j ≡ v / 2 ^ j % 2 ^ (k + 1) = ap (λ (n : ℕ). v % 2 ^ n / 2 ^ j) s ∙ field v (k + 1) j in
    rw e (get_d_bits w (v % 2 ^ w) k (omega arith) ∙ ap odd g ∙ ap (λ (x : ℕ). eqb x 1) (mod-mod-pow (v / 2 ^ j) k 1))

pub bit_shift : (b k : ℕ) → k < 8 → b / 2 ^ (7 - k) % 2 ≡ bit_at b k
bit_shift b k h =
    let e : 7 - k ≡ 8 - 1 - k = omega arith in
    rw e (sym (ap digit (get_d_bits 8 b k h) ∙ digit-odd (b / 2 ^ (8 - 1 - k))))
