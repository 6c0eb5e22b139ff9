-- The bits of a number: a number made of bits has them, all bits below n make 2^n - 1, and bits that are set apart add up.
-- Assumes nothing.
use Rattle.std.proofs.Common.{◌≡◌, ℕ, zero, suc, ◌+◌, ◌-◌, ◌*◌, ◌/◌, ◌%◌, ◌^◌, ◌<◌, ◌≤◌, Bool, true, false, ◌&&◌, ◌||◌, eqb, sym, refl, ap, ◌∙◌, mul_comm, pow-suc, add-one, arith, pow_mono, eq-eqb, ne_eqb, eqb-true}
use native.Mathlib.Nat.{div-div-eq-div-mul}
use borrow.Author.Tests.{eqb-false}
use mir.Val.{bool_byte}
use Rattle.blocks.specs.Folds.{one, all_below, bit, bits}
use Rattle.blocks.specs.Equations.{done_at}

-- a Bool as a byte, as the code casts it
pub byte_one : (t : Bool) → bool_byte t ≡ one t
byte_one true = refl
byte_one false = refl

pub one_below : (t : Bool) → one t < 2
one_below true = omega arith
one_below false = omega arith

one_test : (t : Bool) → eqb (one t) 1 ≡ t
one_test true = refl
one_test false = refl

pub bit-zero : (x : ℕ) → bit 0 x ≡ eqb (x % 2) 1
unfolding bit
bit-zero x = let e : x / 2 ^ 0 % 2 ≡ x % 2 = omega arith in rw e

pub bit_half : (j x : ℕ) → bit (suc j) x ≡ bit j (x / 2)
unfolding bit
bit_half j x = rw (pow-suc 2 j, mul_comm (2 ^ j) 2, ← (div-div-eq-div-mul x 2 (2 ^ j)))

bit_first : (t : Bool) (x : ℕ) → bit 0 (one t + x * 2) ≡ t
bit_first t x = let e : (one t + x * 2) % 2 ≡ one t = omega (arith, one_below t) in bit-zero (one t + x * 2) ∙ rw e (one_test t)

pub bit-bits : (f : ℕ → Bool) (n j : ℕ) → j < n → bit j (bits f n) ≡ f j
unfolding bits
bit-bits f zero j h = absurd (omega arith)
bit-bits f (suc n) zero h = bit_first (f 0) (bits (λ i. f (suc i)) n)
bit-bits f (suc n) (suc j) h =
    let e : (one (f 0) + bits (λ i. f (suc i)) n * 2) / 2 ≡ bits (λ i. f (suc i)) n = omega (arith, one_below (f 0)) in
    bit_half j (bits f (suc n)) ∙ ap (bit j) e ∙ bit-bits (λ i. f (suc i)) n j (omega arith)

pub bits_below : (f : ℕ → Bool) (n : ℕ) → bits f n < 2 ^ n
unfolding bits
bits_below f zero = omega arith
bits_below f (suc n) = rw pow-suc (omega (arith, bits_below (λ i. f (suc i)) n, one_below (f 0)))

pub bits_same : (f g : ℕ → Bool) (n : ℕ) → ((i : ℕ) → i < n → f i ≡ g i) → bits f n ≡ bits g n
unfolding bits
bits_same f g zero h = refl
bits_same f g (suc n) h = rw (h 0 (omega arith), bits_same (λ i. f (suc i)) (λ i. g (suc i)) n (λ i q. h (suc i) (omega arith)))

-- the first test apart from the others
all_first : (f : ℕ → Bool) (n : ℕ) → all_below f (suc n) ≡ (f 0 && all_below (λ i. f (suc i)) n)
unfolding all_below
all_first f zero = by (f 0)
  where
    by : (t : Bool) → (true && t) ≡ (t && true)
    by true = refl
    by false = refl
all_first f (suc n) = rw (all_first f n) (assoc (f 0) (all_below (λ i. f (suc i)) n) (f (suc n)))
  where
    assoc : (a b c : Bool) → (a && b && c) ≡ (a && (b && c))
    assoc true b c = refl
    assoc false b c = refl

-- all bits below n are set exactly in 2^n - 1
pub all_bits : (f : ℕ → Bool) (n a : ℕ) → a + 1 ≡ 2 ^ n → eqb (bits f n) a ≡ all_below f n
unfolding bits all_below
all_bits f zero a e = eq-eqb 0 a (omega arith)
all_bits f (suc n) a e =
    let p : a + 1 ≡ 2 ^ n * 2 = e ∙ pow-suc 2 n in
    let below : bits (λ i. f (suc i)) n < 2 ^ n = bits_below (λ i. f (suc i)) n in
    by (f 0) (a / 2) (omega arith) (omega arith) (all_bits (λ i. f (suc i)) n (a / 2) (omega arith)) ∙ sym (all_first f n)
  where
    by : (t : Bool) (h : ℕ) → a ≡ 1 + h * 2 → 0 ≤ h → eqb (bits (λ i. f (suc i)) n) h ≡ all_below (λ i. f (suc i)) n
        → eqb (one t + bits (λ i. f (suc i)) n * 2) a ≡ (t && all_below (λ i. f (suc i)) n)
    by true h q z r = rw q (same (bits (λ i. f (suc i)) n) h ∙ r)
      where
        same : (x y : ℕ) → eqb (1 + x * 2) (1 + y * 2) ≡ eqb x y
        same x y = go (eqb x y) refl
          where
            go : (t : Bool) → eqb x y ≡ t → eqb (1 + x * 2) (1 + y * 2) ≡ t
            go true w = eq-eqb (1 + x * 2) (1 + y * 2) (omega (arith, eqb-true x y w))
            go false w = ne_eqb (1 + x * 2) (1 + y * 2) (λ v. eqb-false x y w (omega arith))
    by false h q z r = ne_eqb (0 + bits (λ i. f (suc i)) n * 2) a (λ v. omega arith)

-- bits that are set apart add up
pub gained-sum : (n marks : ℕ) (d : ℕ → Bool) → marks < 2 ^ n → ((i : ℕ) → i < n → (bit i marks && d i) ≡ false) → marks + bits d n ≡ bits (done_at marks d) n
unfolding bits
gained-sum zero marks d h apart = omega arith
gained-sum (suc n) marks d h apart =
    let p : 2 ^ suc n ≡ 2 ^ n * 2 = pow-suc 2 n in
    let rest : marks / 2 + bits (λ i. d (suc i)) n ≡ bits (done_at (marks / 2) (λ i. d (suc i))) n =
    gained-sum n (marks / 2) (λ i. d (suc i)) (omega arith) (λ i q. rw (← bit_half i marks) (apart (suc i) (omega arith))) in
    let same : bits (done_at (marks / 2) (λ i. d (suc i))) n ≡ bits (λ i. done_at marks d (suc i)) n =
    bits_same (done_at (marks / 2) (λ i. d (suc i))) (λ i. done_at marks d (suc i)) n (λ i q. rw (bit_half i marks)) in
    let first : marks % 2 + one (d 0) ≡ one (done_at marks d 0) = low (marks % 2) (omega arith) (d 0) (rw (← bit-zero marks) (apart 0 (omega arith))) ∙ rw (bit-zero marks) in
    omega arith
  where
    low : (x : ℕ) → x < 2 → (t : Bool) → (eqb x 1 && t) ≡ false → x + one t ≡ one (eqb x 1 || t)
    low zero q t a = omega arith
    low (suc zero) q true a = let z : ◌≡◌ {A = ℕ} 0 1 = cc in absurd (omega arith)
    low (suc zero) q false a = refl
    low (suc (suc x)) q t a = absurd (omega arith)

-- the marks from bit i on, as a loop over the copies halves them
pub bit-rest : (i x : ℕ) → bit 0 (x / 2 ^ i) ≡ bit i x
unfolding bit
bit-rest i x = let e : x / 2 ^ i / 2 ^ 0 ≡ x / 2 ^ i = omega arith in rw e

pub rest_half : (i x r : ℕ) → r ≡ x / 2 ^ i → r / 2 ≡ x / 2 ^ (i + 1)
rest_half i x r e = ap (λ (y : ℕ). y / 2) e ∙ div-div-eq-div-mul x (2 ^ i) 2 ∙ ap (λ (y : ℕ). x / y) (sym (pow-suc 2 i) ∙ ap (λ (n : ℕ). 2 ^ n) (sym (add-one i)))

-- the bits from place i on, with one more in front
pub bits-front : (f : ℕ → Bool) (i n : ℕ) → bits (λ k. f (i + k)) (suc n) ≡ one (f i) + bits (λ k. f (suc i + k)) n * 2
unfolding bits
bits-front f i n =
    let e : i + 0 ≡ i = omega arith in
    rw (e, bits_same (λ k. f (i + suc k)) (λ k. f (suc i + k)) n (λ k q. ap f (let z : i + suc k ≡ suc i + k = omega arith in z)))

-- a set bit and a delivery exclude each other also where readiness is asked besides
pub quiet : (b v y : Bool) → (b && v) ≡ false → (b && (v && y)) ≡ false
quiet true v y e = rw e
quiet false v y e = refl

-- bits met from the last to the first
pub bits-none_yet : (f : ℕ → Bool) (n : ℕ) → 0 ≡ bits (λ k. f (n + k)) (n - n)
unfolding bits
bits-none_yet f n = let e : n - n ≡ 0 = omega arith in rw e

pub bits_one_more : (f : ℕ → Bool) (n i went : ℕ) (t : Bool) → 0 < i → i ≤ n → went ≡ bits (λ k. f (i + k)) (n - i) → t ≡ f (i - 1)
    → one t + went * 2 ≡ bits (λ k. f (i - 1 + k)) (n - (i - 1))
bits_one_more f n i went t p l e h =
    let s : suc (i - 1) ≡ i = omega arith in
    let d : n - (i - 1) ≡ suc (n - i) = omega arith in
    rw (d, bits-front f (i - 1) (n - i), s, h, e)

pub bits_all_met : (f : ℕ → Bool) (n i : ℕ) → i ≡ 0 → bits (λ k. f (i + k)) (n - i) ≡ bits f n
bits_all_met f n i e =
    let d : n - i ≡ n = omega arith in
    rw d (bits_same (λ k. f (i + k)) f n (λ k q. ap f (let z : i + k ≡ k = omega arith in z)))

pub bits_small : (f : ℕ → Bool) (n k : ℕ) → n ≤ k → bits f n < 2 ^ k
bits_small f n k l = let p : 2 ^ n ≤ 2 ^ k = pow_mono l in omega (arith, bits_below f n)
