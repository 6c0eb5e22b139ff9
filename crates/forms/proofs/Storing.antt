-- Storing bits: what one bit stored does to a byte and to a buffer's bits, and one bit more of a field.
-- Assumes nothing.
use Prim.Native.Nat.{ℕ, zero, suc, ◌+◌, ◌-◌, ◌*◌, ◌/◌, ◌%◌, ◌^◌, ◌<◌, ◌≤◌}
use native.Mathlib.Omega.{arith}
use native.Mathlib.Nat.{mod-mod}
use native.Mathlib.Numerals.{add-one}
use mathlib.Core.Path.{◌≡◌, ap, sym, ◌∙◌}
use mathlib.Core.List.{List, [], ◌∷◌, ◌++◌}
use mathlib.Core.Bool.{Bool, false}
use lib.ListN.{length, get_or, take, drop, set, length-set}
use lib.Seq.{set-append_left, paste, paste-suc, take-length}
use lib.Dec.{eqb}
use lib.Pow.{pow_mono}
use Rattle.reader.specs.Bits.{digit, odd, bits, number, bits_of, bit_at}
use Rattle.reader.proofs.Bits.{digit-odd, length-bits, number_lt, bits-number, number-bits, get_d_bits}
use Rattle.forms.specs.Over.{with_bit, over}

-- what storing a bit does to the number
pub number-set : (l : List Bool) (k : ℕ) (d : Bool) → k < length l
    → number (set l k d) + digit (get_or l k false) * 2 ^ (length l - 1 - k) ≡ number l + digit d * 2 ^ (length l - 1 - k)
number-set [] k d h = absurd (omega arith)
number-set (b ∷ l) zero d h = let e : suc (length l) - 1 - 0 ≡ length l = omega arith in rw e (omega arith)
number-set (b ∷ l) (suc k) d h =
    let e : suc (length l) - 1 - suc k ≡ length l - 1 - k = omega arith in
    let p : digit b * 2 ^ length (set l k d) ≡ digit b * 2 ^ length l = ap (λ (n : ℕ). digit b * 2 ^ n) (length-set l k d) in
    rw e (omega (arith, number-set l k d (omega arith)))

-- the bits of a form with one byte's bit stored
pub bits_of_set : (f : List ℕ) (i k b : ℕ) (d : Bool) → i < length f → k < 8 → bits 8 b ≡ set (bits 8 (get_or f i 0)) k d
    → bits_of (set f i b) ≡ set (bits_of f) (8 * i + k) d
bits_of_set [] i k b d h s e = absurd (omega arith)
bits_of_set (x ∷ f) zero k b d h s e =
    let n : 8 * 0 + k ≡ k = omega arith in
    rw n (ap (λ (l : List Bool). l ++ bits_of f) e ∙ sym (set-append_left (bits 8 x) (bits_of f) k d s))
bits_of_set (x ∷ f) (suc i) k b d h s e =
    let n : 8 * suc i + k ≡ suc (suc (suc (suc (suc (suc (suc (suc (8 * i + k)))))))) = omega arith in
    rw n (ap (λ (l : List Bool). bits 8 x ++ l) (bits_of_set f i k b d (omega arith) s e))

-- a byte with a bit stored: the sum that the code computes
pub with_bit-sum : (b k : ℕ) (d : Bool) → b < 256 → k < 8 → with_bit b k d + bit_at b k * 2 ^ (7 - k) ≡ b + digit d * 2 ^ (7 - k)
unfolding with_bit
with_bit-sum b k d h s =
    let e : 8 - 1 - k ≡ 7 - k = omega arith in
    (rw e at (number-set (bits 8 b) k d s)) ∙ ap (λ (n : ℕ). n + digit d * 2 ^ (7 - k)) (number-bits 8 b h)

pub with_bit_lt : (b k : ℕ) (d : Bool) → with_bit b k d < 256
unfolding with_bit
with_bit_lt b k d = let n : length (set (bits 8 b) k d) ≡ 8 = length-set (bits 8 b) k d in rw n at (number_lt (set (bits 8 b) k d))

pub bits-with_bit : (b k : ℕ) (d : Bool) → bits 8 (with_bit b k d) ≡ set (bits 8 b) k d
unfolding with_bit
bits-with_bit b k d = let n : length (set (bits 8 b) k d) ≡ 8 = length-set (bits 8 b) k d in rw n at (bits-number (set (bits 8 b) k d))

pub weight_le : (k : ℕ) → 2 ^ (7 - k) ≤ 128
weight_le k = let h : 7 - k ≤ 7 = omega arith in pow_mono h

-- what the code computes: the new bit's weight is added, and the old one's taken away
pub bit_stored : (b k new old : ℕ) → b < 256 → k < 8 → new < 2 → old ≡ bit_at b k
    → b + new * (1 * 2 ^ (7 - k) % 4294967296) - old * (1 * 2 ^ (7 - k) % 4294967296) ≡ with_bit b k (odd new)
bit_stored b k new old h s n e =
    let w : 1 * 2 ^ (7 - k) % 4294967296 ≡ 2 ^ (7 - k) = omega (arith, weight_le k) in
    let d : digit (odd new) ≡ new = omega (arith, digit-odd new) in
    rw (w, e) (omega (arith, rw d at (with_bit-sum b k (odd new) h s)))

-- storing bit at of a form
pub bits_of_put : (f : List ℕ) (at b : ℕ) (d : Bool) → at < 8 * length f → b ≡ with_bit (get_or f (at / 8) 0) (at % 8) d
    → bits_of (set f (at / 8) b) ≡ set (bits_of f) at d
bits_of_put f at b d h e =
    let p : bits 8 b ≡ set (bits 8 (get_or f (at / 8) 0)) (at % 8) d = ap (bits 8) e ∙ bits-with_bit (get_or f (at / 8) 0) (at % 8) d in
    let q : 8 * (at / 8) + at % 8 ≡ at = omega arith in
    bits_of_set f (at / 8) (at % 8) b d (omega arith) (omega arith) p ∙ ap (λ (n : ℕ). set (bits_of f) n d) q

-- one bit more of a field is written
pub put_more : (l : List Bool) (at w v k : ℕ) → at + k < length l → k < w
    → set (paste l at (bits w v) k) (at + k) (odd (v / 2 ^ (w - 1 - k) % 2)) ≡ paste l at (bits w v) (k + 1)
put_more l at w v k h s =
    let x = v / 2 ^ (w - 1 - k) in
    let e : odd (x % 2) ≡ get_or (bits w v) k false = ap (λ (n : ℕ). eqb n 1) (mod-mod x 2) ∙ sym (get_d_bits w v k s) in
    let m : k < length (bits w v) = rw length-bits s in
    ap (λ (b : Bool). set (paste l at (bits w v) k) (at + k) b) e ∙ rw add-one (paste-suc l at (bits w v) k false h m)

pub put_all : (l : List Bool) (at : ℕ) (s : List Bool) (n : ℕ) → n ≡ length s → paste l at s n ≡ over l at s
unfolding over
put_all l at s n e = ap (λ (k : ℕ). paste l at s k) e ∙ ap (λ (t : List Bool). take at l ++ t ++ drop (at + length s) l) (take-length s)
