-- Laws of the records that bytes make: how many there are, which numbers make record i, and that the bytes of records give them back.
-- Assumes nothing.
use Prim.Native.Nat.{ℕ, zero, suc, ◌+◌, ◌*◌, ◌/◌, ◌%◌, ◌^◌, ◌<◌, ◌≤◌}
use native.Mathlib.Omega.{arith}
use mathlib.Core.Path.{◌≡◌, refl, ap, ap₂, ◌∙◌}
use mathlib.Core.List.{List, [], ◌∷◌, ◌++◌}
use lib.ListN.{length, get_or}
use Rattle.trace.specs.Numbers.{four_bytes, numbers_of}
use Rattle.trace.specs.Records.{record_of, bytes_of, trace_of}
use Rattle.trace.proofs.ByteNumbers.{length_numbers, numbers_lt}
use Rattle.recorded.specs.Recorded.{paired, records_read, channel_of, word_of}

length-paired : (l : List ℕ) → length (paired l) ≡ length l / 2
unfolding paired
length-paired (a ∷ b ∷ l) = omega (arith, length-paired l)
length-paired (a ∷ []) = refl
length-paired [] = refl

pub length_read : (bytes : List ℕ) → length (records_read bytes) ≡ length bytes / 8
length_read bytes = omega (arith, length-paired (numbers_of bytes), length_numbers bytes)

paired_at : (l : List ℕ) (i : ℕ) → 2 * i + 2 ≤ length l → get_or (paired l) i 0 ≡ get_or l (2 * i) 0 * 2 ^ 32 + get_or l (2 * i + 1) 0
unfolding paired
paired_at (a ∷ b ∷ l) zero h = refl
paired_at (a ∷ b ∷ l) (suc i) h =
    let e : 2 * suc i ≡ suc (suc (2 * i)) = omega arith in
    let f : 2 * suc i + 1 ≡ suc (suc (2 * i + 1)) = omega arith in
    rw (f, e) (paired_at l i (omega arith))
paired_at (a ∷ []) i h = absurd (omega arith)
paired_at [] i h = absurd (omega arith)

-- record i is made of numbers 2 i and 2 i + 1
pub record_is : (bytes : List ℕ) (i : ℕ) → 8 * i + 8 ≤ length bytes
    → get_or (records_read bytes) i 0 ≡ get_or (numbers_of bytes) (2 * i) 0 * 2 ^ 32 + get_or (numbers_of bytes) (2 * i + 1) 0
record_is bytes i h = paired_at (numbers_of bytes) i (omega (arith, length_numbers bytes))

-- the channel is in the upper number, and the lower one is the word
module _ (bytes : List ℕ) (fit : (k : ℕ) → get_or bytes k 0 < 256) (i : ℕ) (h : 8 * i + 8 ≤ length bytes) where
  low : get_or (numbers_of bytes) (2 * i + 1) 0 < 2 ^ 32
  low = numbers_lt bytes fit (2 * i + 1)

  pub upper_channel : get_or (numbers_of bytes) (2 * i) 0 % 128 ≡ channel_of (get_or (records_read bytes) i 0)
  upper_channel = omega (arith, record_is bytes i h, low)

  pub lower_word : get_or (numbers_of bytes) (2 * i + 1) 0 ≡ word_of (get_or (records_read bytes) i 0)
  lower_word = omega (arith, record_is bytes i h, low)

-- whole records and then more bytes
pub read_append : (bytes more : List ℕ) → length bytes % 8 ≡ 0 → records_read (bytes ++ more) ≡ records_read bytes ++ records_read more
unfolding numbers_of paired
read_append (a ∷ b ∷ c ∷ d ∷ e ∷ f ∷ g ∷ i ∷ l) more h =
    ap (λ (rs : List ℕ). (four_bytes a b c d * 2 ^ 32 + four_bytes e f g i) ∷ rs) (read_append l more (omega (arith, h)))
read_append (a ∷ b ∷ c ∷ d ∷ e ∷ f ∷ g ∷ []) more h = absurd (omega (arith, h))
read_append (a ∷ b ∷ c ∷ d ∷ e ∷ f ∷ []) more h = absurd (omega (arith, h))
read_append (a ∷ b ∷ c ∷ d ∷ e ∷ []) more h = absurd (omega (arith, h))
read_append (a ∷ b ∷ c ∷ d ∷ []) more h = absurd (omega (arith, h))
read_append (a ∷ b ∷ c ∷ []) more h = absurd (omega (arith, h))
read_append (a ∷ b ∷ []) more h = absurd (omega (arith, h))
read_append (a ∷ []) more h = absurd (omega (arith, h))
read_append [] more h = refl

-- ## The bytes of records give them back

-- two bytes, and two halves of four
two : (q : ℕ) → (q / 256 % 256) * 256 + q % 256 ≡ q % 2 ^ 16
two q = omega arith

halves : (q : ℕ) → (q / 2 ^ 16 % 2 ^ 16) * 2 ^ 16 + q % 2 ^ 16 ≡ q % 2 ^ 32
halves q = omega arith

lower : (r : ℕ) → four_bytes (r / 2 ^ 24 % 256) (r / 2 ^ 16 % 256) (r / 2 ^ 8 % 256) (r % 256) ≡ r % 2 ^ 32
lower r =
    let e : r / 2 ^ 24 ≡ r / 2 ^ 16 / 256 = omega arith in
    ap (λ (x : ℕ). four_bytes (x % 256) (r / 2 ^ 16 % 256) (r / 2 ^ 8 % 256) (r % 256)) e
    ∙ joins (r / 2 ^ 16 / 256 % 256) (r / 2 ^ 16 % 256) (r / 2 ^ 8 % 256) (r % 256) (two (r / 2 ^ 16)) (two r) ∙ halves r
  where
    joins : (a b c d : ℕ) {x y : ℕ} → a * 256 + b ≡ x → c * 256 + d ≡ y → four_bytes a b c d ≡ x * 2 ^ 16 + y
    joins a b c d p q = omega arith

upper : (r : ℕ) → four_bytes (r / 2 ^ 56 % 256) (r / 2 ^ 48 % 256) (r / 2 ^ 40 % 256) (r / 2 ^ 32 % 256) ≡ r / 2 ^ 32 % 2 ^ 32
upper r = same (r / 2 ^ 32) (omega arith) (omega arith) (omega arith)
  where
    same : (q : ℕ) {x y z : ℕ} → x ≡ q / 2 ^ 24 → y ≡ q / 2 ^ 16 → z ≡ q / 2 ^ 8 → four_bytes (x % 256) (y % 256) (z % 256) (q % 256) ≡ q % 2 ^ 32
    same q e f g = rw (e, f, g) (lower q)

whole : (r : ℕ) → r < 2 ^ 64 → (r / 2 ^ 32 % 2 ^ 32) * 2 ^ 32 + r % 2 ^ 32 ≡ r
whole r h = omega arith

-- one record
read_one : (r : ℕ) (l : List ℕ) → r < 2 ^ 64 → records_read (bytes_of r ++ l) ≡ r ∷ records_read l
unfolding bytes_of numbers_of paired
read_one r l h = ap (λ (x : ℕ). x ∷ paired (numbers_of l)) (ap₂ (λ (a b : ℕ). a * 2 ^ 32 + b) (upper r) (lower r) ∙ whole r h)

-- each record fits 64 bits
abbrev pub Fit64 : List ℕ → Type 0
Fit64 rs = (i : ℕ) → i < length rs → get_or rs i 0 < 2 ^ 64

pub read_back : (rs : List ℕ) → Fit64 rs → records_read (trace_of rs) ≡ rs
unfolding trace_of numbers_of paired
read_back [] h = refl
read_back (r ∷ rs) h = read_one r (trace_of rs) (h 0 (omega arith)) ∙ ap (λ (l : List ℕ). r ∷ l) (read_back rs (λ i k. h (suc i) (omega arith)))

-- ## The fields of a record

module _ (count c w : ℕ) (count_low : count < 2 ^ 25) (c-low : c < 128) (w-low : w < 2 ^ 32) where
  pub fits : record_of count c w < 2 ^ 64
  fits = omega arith

  pub channel_is : channel_of (record_of count c w) ≡ c
  channel_is = omega arith

  pub word_is : word_of (record_of count c w) ≡ w
  word_is = omega arith
