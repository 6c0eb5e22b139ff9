-- From bits to bytes: a buffer whose bits begin with a form's bits and padding begins with the form's bytes.
-- Assumes nothing.
use Prim.Native.Nat.{ℕ, zero, suc, ◌+◌, ◌-◌, ◌*◌, ◌/◌, ◌^◌, ◌<◌, ◌≤◌}
use native.Mathlib.Omega.{arith}
use native.Mathlib.Nat.{zero-div, zero-mod, zero-add}
use mathlib.Core.Path.{◌≡◌, refl, ap, ap₂, sym, ◌∙◌}
use mathlib.Core.List.{List, [], ◌∷◌, ◌++◌, append_assoc}
use mathlib.Core.Bool.{Bool, false}
use lib.ListN.{length, get_or, take, drop, replicate, length-append, length-replicate, length-take}
use borrow.Author.Tests.{le-leb, lt-leb}
use Rattle.reader.specs.Bits.{bits, bits_of}
use Rattle.reader.proofs.Bits.{length_bits_of, number-take_lt}
use Rattle.blocks.specs.declared.Block.{Block}
use Rattle.blocks.specs.declared.Net.{Net}
use Rattle.stored.specs.Form.{put_field, put_many, put_block, put_net, encode, padded, bytes_of, pack, form_of}
use Rattle.stored.specs.Sizes.{AreBytes}
use Rattle.forms.specs.Over.{over, written_of, buffer_of}
use Rattle.std.proofs.Common.{Ok, Err}
use Rattle.blocks.specs.declared.Refusal.TheVariants.{Buffer}
use Rattle.stored.proofs.Lists.{all_append, all_drop}
use Rattle.stored.proofs.Codecs.{bits_of_bytes_of, bytes_of_bits_of}
use Rattle.stored.proofs.Loads.{length-block}
use Rattle.forms.proofs.Writes.{over_three, up_to, encode-bits}

bits-zero : (w : ℕ) → bits w 0 ≡ replicate w false
bits-zero zero = refl
bits-zero (suc w) = rw (zero-div (2 ^ w), zero-mod (2 ^ w)) (ap (λ (t : List Bool). false ∷ t) (bits-zero w))

bits_of_append : (f g : List ℕ) → bits_of (f ++ g) ≡ bits_of f ++ bits_of g
bits_of_append [] g = refl
bits_of_append (b ∷ f) g = ap (λ (t : List Bool). bits 8 b ++ t) (bits_of_append f g) ∙ sym (append_assoc (bits 8 b) (bits_of f) (bits_of g))

bits_of_drop : (k : ℕ) (f : List ℕ) → k ≤ length f → bits_of (drop k f) ≡ drop (8 * k) (bits_of f)
bits_of_drop zero f h = refl
bits_of_drop (suc k) [] h = absurd (omega arith)
bits_of_drop (suc k) (b ∷ f) h =
    let e : 8 * suc k ≡ suc (suc (suc (suc (suc (suc (suc (suc (8 * k)))))))) = omega arith in
    rw e (bits_of_drop k f (omega arith))

all_bytes : (k : ℕ) (l : List Bool) → AreBytes (bytes_of k l)
unfolding bytes_of
all_bytes zero l = tt
all_bytes (suc k) l = (number-take_lt 8 l, all_bytes k (drop 8 l))

pub all_by_index : (f : List ℕ) → ((i : ℕ) → get_or f i 0 < 256) → AreBytes f
all_by_index [] h = tt
all_by_index (x ∷ f) h = (h 0, all_by_index f (λ i. h (suc i)))

-- bytes with the same bits are the same
same_bytes : (f g : List ℕ) → AreBytes f → AreBytes g → bits_of f ≡ bits_of g → f ≡ g
same_bytes f g a b e =
    let n : length f ≡ length g = omega (arith, length_bits_of f, length_bits_of g, ap length e) in
    sym (bytes_of_bits_of f a) ∙ ap₂ bytes_of n e ∙ bytes_of_bits_of g b

length_bytes_of : (k : ℕ) (l : List Bool) → length (bytes_of k l) ≡ k
unfolding bytes_of
length_bytes_of zero l = refl
length_bytes_of (suc k) l = ap suc (length_bytes_of k (drop 8 l))

pub length-pack : (l : List Bool) → length (pack l) ≡ (length l + 7) / 8
unfolding pack
length-pack l = length_bytes_of _ _

bits_of_pack : (l : List Bool) → bits_of (pack l) ≡ l ++ bits (8 * ((length l + 7) / 8) - length l) 0
unfolding pack padded
bits_of_pack l =
    let k = (length l + 7) / 8 in
    let long : length (l ++ replicate (8 * k - length l) false) ≡ 8 * k = simp (length-append, length-replicate) (omega arith) in
    bits_of_bytes_of k (l ++ replicate (8 * k - length l) false) long ∙ ap (λ (t : List Bool). l ++ t) (sym (bits-zero (8 * k - length l)))

pub all_pack : (l : List Bool) → AreBytes (pack l)
unfolding pack
all_pack l = all_bytes _ _

abbrev pub header : Net → List Bool
header n = bits 4 1 ++ (bits 12 0 ++ (bits 8 n.size ++ bits 8 n.channels))

-- a buffer over which a net's parts and the zero bits to the byte's end were written
module _ (n : Net) (f g : List ℕ) (a : AreBytes f) (b : AreBytes g) (room : length (form_of n) ≤ length f) where
  parts : (z : List Bool) → header n ++ (up_to n.blocks n.size ++ z) ≡ encode n ++ z
  unfolding encode put_net put_field
  parts z = refl

  pub written : (z : ℕ) → z ≡ 8 * ((length (encode n) + 7) / 8) - length (encode n)
      → bits_of g ≡ over (over (over (bits_of f) 0 (header n)) 32 (up_to n.blocks n.size)) (length (encode n)) (bits z 0)
      → g ≡ form_of n ++ drop (length (form_of n)) f
  unfolding over
  written z e h =
      let l = encode n in
      let k = (length l + 7) / 8 in
      let p = pack l in
      let x = up_to n.blocks n.size in
      let len : length p ≡ k = length-pack l in
      let whole : bits_of p ≡ l ++ bits z 0 = bits_of_pack l ∙ ap (λ (w : ℕ). l ++ bits w 0) (sym e) in
      let size : length (l ++ bits z 0) ≡ 8 * length p = sym (ap length whole) ∙ length_bits_of p in
      let three : over (over (over (bits_of f) 0 (header n)) 32 x) (length l) (bits z 0) ≡ over (bits_of f) 0 (header n ++ (x ++ bits z 0)) =
      over_three (bits_of f) 0 32 (length l) (header n) x (bits z 0) refl (sym (encode-bits n)) (rw length_bits_of (omega arith)) in
      let mine : bits_of g ≡ (l ++ bits z 0) ++ drop (length (l ++ bits z 0)) (bits_of f) =
      h ∙ three ∙ ap (over (bits_of f) 0) (parts (bits z 0)) ∙ rw zero-add refl in
      let theirs : bits_of (p ++ drop (length p) f) ≡ (l ++ bits z 0) ++ drop (length (l ++ bits z 0)) (bits_of f) =
      bits_of_append p (drop (length p) f)
      ∙ ap₂ ◌++◌ whole (bits_of_drop (length p) f room ∙ ap (λ (m : ℕ). drop m (bits_of f)) (sym size)) in
      same_bytes g (p ++ drop (length p) f) b (all_append (λ x. x < 256) p (drop (length p) f) (all_pack l) (all_drop (λ x. x < 256) (length p) f a)) (mine ∙ sym theirs)

-- a net's form is small
many_most : (xs : List Block) → length (put_many put_block xs []) ≤ 110 * length xs
unfolding put_many
many_most [] = omega arith
many_most (x ∷ xs) = omega (arith, length-block x (put_many put_block xs []), many_most xs)

pub form_most : (n : Net) → n.size ≤ 64 → length (encode n) ≤ 7072
form_most n h =
    let few : length (take n.size n.blocks) ≤ n.size = simp length-take (omega arith) in
    omega (arith, encode-bits n, many_most (take n.size n.blocks))

-- the answers
module _ (n : Net) (f : List ℕ) where
  pub too_short : length f < (length (encode n) + 7) / 8 → (Err Buffer ≡ written_of f (form_of n)) × (f ≡ buffer_of f (form_of n))
  unfolding written_of buffer_of
  too_short h =
      let s : length f < length (form_of n) = rw length-pack h in
      (rw (lt-leb _ _ s) refl, rw (lt-leb _ _ s) refl)

  pub fits : (g : List ℕ) → (length (encode n) + 7) / 8 ≤ length f → g ≡ form_of n ++ drop (length (form_of n)) f
      → (Ok ((length (encode n) + 7) / 8) ≡ written_of f (form_of n)) × (g ≡ buffer_of f (form_of n))
  unfolding written_of buffer_of
  fits g h e =
      let s : length (form_of n) ≤ length f = rw length-pack h in
      (rw (le-leb _ _ s) (ap (λ (k : ℕ). Ok k) (sym (length-pack (encode n)))), rw (le-leb _ _ s) e)
