-- Writing bits over a buffer's bits, part after part: a net's form is its header and its blocks, one behind the other.
-- Assumes nothing.
use Prim.Native.Nat.{ℕ, ◌+◌, ◌*◌, ◌<◌, ◌≤◌}
use native.Mathlib.Omega.{arith}
use native.Mathlib.Numerals.{add-one}
use mathlib.Core.Path.{◌≡◌, refl, ap, sym, ◌∙◌}
use mathlib.Core.List.{List, [], ◌∷◌, ◌++◌, append_assoc, append-nil}
use mathlib.Core.Bool.{Bool, true, false}
use lib.ListN.{length, get_or, take, drop, length-append, take-append-drop}
use lib.Seq.{paste-zero, take_at, drop-append-add, length-take-le, drop-drop, take-suc, take-take}
use Rattle.std.proofs.lemmas.List.{get_or-take}
use Rattle.reader.specs.Bits.{bits}
use Rattle.blocks.specs.Ports.{has_value}
use Rattle.nets.specs.Block.{no_block}
use Rattle.blocks.specs.declared.Block.{Block}
use Rattle.blocks.specs.declared.Net.{Net}
use Rattle.stored.specs.Form.{Taken, port_count, put_field, put_value, put_many, put_valued, put_block, put_net, encode}
use Rattle.forms.specs.Over.{over, block_bits}
use Rattle.stored.proofs.Codecs.{Codec, port_count_le, many_front, port_codec, block_codec}
use Rattle.stored.proofs.Loads.{length_field, length-ports-bits, length-block}

pub over_nil : (l : List Bool) (at : ℕ) → l ≡ over l at []
unfolding over
over_nil l at = paste-zero l at []

-- one part written after another
pub over-over : (l : List Bool) (at n : ℕ) (s t : List Bool) → at + length s ≤ length l → at + length s ≡ n → over (over l at s) n t ≡ over l at (s ++ t)
unfolding over
over-over l at n s t h e =
    let p : length (take at l ++ s) ≡ n = length-append (take at l) s ∙ ap (λ (k : ℕ). k + length s) (length-take-le at l (omega arith)) ∙ e in
    let g : at + length s + length t ≡ at + length (s ++ t) = simp length-append (omega arith) in
    let q : drop (n + length t) (take at l ++ s ++ drop (at + length s) l) ≡ drop (at + length (s ++ t)) l =
    ap (λ (k : ℕ). drop (k + length t) (take at l ++ s ++ drop (at + length s) l)) (sym p)
    ∙ drop-append-add (take at l ++ s) (drop (at + length s) l) (length t)
    ∙ drop-drop (length t) (at + length s) l
    ∙ ap (λ (k : ℕ). drop k l) g in
    rw (take_at (take at l ++ s) (drop (at + length s) l) n p, q) (ap (λ (x : List Bool). x ++ drop (at + length (s ++ t)) l) (append_assoc (take at l) s t))

-- many values, one behind the other
module _ {A : Type 0} {ok : A → Type 0} {put : A → List Bool → List Bool} {taken : List Bool → Taken A} (one : Codec ok put taken) where
  many_append : (xs ys : List A) (r : List Bool) → put_many put (xs ++ ys) r ≡ put_many put xs (put_many put ys r)
  unfolding put_many
  many_append [] ys r = refl
  many_append (x ∷ xs) ys r = ap (put x) (many_append xs ys r)

  many_split : (xs ys : List A) → put_many put (xs ++ ys) [] ≡ put_many put xs [] ++ put_many put ys []
  many_split xs ys = many_append xs ys [] ∙ sym (many_front one xs [] (put_many put ys []))

  -- one more of them
  many_more : (xs : List A) (i : ℕ) (d : A) → i < length xs → put_many put (take (i + 1) xs) [] ≡ put_many put (take i xs) [] ++ put (get_or xs i d) []
  unfolding put_many
  many_more xs i d h =
      ap (λ (ys : List A). put_many put ys []) (ap (λ (k : ℕ). take k xs) (add-one i) ∙ take-suc xs i d h) ∙ many_split (take i xs) (get_or xs i d ∷ [])

-- one port more
pub ports_more : (l : List Bool) (start : ℕ) (ps : List ℕ) (i : ℕ) → i < length ps → start + 7 * i + 7 ≤ length l
    → over (over l start (put_many (put_field 7) (take i ps) [])) (start + 7 * i) (bits 7 (get_or ps i 0)) ≡ over l start (put_many (put_field 7) (take (i + 1) ps) [])
unfolding put_field
ports_more l start ps i h s =
    let x = put_many (put_field 7) (take i ps) [] in
    let n : length x ≡ 7 * i = length-ports-bits (take i ps) [] ∙ rw (length-take-le i ps (omega arith)) (omega arith) in
    over-over l start (start + 7 * i) x (bits 7 (get_or ps i 0)) (omega arith) (omega arith)
    ∙ ap (over l start) (ap (λ (b : List Bool). x ++ b) (sym (append-nil (bits 7 (get_or ps i 0)))) ∙ sym (many_more (port_codec 0 (omega arith)) ps i 0 h))

-- a block's bits
module _ (b : Block) (h : length b.ports ≡ 10) where
  ports-bits : length (put_many (put_field 7) (take (port_count b.kind b.m) b.ports) []) ≡ 7 * port_count b.kind b.m
  ports-bits =
      let few : port_count b.kind b.m ≤ length b.ports = omega (arith, port_count_le b.kind b.m) in
      omega (arith, length-ports-bits (take (port_count b.kind b.m) b.ports) [], length-take-le _ b.ports few)

  pub bits_valued : has_value b.kind ≡ true → length (put_valued b []) ≡ 32 + 7 * port_count b.kind b.m
  unfolding put_valued put_value
  bits_valued t = rw t (omega (arith, length_field 32 b.value (put_many (put_field 7) (take (port_count b.kind b.m) b.ports) []), ports-bits))

  pub bits_plain : has_value b.kind ≡ false → length (put_valued b []) ≡ 7 * port_count b.kind b.m
  unfolding put_valued put_value
  bits_plain t = rw t ports-bits

pub bits-block : (b : Block) → block_bits b ≡ 8 + length (put_valued b [])
unfolding block_bits put_block
bits-block b = omega (arith, length_field 4 b.kind (put_field 4 b.m (put_valued b [])), length_field 4 b.m (put_valued b []))

-- three parts, and four, written one after another
pub over_three : (l : List Bool) (at n₁ n₂ : ℕ) (s t u : List Bool) → at + length s ≡ n₁ → n₁ + length t ≡ n₂ → n₂ ≤ length l
    → over (over (over l at s) n₁ t) n₂ u ≡ over l at (s ++ (t ++ u))
over_three l at n₁ n₂ s t u e₁ e₂ h =
    let g : at + length (s ++ t) ≡ n₂ = simp length-append (omega arith) in
    ap (λ (x : List Bool). over x n₂ u) (over-over l at n₁ s t (omega arith) e₁)
    ∙ over-over l at n₂ (s ++ t) u (omega arith) g
    ∙ ap (over l at) (append_assoc s t u)

pub over-four : (l : List Bool) (at n₁ n₂ n₃ : ℕ) (s t u v : List Bool) → at + length s ≡ n₁ → n₁ + length t ≡ n₂ → n₂ + length u ≡ n₃ → n₃ ≤ length l
    → over (over (over (over l at s) n₁ t) n₂ u) n₃ v ≡ over l at (s ++ (t ++ (u ++ v)))
over-four l at n₁ n₂ n₃ s t u v e₁ e₂ e₃ h =
    let g : at + length (s ++ t) ≡ n₂ = simp length-append (omega arith) in
    ap (λ (x : List Bool). over (over x n₂ u) n₃ v) (over-over l at n₁ s t (omega arith) e₁)
    ∙ over_three l at n₂ n₃ (s ++ t) u v g e₃ h
    ∙ ap (over l at) (append_assoc s t (u ++ v))

-- a block's parts
module _ (l : List Bool) (at : ℕ) (b : Block) where
  pub over_plain : has_value b.kind ≡ false
      → over l at (put_many (put_field 7) (take (port_count b.kind b.m) b.ports) []) ≡ over l at (put_valued b [])
  unfolding put_valued put_value
  over_plain t = rw t refl

  pub over_valued : at + 32 ≤ length l → has_value b.kind ≡ true
      → over (over l at (bits 32 b.value)) (at + 32) (put_many (put_field 7) (take (port_count b.kind b.m) b.ports) []) ≡ over l at (put_valued b [])
  unfolding put_valued put_value put_field
  over_valued h t = over-over l at (at + 32) (bits 32 b.value) _ h refl ∙ rw t refl

  pub over-block : at + 8 ≤ length l → over (over (over l at (bits 4 b.kind)) (at + 4) (bits 4 b.m)) (at + 8) (put_valued b []) ≡ over l at (put_block b [])
  unfolding put_block put_field
  over-block h = over_three l at (at + 4) (at + 8) (bits 4 b.kind) (bits 4 b.m) (put_valued b []) refl (omega arith) h

-- the blocks' bits, up to a block and with it
abbrev pub up_to : List Block → ℕ → List Bool
up_to bs i = put_many put_block (take i bs) []

one_more : (bs : List Block) (i : ℕ) (d : Block) → i < length bs → up_to bs (i + 1) ≡ up_to bs i ++ put_block (get_or bs i d) []
one_more = many_more (block_codec 0 (omega arith))

bits_more : (bs : List Block) (i : ℕ) (d : Block) → i < length bs → length (up_to bs (i + 1)) ≡ length (up_to bs i) + block_bits (get_or bs i d)
unfolding block_bits
bits_more bs i d h = ap length (one_more bs i d h) ∙ length-append (up_to bs i) (put_block (get_or bs i d) [])

bits_mono : (bs : List Block) (i n : ℕ) → i ≤ n → length (up_to bs i) ≤ length (up_to bs n)
bits_mono bs i n h =
    let e : take i bs ++ drop i (take n bs) ≡ take n bs = rw (← take-take i n bs h) (take-append-drop i (take n bs)) in
    let f : length (up_to bs n) ≡ length (up_to bs i) + length (put_many put_block (drop i (take n bs)) []) =
    ap (λ (xs : List Block). length (put_many put_block xs [])) (sym e) ∙ ap length (many_split (block_codec 0 (omega arith)) (take i bs) (drop i (take n bs)))
    ∙ length-append (up_to bs i) (put_many put_block (drop i (take n bs)) []) in
    omega arith

pub bits_most : (b : Block) → block_bits b ≤ 110
unfolding block_bits
bits_most b = omega (arith, length-block b [])

-- a net's form is its header and its blocks
pub encode-bits : (n : Net) → length (encode n) ≡ 32 + length (up_to n.blocks n.size)
unfolding encode put_net
encode-bits n =
    let x = up_to n.blocks n.size in
    omega (
      arith,
      length_field 8 n.channels x,
      length_field 8 n.size (put_field 8 n.channels x),
      length_field 12 0 (put_field 8 n.size (put_field 8 n.channels x)),
      length_field 4 1 (put_field 12 0 (put_field 8 n.size (put_field 8 n.channels x))),
    )

-- block i of a net, as a loop over its blocks meets it
abbrev pub met : Net → ℕ → Block
met n i = get_or (take n.size n.blocks) i no_block

pub many-met : (n : Net) → n.size ≤ length n.blocks → length (take n.size n.blocks) ≡ n.size
many-met n long = length-take-le n.size n.blocks long

-- what a turn over a net's blocks needs
module _ (n : Net) (long : n.size ≤ length n.blocks) (i : ℕ) (h : i < n.size) where
  here : met n i ≡ get_or n.blocks i no_block
  here = get_or-take n.size n.blocks i no_block h

  pub turn-bits : length (up_to n.blocks (i + 1)) ≡ length (up_to n.blocks i) + block_bits (met n i)
  turn-bits = rw here (bits_more n.blocks i no_block (omega arith))

  pub turn-room : 32 + length (up_to n.blocks i) + block_bits (met n i) ≤ length (encode n)
  turn-room = omega (arith, turn-bits, bits_mono n.blocks (i + 1) n.size (omega arith), encode-bits n)

  pub turn-over : (l : List Bool) → length (encode n) ≤ length l
      → over (over l 32 (up_to n.blocks i)) (32 + length (up_to n.blocks i)) (put_block (met n i) []) ≡ over l 32 (up_to n.blocks (i + 1))
  turn-over l s =
      over-over l 32 (32 + length (up_to n.blocks i)) (up_to n.blocks i) (put_block (met n i) []) (omega (arith, turn-room)) refl
      ∙ rw here (ap (over l 32) (sym (one_more n.blocks i no_block (omega arith))))
