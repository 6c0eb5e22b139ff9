-- The end of a form, a block's bits, and the net that the parts of a form make.
-- Assumes nothing.
use Prim.Native.Nat.{ℕ, ◌+◌, ◌*◌, ◌<◌, ◌≤◌}
use native.Mathlib.Omega.{arith}
use mathlib.Core.Path.{◌≡◌, refl, ap, ◌∙◌}
use mathlib.Core.List.{List, [], ◌∷◌}
use mathlib.Core.Bool.{Bool, true, false, cond}
use Rattle.std.proofs.Common.{Some, None}
use lib.ListN.{length, take, drop, length-append, length-take}
use lib.Seq.{take_all}
use lib.Dec.{leb, eqb}
use lib.Pow.{pow_pos}
use borrow.Author.Tests.{leb-false, lt-ltb, le-ltb, ne_eqb}
use Rattle.reader.specs.Bits.{bits, number, bits_of, field_at}
use Rattle.reader.proofs.Bits.{length-bits}
use Rattle.blocks.specs.Ports.{has_value}
use Rattle.blocks.specs.declared.Block.{Block}
use Rattle.blocks.specs.declared.Net.{Net}
use Rattle.stored.specs.Form.{Taken, got, refused, and_then, take_tested, between, take_many, take_block, take_blocks, take_counts, take_net, port_count, net_of, blank, blank_end, loaded, denied, finish, parse, put_field, put_value, put_many, put_valued, put_block}
use Rattle.stored.specs.Reads.{Took}
use Rattle.stored.proofs.Codecs.{then_there, then_refused, port_count_le}
use Rattle.stored.proofs.Places.{length_from}

-- bits are blank where the number that they make is 0
blank-number : (l : List Bool) → eqb (number l) 0 ≡ blank l
unfolding blank
blank-number [] = refl
blank-number (true ∷ l) = ne_eqb (number (true ∷ l)) 0 (λ e. omega (arith, pow_pos (length l)))
blank-number (false ∷ l) = let e : number (false ∷ l) ≡ number l = omega arith in ap (λ (n : ℕ). eqb n 0) e ∙ blank-number l

no_length : (l : List Bool) → length l ≡ 0 → l ≡ []
no_length [] h = refl
no_length (b ∷ l) h = absurd (omega arith)

module _ (f : List ℕ) (at w : ℕ) where
  pub field_number : (v : ℕ) → field_at f at w ≡ Some v → v ≡ number (take w (drop at (bits_of f)))
  unfolding field_at
  field_number v h = by (leb (at + w) (8 * length f)) h
    where
      by : (t : Bool) → cond t (Some (number (take w (drop at (bits_of f))))) None ≡ Some v → v ≡ number (take w (drop at (bits_of f)))
      by true h = cc
      by false h = let z : ◌≡◌ {A = ℕ} 0 1 = cc in absurd (omega arith)

  pub ended_short : field_at f at w ≡ None → 8 * length f < at + w
  unfolding field_at
  ended_short h = by (leb (at + w) (8 * length f)) refl h
    where
      by : (t : Bool) → leb (at + w) (8 * length f) ≡ t → cond t (Some (number (take w (drop at (bits_of f))))) None ≡ None → 8 * length f < at + w
      by true e h = let z : ◌≡◌ {A = ℕ} 0 1 = cc in absurd (omega arith)
      by false e h = leb-false _ _ e

-- the end of a form
module _ (f : List ℕ) (at : ℕ) (h : at ≤ 8 * length f) where
  pub end_far : at + 8 ≤ 8 * length f → false ≡ blank_end (drop at (bits_of f))
  unfolding blank_end
  end_far s = let n : 8 ≤ length (drop at (bits_of f)) = rw (length_from f at 0) (omega arith) in rw (le-ltb _ 8 n) refl

  pub end_none : 8 * length f ≡ at → true ≡ blank_end (drop at (bits_of f))
  unfolding blank_end blank
  end_none s =
      let n : length (drop at (bits_of f)) ≡ 0 = length_from f at 0 ∙ omega arith in
      rw (no_length (drop at (bits_of f)) n) refl

  pub end_some : (w v : ℕ) → at + w ≡ 8 * length f → w < 8 → field_at f at w ≡ Some v → eqb v 0 ≡ blank_end (drop at (bits_of f))
  unfolding blank_end
  end_some w v s t e =
      let n : length (drop at (bits_of f)) ≡ w = length_from f at 0 ∙ omega arith in
      let few : length (drop at (bits_of f)) < 8 = omega arith in
      let all : take w (drop at (bits_of f)) ≡ drop at (bits_of f) = take_all w (drop at (bits_of f)) (omega arith) in
      rw (lt-ltb _ 8 few) (ap (λ (k : ℕ). eqb k 0) (field_number f at w v e ∙ ap number all) ∙ blank-number (drop at (bits_of f)))

-- a block has at most 110 bits
pub length_field : (w v : ℕ) (r : List Bool) → length (put_field w v r) ≡ w + length r
unfolding put_field
length_field w v r = length-append (bits w v) r ∙ ap (λ (n : ℕ). n + length r) (length-bits w v)

length-value : (t : Bool) (v : ℕ) (r : List Bool) → length (put_value t v r) ≤ 32 + length r
unfolding put_value
length-value true v r = omega (arith, length_field 32 v r)
length-value false v r = omega arith

pub length-ports-bits : (ps : List ℕ) (r : List Bool) → length (put_many (put_field 7) ps r) ≡ 7 * length ps + length r
unfolding put_many
length-ports-bits [] r = omega arith
length-ports-bits (p ∷ ps) r = omega (arith, length_field 7 p (put_many (put_field 7) ps r), length-ports-bits ps r)

pub length-block : (b : Block) (r : List Bool) → length (put_block b r) ≤ 110 + length r
unfolding put_block put_valued
length-block b r =
    let n = port_count b.kind b.m in
    let ps = take n b.ports in
    let few : length ps ≤ 10 = simp length-take (omega (arith, port_count_le b.kind b.m)) in
    let x = put_many (put_field 7) ps r in
    let y = put_value (has_value b.kind) b.value x in
    omega (arith, length_field 4 b.kind (put_field 4 b.m y), length_field 4 b.m y, length-value (has_value b.kind) b.value x, length-ports-bits ps r)

-- the net that blocks make
module _ (n c : ℕ) (l : List Bool) where
  pub blocks_refused : (e : ℕ) → take_many (take_block c) n l ≡ refused e → finish (take_blocks n c l) ≡ denied e
  unfolding take_blocks and_then finish
  blocks_refused e h = rw h refl

  pub blocks_loaded : (bs : List Block) (r : List Bool) → take_many (take_block c) n l ≡ got bs r → blank_end r ≡ true → finish (take_blocks n c l) ≡ loaded (net_of n c bs)
  unfolding take_blocks and_then finish
  blocks_loaded bs r h b = rw (h, b) refl

  pub blocks_followed : (bs : List Block) (r : List Bool) → take_many (take_block c) n l ≡ got bs r → blank_end r ≡ false → finish (take_blocks n c l) ≡ denied 7
  unfolding take_blocks and_then finish
  blocks_followed bs r h b = rw (h, b) refl

-- a net, part after part
module _ (f : List ℕ) where
  refused_denied : (t : Taken Net) (e : ℕ) → t ≡ refused e → finish t ≡ denied e
  unfolding finish
  refused_denied t e h = rw h refl

  pub no_edition : (e : ℕ) → take_tested 4 (between 1 1) 2 (drop 0 (bits_of f)) ≡ refused e → parse f ≡ denied e
  unfolding parse take_net
  no_edition e h = refused_denied _ e (then_refused _ h)

  module _ (edition : ℕ) (a : Took f (take_tested 4 (between 1 1) 2 (drop 0 (bits_of f))) edition 4) where
    pub no_reserve : (e : ℕ) → take_tested 12 (between 0 0) 2 (drop 4 (bits_of f)) ≡ refused e → parse f ≡ denied e
    unfolding parse take_net
    no_reserve e h = refused_denied _ e (then_there _ a.taken (then_refused _ h))

    module _ (reserve : ℕ) (b : Took f (take_tested 12 (between 0 0) 2 (drop 4 (bits_of f))) reserve 16) where
      pub no_count : (e : ℕ) → take_tested 8 (between 2 64) 3 (drop 16 (bits_of f)) ≡ refused e → parse f ≡ denied e
      unfolding parse take_net take_counts
      no_count e h = refused_denied _ e (then_there _ a.taken (then_there _ b.taken (then_refused _ h)))

      module _ (n : ℕ) (k : Took f (take_tested 8 (between 2 64) 3 (drop 16 (bits_of f))) n 24) where
        pub no_channels : (e : ℕ) → take_tested 8 (between 1 128) 3 (drop 24 (bits_of f)) ≡ refused e → parse f ≡ denied e
        unfolding parse take_net take_counts
        no_channels e h = refused_denied _ e (then_there _ a.taken (then_there _ b.taken (then_there _ k.taken (then_refused _ h))))

        pub parsed : (c : ℕ) → Took f (take_tested 8 (between 1 128) 3 (drop 24 (bits_of f))) c 32 → parse f ≡ finish (take_blocks n c (drop 32 (bits_of f)))
        unfolding parse take_net take_counts
        parsed c h = ap finish (then_there _ a.taken (then_there _ b.taken (then_there _ k.taken (then_there _ h.taken refl))))
