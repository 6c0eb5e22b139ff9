-- The laws of a table of the channels' ends: how an entry goes on from one place to the next, and along the ports of a block.
-- Assumes nothing.
use mathlib.Core.Path.{◌≡◌, refl, sym, ◌∙◌, subst}
use mathlib.Core.Bool.{Bool, true, false}
use mathlib.Core.List.{List}
use mathlib.Core.Logic.{◌⊎◌, inl, inr}
use Prim.Native.Nat.{ℕ, zero, suc, ◌+◌, ◌*◌, ◌-◌, ◌/◌, ◌%◌, ◌≤◌, ◌<◌}
use native.Mathlib.Decide.{ℕ_discrete}
use native.Mathlib.Omega.{arith}
use lib.Dec.{eqb, leb, ltb}
use Rattle.std.proofs.Common.{take, ◌↔◌, ◌≢◌, length-take-le}
use Rattle.std.proofs.lemmas.List.{get_or-take}
use Rattle.std.specs.Prelude.{IsTrue}
use lib.ListN.{length, get_or, set, replicate, get_or-replicate, length-set}
use lib.Seq.{get_or-set_same, get_or-set_other}
use borrow.Author.Tests.{eq-eqb, ne_eqb, eqb-true, eqb-false, not-true, not-false, lt-ltb, le-ltb, le-leb, lt-leb}
use Rattle.blocks.specs.Folds.{all_below, count_below}
use Rattle.blocks.proofs.Folds.{which, clash, all_at, fails_at, and_both, and_false_1, and_false_2, count_none, count_yes, count_no, count_step}
use Rattle.nets.specs.Block.{ins, outs, on_side}
use Rattle.nets.specs.Net.{block_at, names_at, fields_ok}
use Rattle.nets.specs.Ends.{first_on, last_on, Entry, vacant, held, Entries, Double, Filled, held_at}
use Rattle.blocks.specs.declared.Block.{Block}
use Rattle.blocks.specs.declared.Net.{Net}
use Rattle.nets.proofs.Blocks.{ports_ten, used_small}
use Rattle.nets.proofs.Nets.{size-high, channels-high, block_in}

-- ## The ports on a side

off-side : (side : Bool) (b : Block) (k : ℕ) → (k < first_on b side) ⊎ (last_on b side ≤ k) → on_side side b k ≡ false
unfolding on_side
off-side true b k (inl h) = and_false_1 (leb (ins b) k) (ltb k (ins b + outs b)) (lt-leb (ins b) k h)
off-side true b k (inr h) = and_false_2 (leb (ins b) k) (ltb k (ins b + outs b)) (le-ltb k (ins b + outs b) h)
off-side false b k (inl h) = absurd (omega arith)
off-side false b k (inr h) = le-ltb k (ins b) h

on-side : (side : Bool) (b : Block) (k : ℕ) → first_on b side ≤ k → k < last_on b side → on_side side b k ≡ true
unfolding on_side
on-side true b k l h = and_both (leb (ins b) k) (ltb k (ins b + outs b)) (le-leb (ins b) k l) (lt-ltb k (ins b + outs b) h)
on-side false b k l h = lt-ltb k (ins b) h

pub side-range : (side : Bool) (b : Block) → (first_on b side ≤ last_on b side) × (last_on b side ≤ ins b + outs b)
side-range true b = (omega arith, omega arith)
side-range false b = (omega arith, omega arith)

-- ## One entry

module _ (net : Net) (side : Bool) where
  -- port j of block i, and the ports of block i on the side
  abbrev pub port : ℕ → ℕ → ℕ
  port i j = get_or (block_at net i).ports j 0

  abbrev pub first : ℕ → ℕ
  first i = first_on (block_at net i) side

  abbrev pub last : ℕ → ℕ
  last i = last_on (block_at net i) side

  entry_skip : (c q v : ℕ) → names_at net side c q ≡ false → Entry net side c q v → Entry net side c (q + 1) v
  entry_skip c q v n (vacant e z) = vacant e (count_no (names_at net side c) q n ∙ z)
  entry_skip c q v n (held p h t e o) = held p (omega arith) t e (count_no (names_at net side c) q n ∙ o)

  entry_new : (c q v : ℕ) → q ≤ 640 → names_at net side c q ≡ true → v ≡ 255 → Entry net side c q v → Entry net side c (q + 1) (q / 10)
  entry_new c q v b n u (vacant e z) = held q (omega arith) n refl (omega (arith, count_yes (names_at net side c) q n))
  entry_new c q v b n u (held p h t e o) = absurd (never e)
    where
      never : v ≡ p / 10 → ⊥
      never e = omega arith

  entry_clash : (c q n v : ℕ) → q < n → names_at net side c q ≡ true → (v ≡ 255 → ⊥) → Entry net side c q v → 2 ≤ count_below (names_at net side c) n
  entry_clash c q n v b t u (vacant e z) = absurd (u e)
  entry_clash c q n v b t u (held p h s e o) = omega (arith, count_step (names_at net side c) n q b t)

  -- ## The whole table

  pub entries_start : Entries net side (replicate 128 255) 0
  entries_start c h = vacant (get_or-replicate 128 c 255 0 h) (count_none (names_at net side c))

  -- place i * 10 + j is port j of block i
  module _ (i j : ℕ) (ten : j < 10) where
    block-is : (i * 10 + j) / 10 ≡ i
    block-is = omega arith

    port_is : (i * 10 + j) % 10 ≡ j
    port_is = omega arith

    off-names : (c : ℕ) → on_side side (block_at net i) j ≡ false → names_at net side c (i * 10 + j) ≡ false
    off-names c s = rw (block-is, port_is) (and_false_1 (on_side side (block_at net i) j) (eqb (port i j) c) s)

    other-names : (c : ℕ) → (c ≡ port i j → ⊥) → names_at net side c (i * 10 + j) ≡ false
    other-names c n =
        rw (block-is, port_is) (and_false_2 (on_side side (block_at net i) j) (eqb (port i j) c) (ne_eqb (port i j) c (λ r. n (sym r))))

    on-names : on_side side (block_at net i) j ≡ true → names_at net side (port i j) (i * 10 + j) ≡ true
    on-names s =
        rw (block-is, port_is) (and_both (on_side side (block_at net i) j) (eqb (port i j) (port i j)) s (eq-eqb (port i j) (port i j) refl))

    entries-skip : (table : List ℕ) → on_side side (block_at net i) j ≡ false → Entries net side table (i * 10 + j) → Entries net side table (i * 10 + j + 1)
    entries-skip table s es c h = entry_skip c (i * 10 + j) (get_or table c 0) (off-names c s) (es c h)

    -- a port on the side, whose channel has no block yet
    module _ (table : List ℕ) (s : on_side side (block_at net i) j ≡ true) (small : port i j < 128) (es : Entries net side table (i * 10 + j)) where
      entries-new : i < 64 → length table ≡ 128 → get_or table (port i j) 0 ≡ 255 → Entries net side (set table (port i j) i) (i * 10 + j + 1)
      entries-new b long free c h = go (ℕ_discrete c (port i j))
        where
          go : Dec (c ≡ port i j) → Entry net side c (i * 10 + j + 1) (get_or (set table (port i j) i) c 0)
          go (yes e) =
              rw (e, get_or-set_same table (port i j) i 0 (omega arith))
              (subst (λ (v : ℕ). Entry net side (port i j) (i * 10 + j + 1) v) block-is
              (entry_new (port i j) (i * 10 + j) (get_or table (port i j) 0) (omega arith) (on-names s) free (es (port i j) small)))
          go (no e) =
              rw (get_or-set_other table (port i j) c i 0 e) (entry_skip c (i * 10 + j) (get_or table c 0) (other-names c e) (es c h))

      -- or has one already
      entries-clash : (n : ℕ) → i * 10 + j < n → (get_or table (port i j) 0 ≡ 255 → ⊥) → Double net side n
      entries-clash n b full =
          (port i j, entry_clash (port i j) (i * 10 + j) n (get_or table (port i j) 0) b (on-names s) full (es (port i j) small))

  -- the ports of block i from port j on, n of them, are not on the side
  entries_skips : (table : List ℕ) (i j n : ℕ) → j + n ≤ 10 → ((k : ℕ) → j ≤ k → k < j + n → on_side side (block_at net i) k ≡ false)
      → Entries net side table (i * 10 + j) → Entries net side table (i * 10 + (j + n))
  entries_skips table i j zero h off es = subst (λ (q : ℕ). Entries net side table q) (omega arith) es
  entries_skips table i j (suc n) h off es =
      subst (λ (q : ℕ). Entries net side table q) (omega arith)
      (entries-skip i (j + n) (omega arith) table (off (j + n) (omega arith) (omega arith)) (entries_skips table i j n (omega arith) (λ k a b. off k a (omega arith)) es))

  module _ (i : ℕ) where
    before_side : (k : ℕ) → k < first i → on_side side (block_at net i) k ≡ false
    before_side k h = off-side side (block_at net i) k (inl h)

    after-side : (k : ℕ) → last i ≤ k → on_side side (block_at net i) k ≡ false
    after-side k h = off-side side (block_at net i) k (inr h)

    -- the ports before the side's first
    entries-first : (table : List ℕ) → first i ≤ 10 → Entries net side table (i * 10) → Entries net side table (i * 10 + first i)
    entries-first table h es =
        subst (λ (q : ℕ). Entries net side table q) (omega arith)
        (entries_skips table i 0 (first i) (omega arith) (λ k a b. before_side k (omega arith)) (subst (λ (q : ℕ). Entries net side table q) (omega arith) es))

    -- the ports beyond its last
    entries-last : (table : List ℕ) (j : ℕ) → last i ≤ j → j ≤ 10 → Entries net side table (i * 10 + j) → Entries net side table (i * 10 + 10)
    entries-last table j h t es =
        subst (λ (q : ℕ). Entries net side table q) (omega arith)
        (entries_skips table i j (10 - j) (omega arith) (λ k a b. after-side k (omega arith)) es)

  -- ## One block

  -- the ports of block i before port j are entered
  pub record Filling (table : List ℕ) (i j : ℕ) : Type 0 where
    pub low : first i ≤ j
    pub high : j ≤ last i
    pub long : length table ≡ 128
    pub entered : Entries net side table (i * 10 + j)

  module _ (i : ℕ) (ok : fields_ok net ≡ true) (b : i < net.size) where
    few : last i ≤ 10
    few = omega (arith, (side-range side (block_at net i)).1, ports_ten (block_at net i))

    -- a port on the side is one of the block's
    pub side-port : (j : ℕ) → j < last i → (j < 10) × (port i j < 128)
    side-port j h = (
      omega (arith, few),
      omega (arith, used_small (block_at net i) net.channels (block_in net ok i b) j (omega (arith, (side-range side (block_at net i)).1)), channels-high net ok),
    )

    pub filling-start : (table : List ℕ) (j : ℕ) → j ≡ first i → length table ≡ 128 → Entries net side table (i * 10) → Filling table i j
    filling-start table j e long es =
        rw e
        (record {
          low = omega arith;
          high = (side-range side (block_at net i)).0;
          long = long;
          entered = entries-first i table (omega (arith, (side-range side (block_at net i)).0, few)) es;
        })

    pub filling_step : (table : List ℕ) (j : ℕ) → j < last i → get_or table (port i j) 0 ≡ 255 → Filling table i j → Filling (set table (port i j) i) i (j + 1)
    filling_step table j h free f =
        record {
          low = omega (arith, f.low);
          high = omega arith;
          long = length-set table (port i j) i ∙ f.long;
          entered = subst (λ (q : ℕ). Entries net side (set table (port i j) i) q) (omega arith)
              (entries-new i j (side-port j h).0 table (on-side side (block_at net i) j f.low h) (side-port j h).1 f.entered (omega (arith, size-high net ok)) f.long free);
        }

    pub filling-clash : (table : List ℕ) (j : ℕ) → j < last i → (get_or table (port i j) 0 ≡ 255 → ⊥) → Filling table i j → Filled net side i false table
    filling-clash table j h full f =
        record {
          whole = λ t. clash t refl;
          double = λ g.
              entries-clash i j (side-port j h).0 table (on-side side (block_at net i) j f.low h) (side-port j h).1 f.entered (i * 10 + 10)
              (omega (arith, (side-port j h).0)) full;
        }

    pub filling-end : (table : List ℕ) (j : ℕ) → last i ≤ j → Filling table i j → Filled net side i true table
    filling-end table j h f =
        record {
          whole = λ t. entries-last i table j h (omega (arith, f.high, few)) f.entered;
          double = λ g. clash refl g;
        }

-- ## The whole table

-- the table has a block for every channel below the count, where none of its first entries is 255
pub all-held : (table : List ℕ) (n : ℕ) → n ≤ length table → (r : Bool)
    → IsTrue r ↔ ((k : ℕ) → k < length (take n table) → get_or (take n table) k 0 ≢ 255) → r ≡ all_below (held_at table) n
all-held table n h r e = go (which (all_below (held_at table) n)) (which r)
  where
    long : length (take n table) ≡ n
    long = length-take-le n table h

    go : (all_below (held_at table) n ≡ true) ⊎ (all_below (held_at table) n ≡ false) → (r ≡ true) ⊎ (r ≡ false) → r ≡ all_below (held_at table) n
    go (inl a) (inl t) = t ∙ sym a
    go (inr a) (inr f) = f ∙ sym a
    go (inl a) (inr f) =
        clash (e.1 (λ k q. rw (get_or-take n table k 0 (omega (arith, long))) (eqb-false (get_or table k 0) 255 (not-true (eqb (get_or table k 0) 255) (all_at (held_at table) n a k (omega (arith, long))))))) f
    go (inr a) (inl t) =
        let x : (i : ℕ) × (i < n) × (held_at table i ≡ false) = fails_at (held_at table) n a in
        absurd (e.0 t x.0 (omega (arith, long, x.1)) (get_or-take n table x.0 0 x.1 ∙ eqb-true (get_or table x.0 0) 255 (not-false (eqb (get_or table x.0 0) 255) x.2)))
