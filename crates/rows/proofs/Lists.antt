-- The blocks of the kinds, listed one after the other.
-- Assumes nothing.
use Rattle.std.proofs.Common.{◌≡◌, refl, sym, ap, ◌∙◌, Bool, true, false, List, [], ◌∷◌, ◌++◌, ℕ, ◌+◌, ◌≤◌, ◌<◌, arith, eq-eqb, ne_eqb, length, get_or, set, length-append, length-set}
use Rattle.std.proofs.Math.ListN.{get_or-append, replicate, get_or-replicate}
use Rattle.std.proofs.Math.Seq.{get_or-append_seam, get_or-set_same, get_or-set_other}
use native.Mathlib.Decide.{ℕ_discrete, dec_lt}
use Rattle.blocks.specs.Folds.{one, count_below}
use Rattle.blocks.specs.Ports.{m_ok}
use Rattle.blocks.specs.declared.Net.{Net}
use Rattle.blocks.proofs.Folds.{count_none, count_more, clash}
use Rattle.blocks.proofs.Numbers.{no_kind}
use Rattle.passes.specs.Rows.{kind_no, is_kind_no, blocks_in, Listed, Kinds}
use Rattle.passes.specs.declared.Blocks.{Blocks}

-- a block's kind is at most 10
pub kind-small : (k m : ℕ) → m_ok k m ≡ true → k < 11
kind-small k m e = go (dec_lt k 11)
  where
    go : Dec (k < 11) → k < 11
    go (yes h) = h
    go (no h) = clash e (no_kind k m (omega arith))

-- the first b blocks of a net
abbrev pub up_to : Net → ℕ → Net
up_to net b = record { size = b; channels = net.channels; blocks = net.blocks }

pub listed-none : (net : Net) (kind : ℕ) → Listed (up_to net 0) kind []
listed-none net kind = record { count_is = sym (count_none (is_kind_no net kind)); each = λ k h. absurd (never k h) }
  where
    never : (k : ℕ) → k < 0 → ⊥
    never k h = omega arith

module _ (net : Net) (kind b : ℕ) (list : List ℕ) (l : Listed (up_to net b) kind list) where
  abbrev is : ℕ → Bool
  is = is_kind_no net kind

  abbrev Entry : List ℕ → ℕ → Type 0
  Entry xs k = (get_or xs k 0 < b + 1) × (is (get_or xs k 0) ≡ true) × (count_below is (get_or xs k 0) ≡ k)

  kept : (k : ℕ) → k < length list → Entry list k
  kept k h = let a = l.each k h in (omega (arith, a.0), a.1, a.2)

  -- block b is of another kind
  pub listed_skip : is b ≡ false → Listed (up_to net (b + 1)) kind list
  listed_skip f = let z : one (is b) ≡ 0 = ap one f in record { count_is = omega (arith, l.count_is, count_more is b); each = kept }

  -- block b is the next of the kind
  pub listed_next : is b ≡ true → Listed (up_to net (b + 1)) kind (list ++ b ∷ [])
  listed_next t =
      let z : one (is b) ≡ 1 = ap one t in
      record { count_is = omega (arith, length-append list (b ∷ []), l.count_is, count_more is b); each = λ k h. by k h (ℕ_discrete k (length list)) }
    where
      by : (k : ℕ) → k < length (list ++ b ∷ []) → Dec (k ≡ length list) → Entry (list ++ b ∷ []) k
      by k h (yes z) = rw (z, get_or-append_seam list b [] 0) (omega arith, t, sym l.count_is)
      by k h (no z) =
          let low : k < length list = omega (arith, length-append list (b ∷ [])) in
          rw (get_or-append list (b ∷ []) 0 k low) (kept k low)

-- the blocks of a kind among some of the net's, by the lists of all kinds
abbrev pub of_no : List Blocks → ℕ → Blocks
of_no lists kind = get_or lists kind (record { count = 0; blocks = [] })

-- the lists have the first b blocks by kind
pub record Sorting (net : Net) (b : ℕ) (lists : List Blocks) : Type 0 where
  pub long : length lists ≡ 11
  pub few : (kind : ℕ) → kind < 11 → (of_no lists kind).count ≤ b
  pub listed : (kind : ℕ) → kind < 11 → Listed (up_to net b) kind (blocks_in (of_no lists kind))

-- none has a block
pub sorting_none : (net : Net) (none : Blocks) → none.count ≡ 0 → Sorting net 0 (replicate 11 none)
sorting_none net none e =
    record {
      long = refl;
      few = λ kind h. rw (get_or-replicate {A = Blocks} 11 kind none (record { count = 0; blocks = [] }) h) (omega arith);
      listed = λ kind h. rw (get_or-replicate {A = Blocks} 11 kind none (record { count = 0; blocks = [] }) h, e) (listed-none net kind);
    }

-- block b has been put at the end of its kind's list
pub sorting_more : (net : Net) (b : ℕ) (lists : List Blocks) (list : Blocks) → kind_no net b < 11 → Sorting net b lists → list.count ≡ (of_no lists (kind_no net b)).count + 1
    → blocks_in list ≡ blocks_in (of_no lists (kind_no net b)) ++ b ∷ [] → Sorting net (b + 1) (set lists (kind_no net b) list)
sorting_more net b lists list low s count put =
    record { long = length-set lists (kind_no net b) list ∙ s.long; few = λ kind h. (by kind h (ℕ_discrete kind x)).0; listed = λ kind h. (by kind h (ℕ_discrete kind x)).1 }
  where
    x : ℕ
    x = kind_no net b

    by : (kind : ℕ) → kind < 11 → Dec (kind ≡ x)
        → ((of_no (set lists (kind_no net b) list) kind).count ≤ b + 1) × Listed (up_to net (b + 1)) kind (blocks_in (of_no (set lists (kind_no net b) list) kind))
    by kind h (yes z) =
        rw (z, get_or-set_same lists (kind_no net b) list (record { count = 0; blocks = [] }) (omega (arith, s.long)), put)
        (omega (arith, count, s.few (kind_no net b) low), listed_next net (kind_no net b) b _ (s.listed (kind_no net b) low) (eq-eqb (kind_no net b) (kind_no net b) refl))
    by kind h (no z) =
        rw (get_or-set_other lists (kind_no net b) kind list (record { count = 0; blocks = [] }) z)
        (omega (arith, s.few kind h), listed_skip net kind b _ (s.listed kind h) (ne_eqb (kind_no net b) kind (λ e. z (sym e))))

-- all blocks of the net
pub sorting_all : (net : Net) (lists : List Blocks) → net.size ≤ 64 → Sorting net net.size lists → Kinds net (record { by_kind = lists })
sorting_all net lists small s = record { few = λ kind h. omega (arith, s.few kind h); listed = s.listed }
