-- What `gather` answers by its tests: whether the trace is whole records, whether the list has room. And what is known of an answer.
-- Assumes nothing.
use Prim.Native.Nat.{ℕ, ◌%◌, ◌≤◌, zero-le}
use native.Mathlib.Omega.{arith}
use mathlib.Core.Path.{◌≡◌, refl, sym}
use mathlib.Core.Logic.{◌≢◌}
use mathlib.Core.Bool.{Bool, true, false, cond}
use mathlib.Core.List.{List}
use borrow.Author.Tests.{eq-eqb, ne_eqb, leb-true}
use lib.Dec.{eqb, leb}
use lib.ListN.{length, take, drop, length-append, length-drop}
use lib.Seq.{take_at, length-take-le}
use Rattle.compare.specs.declared.Gathered.{Gathered}
use Rattle.compare.specs.Gather.{words_in, gather_refusal, gathered_of, gathered_into, put_front}

module _ (trace : List ℕ) (c : ℕ) (list : List ℕ) where
  abbrev Answers : ℕ → ℕ → List ℕ → Type 0
  Answers refusal count after =
      (◌≡◌ {A = Gathered} (record { refusal = refusal; count = count }) (gathered_of trace c (length list))) × (after ≡ gathered_into trace c list)

  by_refusal : (n : ℕ) → gather_refusal trace c (length list) ≡ n → (n ≡ 0 → ⊥) → Answers n 0 list
  unfolding gathered_of gathered_into
  by_refusal n e h = (rw (e, ne_eqb n 0 h), rw (e, ne_eqb n 0 h))

  pub earns_22 : (length trace % 8 ≡ 0 → ⊥) → Answers 22 0 list
  unfolding gather_refusal
  earns_22 h = by_refusal 22 refusal (λ z. absurd (omega arith))
    where
      refusal : gather_refusal trace c (length list) ≡ 22
      refusal = rw (ne_eqb (length trace % 8) 0 h)

  module _ (whole : length trace % 8 ≡ 0) where
    pub earns-23 : leb (length (words_in trace c)) (length list) ≡ false → Answers 23 0 list
    unfolding gather_refusal
    earns-23 h = by_refusal 23 refusal (λ z. absurd (omega arith))
      where
        refusal : gather_refusal trace c (length list) ≡ 23
        refusal = rw (eq-eqb (length trace % 8) 0 whole, h)

    refusal-none : leb (length (words_in trace c)) (length list) ≡ true → gather_refusal trace c (length list) ≡ 0
    unfolding gather_refusal
    refusal-none h = rw (eq-eqb (length trace % 8) 0 whole, h)

    pub gathers : leb (length (words_in trace c)) (length list) ≡ true → Answers 0 (length (words_in trace c)) (put_front (words_in trace c) list)
    unfolding gathered_of gathered_into
    gathers h = (rw (refusal-none h), rw (refusal-none h))

    -- whole records never earn 22
    pub never-22 : (gathered_of trace c (length list)).refusal ≢ 22
    unfolding gather_refusal gathered_of
    never-22 = rw (eq-eqb (length trace % 8) 0 whole) (by (leb (length (words_in trace c)) (length list)))
      where
        by : (t : Bool) → ◌≢◌ {A = ℕ} (cond t 0 23) 22
        by true e = absurd (omega (arith, e))
        by false e = absurd (omega (arith, e))

  -- where it is not refused, the first entries of the list, as many as it counts, are the channel's words
  pub put_words : (gathered_of trace c (length list)).refusal ≡ 0 → take (gathered_of trace c (length list)).count (gathered_into trace c list) ≡ words_in trace c
  unfolding gathered_of gathered_into
  put_words e =
      rw (eq-eqb (gather_refusal trace c (length list)) 0 e) (take_at (words_in trace c) (drop (length (words_in trace c)) list) (length (words_in trace c)) refl)

-- it counts no more words than there is room for
pub count_fits : (trace : List ℕ) (c room : ℕ) → (gathered_of trace c room).count ≤ room
unfolding gather_refusal gathered_of
count_fits trace c room = by (eqb (length trace % 8) 0) (leb (length (words_in trace c)) room) refl
  where
    by : (whole fits : Bool) → leb (length (words_in trace c)) room ≡ fits → cond (eqb (cond whole (cond fits 0 23) 22) 0) (length (words_in trace c)) 0 ≤ room
    by true true e = leb-true (length (words_in trace c)) room e
    by true false e = zero-le
    by false fits e = zero-le

-- the list keeps its length, so the words that are counted are so many of its entries
pub length_into : (trace : List ℕ) (c : ℕ) (list : List ℕ) → length (gathered_into trace c list) ≡ length list
unfolding gather_refusal gathered_into
length_into trace c list = by (eqb (length trace % 8) 0) (leb (length (words_in trace c)) (length list)) refl
  where
    by : (whole fits : Bool) → leb (length (words_in trace c)) (length list) ≡ fits
        → length (cond (eqb (cond whole (cond fits 0 23) 22) 0) (put_front (words_in trace c) list) list) ≡ length list
    by true true e =
        omega (
          arith,
          leb-true (length (words_in trace c)) (length list) e,
          length-append (words_in trace c) (drop (length (words_in trace c)) list),
          length-drop (length (words_in trace c)) list,
        )
    by true false e = refl
    by false fits e = refl

pub counts : (trace : List ℕ) (c : ℕ) (list : List ℕ) (g : Gathered) (after : List ℕ) → g ≡ gathered_of trace c (length list) → after ≡ gathered_into trace c list
    → (g.count ≤ length after) × (g.count ≡ length (take g.count after))
counts trace c list g after answer filled = (few, sym (length-take-le g.count after few))
  where
    few : g.count ≤ length after
    few = rw (answer, filled, length_into trace c list) (count_fits trace c (length list))
