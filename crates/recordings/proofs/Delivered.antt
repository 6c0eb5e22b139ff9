-- The records of a step, read back: they fit 64 bits, and on each channel they have the word that the step delivers there.
-- Assumes nothing.
use Prim.Native.Nat.{ℕ, zero, suc, ◌+◌, ◌-◌, ◌^◌, ◌<◌, ◌≤◌}
use native.Mathlib.Omega.{arith}
use mathlib.Core.Path.{◌≡◌, refl, sym, ap, ap₂, subst, ◌∙◌}
use mathlib.Core.Bool.{Bool, true, false, cond}
use mathlib.Core.List.{List, [], ◌∷◌, ◌++◌, append-nil}
use borrow.Author.Tests.{ltb-true, ltb-false, eqb-true, eqb-false}
use lib.Dec.{ltb, eqb}
use lib.ListN.{length, get_or, replicate, length-append, get_or-append, get_or-replicate}
use lib.Seq.{get_or-append-add}
use Rattle.blocks.proofs.Options.{test}
use Rattle.blocks.specs.declared.Net.{Net}
use Rattle.nets.proofs.Decided.{accepted}
use Rattle.cycles.specs.Cycle.{Signals, signals_of, moves}
use Rattle.cycles.specs.State.{regs_of}
use Rattle.blocks.specs.declared.State.{State}
use Rattle.cycles.specs.declared.Stepped.{Stepped}
use Rattle.cycles.proofs.Steps.{step-cases, word_at}
use Rattle.queue.specs.Delivered.{marked}
use Rattle.sim.specs.Calls.{step_of}
use Rattle.trace.specs.Records.{record_of, records_below}
use Rattle.recorded.proofs.Reading.{Fit64, fits, channel_is, word_is}
use Rattle.runs.specs.Runs.{records_in}
use Rattle.compare.specs.Gather.{words_on}
use Rattle.compare.proofs.Words.{words_append, words-yes, words_no, words-none}
use Rattle.recordings.specs.Recordings.{Typed}
use Rattle.recordings.proofs.Low.{LowState, signals-low}

-- ## Lists that fit

pub fit_none : Fit64 []
fit_none i h = absurd (omega (arith, h))

fit_one : (r : ℕ) → r < 2 ^ 64 → Fit64 (r ∷ [])
fit_one r h zero k = h
fit_one r h (suc i) k = absurd (omega (arith, k))

pub fit_append : (a b : List ℕ) → Fit64 a → Fit64 b → Fit64 (a ++ b)
fit_append a b f g i h =
    test (ltb i (length a)) (λ q. let l : i < length a = ltb-true i (length a) q in rw (get_or-append a b 0 i l) (f i l))
    (λ q. beyond i (split (ltb-false i (length a) q)) h)
  where
    split : {i : ℕ} → length a ≤ i → (k : ℕ) × (i ≡ length a + k)
    split {i} l = (i - length a, omega (arith, l))

    beyond : (i : ℕ) → (k : ℕ) × (i ≡ length a + k) → i < length (a ++ b) → get_or (a ++ b) i 0 < 2 ^ 64
    beyond i p h = rw (p.1, get_or-append-add a b p.0 0) (g p.0 (omega (arith, h, p.1, length-append a b)))

-- ## A cycle's records

module _ (count : ℕ) (deliver : ℕ → Bool) (word : ℕ → ℕ) (low : (n : ℕ) → n < 128 → deliver n ≡ true → (count < 2 ^ 25) × (word n < 2 ^ 32)) where
  fit_last : (n : ℕ) → n < 128 → (t : Bool) → deliver n ≡ t → Fit64 (cond t (record_of count n (word n) ∷ []) [])
  fit_last n h true e = fit_one (record_of count n (word n)) (fits count n (word n) (low n h e).0 h (low n h e).1)
  fit_last n h false e = fit_none

  pub fit_below : (n : ℕ) → n ≤ 128 → Fit64 (records_below count deliver word n)
  unfolding records_below
  fit_below zero h = fit_none
  fit_below (suc n) h =
      fit_append (records_below count deliver word n) (cond (deliver n) (record_of count n (word n) ∷ []) []) (fit_below n (omega arith)) (fit_last n (omega arith) (deliver n) refl)

  module _ (c : ℕ) where
    -- the record of another channel, and of this one
    other : (n : ℕ) → n < 128 → (n ≡ c → ⊥) → (t : Bool) → deliver n ≡ t → words_on c (cond t (record_of count n (word n) ∷ []) []) ≡ []
    other n h d true e =
        words_no c (record_of count n (word n)) (λ q. d (sym (channel_is count n (word n) (low n h e).0 h (low n h e).1) ∙ q))
    other n h d false e = words-none c

    same : c < 128 → (t : Bool) → deliver c ≡ t → words_on c (cond t (record_of count c (word c) ∷ []) []) ≡ cond t (word c ∷ []) []
    same h true e =
        words-yes c (record_of count c (word c)) (channel_is count c (word c) (low c h e).0 h (low c h e).1)
        ∙ ap (λ (w : ℕ). w ∷ []) (word_is count c (word c) (low c h e).0 h (low c h e).1)
    same h false e = words-none c

    abbrev last : ℕ → List ℕ
    last n = cond (deliver n) (record_of count n (word n) ∷ []) []

    none_below : (n : ℕ) → n ≤ 128 → n ≤ c → words_on c (records_below count deliver word n) ≡ []
    unfolding records_below
    none_below zero h l = words-none c
    none_below (suc n) h l =
        words_append c (records_below count deliver word n) (last n)
        ∙ ap₂ (λ (a b : List ℕ). a ++ b) (none_below n (omega arith) (omega arith)) (other n (omega arith) (λ e. omega (arith, e, l)) (deliver n) refl)

    abbrev mine : List ℕ
    mine = cond (deliver c) (word c ∷ []) []

    pub word_below : (n : ℕ) → n ≤ 128 → c < n → words_on c (records_below count deliver word n) ≡ cond (deliver c) (word c ∷ []) []
    unfolding records_below
    word_below zero h l = absurd (omega arith)
    word_below (suc n) h l =
        words_append c (records_below count deliver word n) (last n)
        ∙ test (eqb n c)
        (λ q. let e : n ≡ c = eqb-true n c q in
        ap₂ (λ (a b : List ℕ). a ++ b) (none_below n (omega arith) (omega (arith, e))) (ap (λ (k : ℕ). words_on c (last k)) e ∙ same (omega arith) (deliver c) refl))
        (λ q. let d : n ≡ c → ⊥ = eqb-false n c q in
        ap₂ (λ (a b : List ℕ). a ++ b) (word_below n (omega arith) (omega arith)) (other n (omega arith) d (deliver n) refl) ∙ append-nil mine)

-- ## A step's records

module _ (net : Net) (words ends : List ℕ) (typed : Typed net words) (s : State) (low : LowState net words ends typed s) (offer ready : ℕ) where
  abbrev t : Stepped
  t = step_of net s words ends offer ready

  -- what it delivers is low, and the count of a step that delivers is
  abbrev pub Small : Stepped → Type 0
  Small t = (n : ℕ) → n < 128 → eqb (get_or t.delivered n 0) 1 ≡ true → (s.count < 2 ^ 25) × (get_or t.words n 0 < 2 ^ 32)

  pub small : Small t
  unfolding step_of
  small =
      step-cases (accepted net) net s words ends offer ready Small
      (λ z n h e. let q : get_or (replicate 128 0) n 0 ≡ 1 = eqb-true (get_or (replicate 128 0) n 0) 1 e in absurd (omega (arith, q, get_or-replicate {A = ℕ} 128 n 0 0 h)))
      (λ p n h e. (omega (arith, p.room), subst (λ (w : ℕ). w < 2 ^ 32) (sym (word_at net s words ends g n h)) (carried (moves net g n) n)))
    where
      g : Signals
      g = signals_of net words ends offer ready (regs_of s)

      carried : (t : Bool) (n : ℕ) → cond t (g.shows n).word 0 < 2 ^ 32
      carried true n = signals-low net words ends typed s low offer ready n
      carried false n = omega arith

  pub step_fits : Fit64 (records_in s.count t)
  step_fits = fit_below s.count (λ c. eqb (get_or t.delivered c 0) 1) (λ c. get_or t.words c 0) small 128 (omega arith)

  pub step_words : (c : ℕ) → c < 128 → words_on c (records_in s.count t) ≡ marked t c
  step_words c h = word_below s.count (λ c. eqb (get_or t.delivered c 0) 1) (λ c. get_or t.words c 0) small c 128 (omega arith) h
