-- A run's records, read back, are what its cycles deliver, and its state is the one that these cycles lead to; so it goes for runs one after another.
-- Assumes nothing.
use Prim.Native.Nat.{ℕ, zero, suc, ◌+◌, ◌*◌, ◌/◌, ◌<◌, ◌≤◌}
use native.Mathlib.Omega.{arith}
use native.Mathlib.Numerals.{add-one}
use mathlib.Core.Path.{◌≡◌, refl, sym, ap, ap₂, subst, ◌∙◌}
use mathlib.Core.Bool.{Bool, true, false, cond}
use mathlib.Core.List.{List, [], ◌∷◌, ◌++◌, append-nil, append_assoc}
use borrow.Author.Tests.{eqb-true, eqb-false, eq-eqb, ne_eqb, le-ltb}
use lib.Dec.{ltb, eqb}
use lib.ListN.{length, get_or, drop, length-append}
use lib.Seq.{take_at}
use Rattle.blocks.proofs.Options.{test}
use Rattle.blocks.specs.declared.Net.{Net}
use Rattle.blocks.specs.declared.State.{State}
use Rattle.cycles.specs.declared.Stepped.{Stepped}
use Rattle.queue.specs.Delivered.{Input, marked, over}
use Rattle.trace.specs.Records.{trace_of}
use Rattle.trace.proofs.RecordLists.{records-few}
use Rattle.trace.proofs.TraceBytes.{length-trace, trace-append}
use Rattle.recorded.proofs.Reading.{Fit64, read_back}
use Rattle.runs.specs.Runs.{Ran, begun, records_in, onward, step_at, ran_for, ran_of, run_refusal, run_of, trace_after}
use Rattle.claims.specs.Promised.{step_in, words_from, state_from}
use Rattle.compare.specs.Gather.{words_on, words_in}
use Rattle.compare.proofs.Words.{words_append, words-none}
use Rattle.recordings.specs.Recordings.{Typed, mask_pairs, Given, ran_by, wrote_by, trace_from, done_from}
use Rattle.recordings.proofs.Low.{LowState, step-low}
use Rattle.recordings.proofs.Delivered.{fit_none, fit_append, step_fits, step_words}

-- ## Lists of steps one after another

module _ (net : Net) where
  pub words_then : (s : State) (a b : List Input) (c : ℕ) → words_from net s (a ++ b) c ≡ words_from net s a c ++ words_from net (state_from net s a) b c
  words_then s [] b c = refl
  words_then s (n ∷ a) b c =
      ap (λ (l : List ℕ). marked (step_in net s n) c ++ l) (words_then (step_in net s n).state a b c)
      ∙ sym (append_assoc (marked (step_in net s n) c) (words_from net (step_in net s n).state a c) (words_from net (state_from net (step_in net s n).state a) b c))

  pub state_then : (s : State) (a b : List Input) → state_from net s (a ++ b) ≡ state_from net (state_from net s a) b
  state_then s [] b = refl
  state_then s (n ∷ a) b = state_then (step_in net s n).state a b

pub over_then : (words ends : List ℕ) (a b : List (ℕ × ℕ)) → over words ends (a ++ b) ≡ over words ends a ++ over words ends b
over_then words ends [] b = refl
over_then words ends (m ∷ a) b = ap (λ (l : List Input). record { words = words; ends = ends; offer = m.0; ready = m.1 } ∷ l) (over_then words ends a b)

-- ## One run

pairs_more : (masks : List ℕ) (n k : ℕ) → n ≡ k → mask_pairs masks (n + 1) ≡ mask_pairs masks n ++ ((get_or masks (2 * k) 0, get_or masks (2 * k + 1) 0) ∷ [])
unfolding mask_pairs
pairs_more masks n k e =
    ap (mask_pairs masks) (add-one n) ∙ ap (λ (j : ℕ). mask_pairs masks n ++ ((get_or masks (2 * j) 0, get_or masks (2 * j + 1) 0) ∷ [])) e

module _ (net : Net) (words ends : List ℕ) (typed : Typed net words) (s : State) where
  -- records R and state q are those of the steps over the masks
  pub record Did (masks : List (ℕ × ℕ)) (R : List ℕ) (q : State) : Type 0 where
    pub state : q ≡ state_from net s (over words ends masks)
    pub delivered : (c : ℕ) → c < 128 → words_on c R ≡ words_from net s (over words ends masks) c
    pub fitting : Fit64 R
    pub low : LowState net words ends typed q

  pub did_none : LowState net words ends typed s → Did [] [] s
  did_none l = record { state = refl; delivered = λ c h. words-none c; fitting = fit_none; low = l }

  -- one cycle more
  did_more : (masks : List (ℕ × ℕ)) (R : List ℕ) (q : State) (offer ready : ℕ) → Did masks R q
      → Did (masks ++ ((offer, ready) ∷ [])) (R ++ records_in q.count (step_in net q (record { words = words; ends = ends; offer = offer; ready = ready })))
      (step_in net q (record { words = words; ends = ends; offer = offer; ready = ready })).state
  did_more masks R q offer ready d =
      record {
        state =
            ap (λ (z : State). (step z).state) d.state ∙ sym (state_then net s (over words ends masks) (n ∷ []))
            ∙ sym (ap (λ (l : List Input). state_from net s l) (over_then words ends masks ((offer, ready) ∷ [])));
        delivered =
            λ c h.
            words_append c R (records_in q.count (step q))
            ∙ ap₂ (λ (a b : List ℕ). a ++ b) (d.delivered c h)
            (step_words net words ends typed q d.low offer ready c h ∙ ap (λ (z : State). marked (step z) c) d.state
            ∙ sym (append-nil (marked (step (state_from net s (over words ends masks))) c)))
            ∙ sym (words_then net s (over words ends masks) (n ∷ []) c)
            ∙ sym (ap (λ (l : List Input). words_from net s l c) (over_then words ends masks ((offer, ready) ∷ [])));
        fitting = fit_append R (records_in q.count (step q)) d.fitting (step_fits net words ends typed q d.low offer ready);
        low = step-low net words ends typed q d.low offer ready;
      }
    where
      n : Input
      n = record { words = words; ends = ends; offer = offer; ready = ready }

      step : State → Stepped
      step z = step_in net z n

  module _ (masks : List ℕ) (room : ℕ) where
    abbrev ran : ℕ → Ran
    ran k = ran_for net s words ends masks room k

    -- a run so far, and that it has done all cycles of the list up to k unless it has ended 1
    record So (k : ℕ) (p : Ran) : Type 0 where
      pub did : Did (mask_pairs masks p.cycles) p.records p.state
      pub done : (p.ending ≡ 1 → ⊥) → p.cycles ≡ k

    so-onward : (k : ℕ) (p : Ran) → (p.ending ≡ 1 → ⊥) → So k p → So (suc k) (onward room p (step_at net words ends masks p.state k))
    unfolding onward
    so-onward k p going h = by (ltb room (8 * length (p.records ++ records_in p.state.count (step_at net words ends masks p.state k))))
      where
        new : List ℕ
        new = records_in p.state.count (step_at net words ends masks p.state k)

        pairs : mask_pairs masks (p.cycles + 1) ≡ mask_pairs masks p.cycles ++ ((get_or masks (2 * k) 0, get_or masks (2 * k + 1) 0) ∷ [])
        pairs = pairs_more masks p.cycles k (h.done going)

        by : (t : Bool) → So (suc k) (cond t (record { state = p.state; ending = 1; cycles = p.cycles; records = p.records })
            (record { state = (step_at net words ends masks p.state k).state; ending = 0; cycles = p.cycles + 1; records = p.records ++ new }))
        by true = record { did = h.did; done = λ n. absurd (n refl) }
        by false =
            record {
              did =
                  subst (λ (ms : List (ℕ × ℕ)). Did ms (p.records ++ new) (step_at net words ends masks p.state k).state) (sym pairs)
                  (did_more (mask_pairs masks p.cycles) p.records p.state (get_or masks (2 * k) 0) (get_or masks (2 * k + 1) 0) h.did);
              done = λ n. add-one p.cycles ∙ ap suc (h.done going);
            }

    so : LowState net words ends typed s → (k : ℕ) → So k (ran k)
    unfolding ran_for mask_pairs
    so l zero = record { did = did_none l; done = λ n. refl }
    so l (suc k) =
        test (eqb (ran k).ending 1) (λ q. rw q (record { did = (so l k).did; done = λ n. absurd (n (eqb-true (ran k).ending 1 q)) }))
        (λ q. rw q (so-onward k (ran k) (eqb-false (ran k).ending 1 q) (so l k)))

    -- what the whole run did; a refused one nothing
    pub did-run : LowState net words ends typed s
        → Did (mask_pairs masks (ran_of net s words ends masks room).cycles) (ran_of net s words ends masks room).records (ran_of net s words ends masks room).state
    unfolding ran_of mask_pairs
    did-run l = by (eqb (run_refusal net s words ends masks) 0)
      where
        by : (t : Bool) → let end = cond t (ran (length masks / 2)) (begun s) in Did (mask_pairs masks end.cycles) end.records end.state
        by true = (so l (length masks / 2)).did
        by false = did_none l

    -- with room for a delivery on every channel in each of k cycles it has not ended 1 by then
    record Roomy (k : ℕ) (p : Ran) : Type 0 where
      pub going : p.ending ≡ 0
      pub few : length p.records ≤ 128 * k

    roomy-onward : (k : ℕ) (p : Ran) (t : Stepped) → 1024 * suc k ≤ room → Roomy k p → Roomy (suc k) (onward room p t)
    unfolding onward
    roomy-onward k p t h q = rw (le-ltb room (8 * length (p.records ++ new)) (omega (arith, long))) (record { going = refl; few = long })
      where
        new : List ℕ
        new = records_in p.state.count t

        long : length (p.records ++ new) ≤ 128 * suc k
        long =
            omega (
              arith,
              q.few,
              length-append p.records new,
              records-few p.state.count (λ c. eqb (get_or t.delivered c 0) 1) (λ c. get_or t.words c 0) 128,
            )

    roomy : (k : ℕ) → 1024 * k ≤ room → Roomy k (ran k)
    unfolding ran_for
    roomy zero h = record { going = refl; few = omega arith }
    roomy (suc k) h =
        let before : Roomy k (ran k) = roomy k (omega arith) in
        rw (ne_eqb (ran k).ending 1 (λ e. omega (arith, e, before.going))) (roomy-onward k (ran k) (step_at net words ends masks (ran k).state k) h before)

    pub done_all : LowState net words ends typed s → run_refusal net s words ends masks ≡ 0 → 1024 * (length masks / 2) ≤ room
        → (ran_of net s words ends masks room).cycles ≡ length masks / 2
    unfolding ran_of
    done_all l e h =
        rw (eq-eqb (run_refusal net s words ends masks) 0 e) ((so l (length masks / 2)).done (λ z. omega (arith, z, (roomy (length masks / 2) h).going)))

-- ## Runs one after another

module _ (net : Net) (words ends : List ℕ) where
  -- the run of one call
  abbrev pub ran_in : State → Given → Ran
  ran_in s g = ran_of net s words ends g.masks (length g.buffer)

  abbrev pub records_by : State → List Given → List ℕ
  records_by s [] = []
  records_by s (g ∷ gs) = (ran_in s g).records ++ records_by (ran_in s g).state gs

  -- the bytes that a run wrote are those of its records
  wrote_is : (s : State) (g : Given) → wrote_by net s words ends g ≡ trace_of (ran_in s g).records
  unfolding run_of trace_after
  wrote_is s g = take_at (trace_of R) (drop (8 * length R) g.buffer) (8 * length R) (length-trace R)
    where
      R : List ℕ
      R = (ran_in s g).records

  state_is : (s : State) (g : Given) → (ran_by net s words ends g).state ≡ (ran_in s g).state
  unfolding run_of
  state_is s g = refl

  cycles_are : (s : State) (g : Given) → (ran_by net s words ends g).cycles ≡ (ran_in s g).cycles
  unfolding run_of
  cycles_are s g = refl

  pub trace_is : (s : State) (gs : List Given) → trace_from net s words ends gs ≡ trace_of (records_by s gs)
  unfolding trace_of
  trace_is s [] = refl
  trace_is s (g ∷ gs) =
      ap₂ (λ (a b : List ℕ). a ++ b) (wrote_is s g) (ap (λ (q : State). trace_from net q words ends gs) (state_is s g) ∙ trace_is (ran_in s g).state gs)
      ∙ sym (trace-append (ran_in s g).records (records_by (ran_in s g).state gs))

  module _ (typed : Typed net words) where
    pub fit-runs : (s : State) → LowState net words ends typed s → (gs : List Given) → Fit64 (records_by s gs)
    fit-runs s l [] = fit_none
    fit-runs s l (g ∷ gs) =
        let d = did-run net words ends typed s g.masks (length g.buffer) l in
        fit_append (ran_in s g).records (records_by (ran_in s g).state gs) d.fitting (fit-runs (ran_in s g).state d.low gs)

    pub words_runs : (s : State) → LowState net words ends typed s → (gs : List Given) (c : ℕ) → c < 128
        → words_on c (records_by s gs) ≡ words_from net s (over words ends (done_from net s words ends gs)) c
    words_runs s l [] c h = words-none c
    words_runs s l (g ∷ gs) c h =
        words_append c (ran_in s g).records (records_by (ran_in s g).state gs)
        ∙ ap₂ (λ (a b : List ℕ). a ++ b) (d.delivered c h)
        (words_runs (ran_in s g).state d.low gs c h ∙ ap (λ (q : State). words_from net q rest c) d.state)
        ∙ sym (words_then net s done rest c)
        ∙ ap (λ (l : List Input). words_from net s l c) (sym (over_then words ends pairs (done_from net (ran_in s g).state words ends gs)))
        ∙ ap₂ (λ (n : ℕ) (q : State). words_from net s (over words ends (mask_pairs g.masks n ++ done_from net q words ends gs)) c) (sym (cycles_are s g)) (sym (state_is s g))
      where
        d : Did net words ends typed s (mask_pairs g.masks (ran_in s g).cycles) (ran_in s g).records (ran_in s g).state
        d = did-run net words ends typed s g.masks (length g.buffer) l

        pairs : List (ℕ × ℕ)
        pairs = mask_pairs g.masks (ran_in s g).cycles

        done : List Input
        done = over words ends pairs

        rest : List Input
        rest = over words ends (done_from net (ran_in s g).state words ends gs)

    -- the words gathered from the bytes
    pub gathered : (s : State) → LowState net words ends typed s → (gs : List Given) (c : ℕ) → c < 128
        → words_in (trace_from net s words ends gs) c ≡ words_from net s (over words ends (done_from net s words ends gs)) c
    gathered s l gs c h =
        ap (λ (t : List ℕ). words_in t c) (trace_is s gs) ∙ ap (words_on c) (read_back (records_by s gs) (fit-runs s l gs)) ∙ words_runs s l gs c h
