-- What a run from bytes answers and leaves in the trace, case by case.
use mathlib.Core.Path.{◌≡◌, refl, sym, ap, ap₂, ◌∙◌}
use mathlib.Core.Bool.{Bool, true, false, cond}
use mathlib.Core.List.{List, []}
use Prim.Native.Nat.{ℕ, ◌%◌, ◌≤◌, ◌<◌}
use native.Mathlib.Omega.{arith}
use borrow.Author.Tests.{eq-eqb, ne_eqb}
use lib.Dec.{eqb}
use lib.ListN.{length}
use Rattle.blocks.specs.declared.Net.{Net}
use Rattle.forms.specs.Calls.{Loaded}
use Rattle.stored.specs.declared.Loading.{Loading}
use Rattle.blocks.specs.declared.State.{State}
use Rattle.sim.specs.Calls.{fresh_of}
use Rattle.sim.specs.declared.Fresh.{Fresh}
use Rattle.trace.specs.Numbers.{numbers_of, given}
use Rattle.trace.specs.Records.{trace_of}
use Rattle.trace.proofs.ByteNumbers.{given_bytes}
use Rattle.runs.specs.Runs.{Ran, begun, ran_for, ran_of, run_refusal, answer_of, run_of, written, trace_after}
use Rattle.runs.specs.declared.Run.{Run}
use Rattle.whemdrosk.specs.Exports.{packed_of, start, refusal_over, ran_over, packed_ran, RanForm}
use Rattle.whemdrosk.proofs.Refusals.{small-over, words_14, ends_14, masks-15, whole-refusal}

-- a run without masks writes nothing
unwritten : (net : Net) (s : State) (words ends trace : List ℕ) → trace_after net s words ends [] trace ≡ trace
unfolding trace_after ran_of ran_for trace_of
unwritten net s words ends trace = go (eqb (run_refusal net s words ends []) 0)
  where
    go : (t : Bool) → written (cond t (begun s) (begun s)).records trace ≡ trace
    go true = refl
    go false = refl

-- t and after are what a run from fresh answers over bytes, with no number given as a list
abbrev pub Answers : Net → Fresh → List ℕ → List ℕ → List ℕ → List ℕ → Run → List ℕ → Type 0
Answers net g words ends masks trace t after =
    (t ≡ run_of net g.state (given words []) (given ends []) (given masks []) (length trace))
    × (after ≡ trace_after net g.state (given words []) (given ends []) (given masks []) trace)

over_numbers : (net : Net) (g : Fresh) (words ends masks trace : List ℕ) (t : Run) (after : List ℕ) → g ≡ fresh_of net → Answers net g words ends masks trace t after
    → (t ≡ run_of net (start net) (numbers_of words) (numbers_of ends) (numbers_of masks) (length trace))
    × (after ≡ trace_after net (start net) (numbers_of words) (numbers_of ends) (numbers_of masks) trace)
over_numbers net g words ends masks trace t after f h = rw (f, given_bytes words, given_bytes ends, given_bytes masks) at h

module _ (net : Net) (words ends masks trace : List ℕ) where
  -- r and after are what the run from bytes answers and leaves in the trace
  abbrev Over : ℕ → List ℕ → Type 0
  Over r after =
      (r ≡ packed_ran (refusal_over net words ends masks) (ran_over net words ends masks (length trace)))
      × (after ≡ written (ran_over net words ends masks (length trace)).records trace)

  -- a refused run does nothing
  pub stopped : (r : ℕ) → refusal_over net words ends masks ≡ r → (r ≡ 0 → ⊥) → Over (packed_of r 0 0 0) trace
  unfolding ran_over trace_of
  stopped r e n = rw (e, ne_eqb r 0 n) (refl, refl)

  pub over-words : (length words % 4 ≡ 0 → ⊥) → Over (packed_of 14 0 0 0) trace
  over-words h = stopped 14 (words_14 net words ends masks h) (λ z. omega (arith, z))

  pub over-ends : (length ends % 4 ≡ 0 → ⊥) → Over (packed_of 14 0 0 0) trace
  over-ends h = stopped 14 (ends_14 net words ends masks h) (λ z. omega (arith, z))

  module _ (w : length words % 4 ≡ 0) (e : length ends % 4 ≡ 0) (g : Fresh) (f : g ≡ fresh_of net) (t : Run) (after : List ℕ) where
    -- broken masks, where t answers without masks
    module _ (m : length masks % 4 ≡ 0 → ⊥) (h : Answers net g words ends [] trace t after) where
      tried : (t ≡ run_of net (start net) (numbers_of words) (numbers_of ends) [] (length trace)) × (after ≡ trace)
      unfolding numbers_of
      tried =
          let q = over_numbers net g words ends [] trace t after f h in
          (q.0, q.1 ∙ unwritten net (start net) (numbers_of words) (numbers_of ends) trace)

      earned : refusal_over net words ends masks ≡ cond (eqb t.refusal 0) 15 t.refusal
      unfolding run_of
      earned = masks-15 net words ends masks w e m ∙ ap (λ (q : Run). cond (eqb q.refusal 0) 15 q.refusal) (sym tried.0)

      pub over-before : (t.refusal ≡ 0 → ⊥) → Over (packed_of t.refusal 0 0 0) after
      over-before n =
          let o = stopped t.refusal (earned ∙ ap (λ (x : Bool). cond x 15 t.refusal) (ne_eqb t.refusal 0 n)) n in (o.0, tried.1 ∙ o.1)

      pub over-15 : t.refusal ≡ 0 → Over (packed_of 15 0 0 0) after
      over-15 z =
          let o = stopped 15 (earned ∙ ap (λ (x : Bool). cond x 15 t.refusal) (eq-eqb t.refusal 0 z)) (λ q. omega (arith, q)) in (o.0, tried.1 ∙ o.1)

    -- no broken list, where t answers over the numbers
    module _ (m : length masks % 4 ≡ 0) (h : Answers net g words ends masks trace t after) where
      whole-ran : ran_of net (start net) (numbers_of words) (numbers_of ends) (numbers_of masks) (length trace) ≡ ran_over net words ends masks (length trace)
      unfolding ran_over ran_of
      whole-ran = rw (whole-refusal net words ends masks w e m)

      answer-is : t ≡ answer_of (refusal_over net words ends masks) (ran_over net words ends masks (length trace))
      unfolding run_of
      answer-is = (over_numbers net g words ends masks trace t after f h).0 ∙ ap₂ answer_of (sym (whole-refusal net words ends masks w e m)) whole-ran

      pub fields-small : (t.ending ≤ 1) × (t.cycles < 67108864) × (t.records < 536870912)
      fields-small =
          let s = small-over net words ends masks (length trace) in (
            omega (arith, ap (λ (q : Run). q.ending) answer-is, s.ends),
            omega (arith, ap (λ (q : Run). q.cycles) answer-is, s.few-cycles),
            omega (arith, ap (λ (q : Run). q.records) answer-is, s.few-records),
          )

      pub over-run : Over (packed_of t.refusal t.ending t.cycles t.records) after
      unfolding trace_after
      over-run = (
        ap (λ (q : Run). packed_of q.refusal q.ending q.cycles q.records) answer-is,
        (over_numbers net g words ends masks trace t after f h).1 ∙ ap (λ (p : Ran). written p.records trace) whole-ran,
      )

-- ## The answer for a form

module _ (f words ends masks trace : List ℕ) (r : ℕ) (after : List ℕ) (l : Loading) (right : Loaded f l) where
  -- a refused form keeps its refusal
  pub form-refused : (l.refusal ≡ 0 → ⊥) → r ≡ packed_of l.refusal 0 0 0 → after ≡ trace → RanForm f words ends masks trace r after
  form-refused n p q =
      let no : eqb l.refusal 0 ≡ false = ne_eqb l.refusal 0 n in
      record { loading = l; right = right; answer = rw no p; held = rw no q }

  -- of any other the net runs
  pub form_runs : l.refusal ≡ 0 → r ≡ packed_ran (refusal_over l.net words ends masks) (ran_over l.net words ends masks (length trace))
      → after ≡ written (ran_over l.net words ends masks (length trace)).records trace → RanForm f words ends masks trace r after
  form_runs z p q =
      let yes : eqb l.refusal 0 ≡ true = eq-eqb l.refusal 0 z in
      record { loading = l; right = right; answer = rw yes p; held = rw yes q }
