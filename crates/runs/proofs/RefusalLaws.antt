-- A run's refusals in checking order, and what a run answers by them.
-- Assumes nothing.
use Rattle.std.proofs.Common.{◌≡◌, refl, sym, ap, ◌∙◌, Bool, true, false, cond, List, ℕ, ◌+◌, ◌*◌, ◌/◌, ◌%◌, ◌≤◌, ◌<◌, arith, eqb, eq-eqb, ne_eqb, length}
use borrow.Author.Tests.{lt-ltb, le-ltb}
use Rattle.blocks.specs.declared.Net.{Net}
use Rattle.blocks.specs.declared.State.{State}
use Rattle.nets.proofs.Decided.{accepted}
use Rattle.cycles.specs.Streams.{ends_fit}
use Rattle.cycles.specs.State.{shape_ok}
use Rattle.cycles.specs.Step.{refusal_by}
use Rattle.sim.specs.Laid.{tested_no}
use Rattle.sim.proofs.Answers.{passed}
use Rattle.trace.specs.Records.{trace_of}
use Rattle.runs.specs.declared.Run.{Run}
use Rattle.runs.specs.Runs.{Ran, begun, ran_for, ran_of, run_refusal, answer_of, run_of, written, trace_after}

module _ (net : Net) (s : State) (words ends masks trace : List ℕ) where
  abbrev Answers : ℕ → Ran → List ℕ → Type 0
  Answers refusal p after =
      (answer_of refusal p ≡ run_of net s words ends masks (length trace)) × (after ≡ trace_after net s words ends masks trace)

  ran_is : (t : Bool) → eqb (run_refusal net s words ends masks) 0 ≡ t
      → ran_of net s words ends masks (length trace) ≡ cond t (ran_for net s words ends masks (length trace) (length masks / 2)) (begun s)
  unfolding ran_of
  ran_is t e = ap (λ (t : Bool). cond t (ran_for net s words ends masks (length trace) (length masks / 2)) (begun s)) e

  pub run-refused : (r : ℕ) → run_refusal net s words ends masks ≡ r → (r ≡ 0 → ⊥) → Answers r (begun s) trace
  unfolding run_of trace_after trace_of
  run-refused r e n =
      let p = ran_is false (ap (λ (x : ℕ). eqb x 0) e ∙ ne_eqb r 0 n) in
      (ap (λ (x : ℕ). answer_of x (begun s)) (sym e) ∙ ap (answer_of (run_refusal net s words ends masks)) (sym p), ap (λ (q : Ran). written q.records trace) (sym p))

  run-works : run_refusal net s words ends masks ≡ 0
      → Answers 0 (ran_for net s words ends masks (length trace) (length masks / 2)) (written (ran_for net s words ends masks (length trace) (length masks / 2)).records trace)
  unfolding run_of trace_after
  run-works e =
      let all : Ran = ran_for net s words ends masks (length trace) (length masks / 2) in
      let p = ran_is true (ap (λ (x : ℕ). eqb x 0) e) in
      (ap (λ (x : ℕ). answer_of x all) (sym e) ∙ ap (answer_of (run_refusal net s words ends masks)) (sym p), ap (λ (q : Ran). written q.records trace) (sym p))

  -- the same of an answer a and of the trace left, of a run of n cycles
  pub works_by : run_refusal net s words ends masks ≡ 0 → (n : ℕ) → length masks ≡ 2 * n → (a : Run) (after : List ℕ)
      → a ≡ answer_of 0 (ran_for net s words ends masks (length trace) n) → after ≡ written (ran_for net s words ends masks (length trace) n).records trace
      → (a ≡ run_of net s words ends masks (length trace)) × (after ≡ trace_after net s words ends masks trace)
  works_by e n m a after q t =
      let works = run-works e in
      let half : n ≡ length masks / 2 = omega (arith, m) in (
        q ∙ ap (λ (k : ℕ). answer_of 0 (ran_for net s words ends masks (length trace) k)) half ∙ works.0,
        t ∙ ap (λ (k : ℕ). written (ran_for net s words ends masks (length trace) k).records trace) half ∙ works.1,
      )

  pub earns_12 : accepted net ≡ false → run_refusal net s words ends masks ≡ 12
  unfolding refusal_by
  earns_12 e = rw e

  module _ (acc : accepted net ≡ true) where
    -- 13 or 14, as the tests of the state and of the ends say
    pub earns-tested : (r : ℕ) → r ≡ tested_no net s words ends → (tested_no net s words ends ≡ 0 → ⊥) → run_refusal net s words ends masks ≡ r
    unfolding refusal_by
    earns-tested r e n = by (shape_ok net s) (ends_fit net words ends) refl refl
      where
        by : (a b : Bool) → shape_ok net s ≡ a → ends_fit net words ends ≡ b → run_refusal net s words ends masks ≡ r
        by true true p q = absurd (n (rw (p, q)))
        by true false p q = rw (acc, e, p, q)
        by false b p q = rw (acc, e, p)

    module _ (tested : tested_no net s words ends ≡ 0) where
      shape : shape_ok net s ≡ true
      shape = (passed net s words ends tested).0

      fit : ends_fit net words ends ≡ true
      fit = (passed net s words ends tested).1

      pub earns-15 : length masks % 2 ≡ 1 → run_refusal net s words ends masks ≡ 15
      unfolding refusal_by
      earns-15 e = rw (acc, shape, fit, eq-eqb (length masks % 2) 1 e)

      module _ (even : length masks % 2 ≡ 1 → ⊥) where
        pub earns-16 : 1048576 < s.count + length masks / 2 → run_refusal net s words ends masks ≡ 16
        unfolding refusal_by
        earns-16 l = rw (acc, shape, fit, ne_eqb (length masks % 2) 1 even, lt-ltb 1048576 (s.count + length masks / 2) l)

        pub earns-none : s.count + length masks / 2 ≤ 1048576 → run_refusal net s words ends masks ≡ 0
        unfolding refusal_by
        earns-none l = rw (acc, shape, fit, ne_eqb (length masks % 2) 1 even, le-ltb 1048576 (s.count + length masks / 2) l)
