-- A cycle on lent arrays is the step of the state: its records, and its state where there is room.
-- Assumes nothing.
use mathlib.Core.Path.{◌≡◌, refl, sym, ap, ap₂, ◌∙◌}
use mathlib.Core.Bool.{Bool, true, false, cond, ◌&&◌}
use mathlib.Core.List.{List}
use Prim.Native.Nat.{ℕ, ◌≤◌, ◌<◌}
use borrow.Author.Tests.{lt-ltb, le-ltb}
use lib.Dec.{eqb}
use lib.ListN.{get_or}
use Rattle.blocks.specs.Folds.{one}
use Rattle.blocks.specs.States.{reg_in}
use Rattle.blocks.specs.declared.Sig.{Sig}
use Rattle.blocks.specs.declared.Net.{Net}
use Rattle.nets.specs.Verdict.{VerdictIs, Accepted}
use Rattle.nets.proofs.Decided.{accepted, accepted_true}
use Rattle.nets.proofs.Nets.{channels-high}
use Rattle.cycles.specs.Streams.{ends_fit}
use Rattle.cycles.specs.Cycle.{Signals, signals_of, moves}
use Rattle.cycles.specs.State.{regs_of, shape_ok}
use Rattle.cycles.specs.Step.{stepped_by}
use Rattle.blocks.specs.declared.State.{State}
use Rattle.cycles.specs.declared.Stepped.{Stepped}
use Rattle.cycles.proofs.Steps.{mark_at, word_at}
use Rattle.ports.specs.Places.{sig_at, ready_at}
use Rattle.passes.specs.Passed.{next_no}
use Rattle.sim.specs.Calls.{step_of}
use Rattle.rows.specs.Ends.{stream_at, mask_at}
use Rattle.signals.specs.Wires.{Worked}
use Rattle.sim.proofs.Answers.{not-refused}
use Rattle.sim.proofs.Results.{signals_are, after_is}
use Rattle.trace.specs.Records.{records_below, records_of}
use Rattle.trace.proofs.RecordLists.{records_same, records_no}
use Rattle.runs.specs.Runs.{records_in}
use Rattle.advance.specs.Cycled.{Went}
use Rattle.runs.proofs.Induction.{from_on}

-- channels beyond n add no record where nothing moves on them
records-stop : (count : ℕ) (f : ℕ → Bool) (v : ℕ → ℕ) (n m : ℕ) → ((c : ℕ) → n ≤ c → f c ≡ false) → n ≤ m → records_below count f v m ≡ records_below count f v n
records-stop count f v n m h =
    from_on (λ m. records_below count f v m ≡ records_below count f v n) n refl (λ m l e. records_no count f v m (h m l) ∙ e) m

one_says : (t : Bool) → eqb (one t) 1 ≡ t
one_says true = refl
one_says false = refl

module _ (net : Net) (acc : accepted net ≡ true) (words ends : List ℕ) (fit : ends_fit net words ends ≡ true) (s : State) (ok : shape_ok net s ≡ true) (low : s.count < 1048576)
    (offer ready : ℕ) where
  abbrev g : Signals
  g = signals_of net words ends offer ready (regs_of s)

  pub step_is : step_of net s words ends offer ready ≡ stepped_by net s words ends g
  unfolding step_of
  step_is = rw acc (sym (not-refused net s words ends offer ready ok fit low))

  abbrev judged : VerdictIs net Accepted
  judged = accepted_true net acc

  module _ (signals : List Sig) (taken : List Bool) (w : Worked net (stream_at net words ends) (mask_at net offer ready) (reg_in s) (sig_at signals) (ready_at taken)) where
    marked-is : (c : ℕ) → c < 128 → eqb (get_or (stepped_by net s words ends g).delivered c 0) 1 ≡ moves net g c
    marked-is c h = ap (λ (x : ℕ). eqb x 1) (mark_at net s words ends g c h) ∙ one_says (moves net g c)

    -- below the net's channels what moves is valid and taken, beyond nothing moves
    inside : (c : ℕ) → c < net.channels → ((sig_at signals c).valid && ready_at taken c) ≡ moves net g c
    inside c h =
        let q = signals_are net judged s ok words ends fit offer ready signals taken w c h in
        ap₂ ◌&&◌ (ap (λ (z : Sig). z.valid) q.0) q.1 ∙ ap (λ (t : Bool). t && ((g.shows c).valid && g.ready c)) (sym (lt-ltb c net.channels h))

    outside : (c : ℕ) → net.channels ≤ c → moves net g c ≡ false
    outside c h = ap (λ (t : Bool). t && ((g.shows c).valid && g.ready c)) (le-ltb c net.channels h)

    carried : (c : ℕ) → c < net.channels → moves net g c ≡ true → (sig_at signals c).word ≡ cond (moves net g c) (g.shows c).word 0
    carried c h e =
        let q = signals_are net judged s ok words ends fit offer ready signals taken w c h in
        ap (λ (z : Sig). z.word) q.0 ∙ ap (λ (t : Bool). cond t (g.shows c).word 0) (sym e)

    -- the records on the arrays are those of the step
    pub records-are : records_of s.count signals taken net.channels ≡ records_in s.count (step_of net s words ends offer ready)
    records-are =
        records_same s.count (λ c. (sig_at signals c).valid && ready_at taken c) (moves net g) (λ c. (sig_at signals c).word) (λ c. cond (moves net g c) (g.shows c).word 0) net.channels inside
        (λ c h e. carried c h (sym (inside c h) ∙ e))
        ∙ sym (records-stop s.count (moves net g) (λ c. cond (moves net g c) (g.shows c).word 0) net.channels 128 outside (channels-high net judged.0.fields))
        ∙ records_same s.count (moves net g) (λ c. eqb (get_or (stepped_by net s words ends g).delivered c 0) 1) (λ c. cond (moves net g c) (g.shows c).word 0)
        (λ c. get_or (stepped_by net s words ends g).words c 0) 128 (λ c h. sym (marked-is c h)) (λ c h e. sym (word_at net s words ends g c h))
        ∙ sym (ap (records_in s.count) step_is)

    -- where the cycle went, its state is the step's
    pub went-is : (L out : List ℕ) (r : ℕ) (state' : State) (out' : List ℕ)
        → Went net.size (next_no net (stream_at net words ends) (mask_at net offer ready) (reg_in s) (sig_at signals) (ready_at taken)) L s out r state' out'
        → state' ≡ (step_of net s words ends offer ready).state
    went-is L out r state' out' h =
        after_is net judged s ok words ends fit offer ready signals taken w state' h.words_long h.marks-long h.count_more h.inside h.beyond ∙ sym (ap (λ (t : Stepped). t.state) step_is)
