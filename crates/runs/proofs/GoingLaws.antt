-- A run on arrays: what holds before each cycle, and that a cycle leads from one such place to the next or ends the run.
-- Assumes nothing.
use mathlib.Core.Path.{◌≡◌, refl, sym, ap, ap₂, subst, ◌∙◌}
use mathlib.Core.Bool.{Bool, true, ◌&&◌}
use mathlib.Core.List.{List, [], ◌++◌, append_assoc}
use Prim.Native.Nat.{ℕ, ◌+◌, ◌-◌, ◌*◌, ◌≤◌, ◌<◌}
use native.Mathlib.Omega.{arith}
use Rattle.std.specs.Prelude.{Option, Some, None, MatchOption}
use borrow.Rule.Slice.PartMut.{mid_of, put_mid}
use lib.ListN.{length, get_or, take, drop, length-append, length-drop, take-append-drop}
use lib.Seq.{take_at, drop_at, drop-drop}
use Rattle.blocks.specs.States.{reg_in}
use Rattle.blocks.specs.declared.Net.{Net}
use Rattle.blocks.specs.declared.Sig.{Sig}
use Rattle.nets.proofs.Decided.{accepted, accepted_true}
use Rattle.nets.proofs.Nets.{channels-high}
use Rattle.cycles.specs.Streams.{ends_fit}
use Rattle.cycles.specs.State.{shape_ok}
use Rattle.blocks.specs.declared.State.{State}
use Rattle.cycles.specs.declared.Stepped.{Stepped}
use Rattle.cycles.proofs.Steps.{shape_kept}
use Rattle.ports.specs.Places.{sig_at, ready_at}
use Rattle.passes.specs.Passed.{next_no}
use Rattle.sim.specs.Calls.{step_of}
use Rattle.rows.specs.Ends.{stream_at, mask_at}
use Rattle.signals.specs.Wires.{Worked}
use Rattle.trace.specs.Records.{trace_of, records_of}
use Rattle.trace.proofs.RecordLists.{records-few}
use Rattle.trace.proofs.TraceBytes.{length-trace, trace-append, tail_lent, tail_written}
use Rattle.runs.specs.declared.Run.{Run}
use Rattle.runs.specs.Runs.{Ran, records_in, answer_of, step_at, ran_for, written}
use Rattle.advance.specs.Cycled.{NoRoom, Went}
use Rattle.runs.proofs.StepLaws.{records-are, went-is}
use Rattle.runs.proofs.RunLaws.{ran-went, ran_ends, ran_stays}

-- after i cycles the arrays have the run's state, and the trace its records
pub record Going (net : Net) (s : State) (words ends masks trace₀ : List ℕ) (i used : ℕ) (state : State) (trace : List ℕ) : Type 0 where
  pub state_is : (ran_for net s words ends masks (length trace₀) i).state ≡ state
  pub going : (ran_for net s words ends masks (length trace₀) i).ending ≡ 0
  pub done : (ran_for net s words ends masks (length trace₀) i).cycles ≡ i
  pub number : length (ran_for net s words ends masks (length trace₀) i).records ≡ used
  pub few : used ≤ 128 * i
  pub room : 8 * used ≤ length trace₀
  pub counted : state.count ≡ s.count + i
  pub shape : shape_ok net state ≡ true
  pub filled : trace ≡ written (ran_for net s words ends masks (length trace₀) i).records trace₀

-- where a cycle's records have no room: the answer, and the trace, are those of the run of n cycles
pub record Ended (net : Net) (s : State) (words ends masks trace₀ : List ℕ) (n i used : ℕ) (state' : State) (trace' : List ℕ) : Type 0 where
  pub answered : (a : Run) → a ≡ record { refusal = 0; ending = 1; cycles = i; records = used; state = state' } → a ≡ answer_of 0 (ran_for net s words ends masks (length trace₀) n)
  pub left : trace' ≡ written (ran_for net s words ends masks (length trace₀) n).records trace₀
  pub long : length trace' ≡ length trace₀

-- what a cycle leaves that answers r: where r is none the run of n cycles has ended before it, otherwise it is done
abbrev pub Turned : Net → State → List ℕ → List ℕ → List ℕ → List ℕ → ℕ → ℕ → ℕ → Option ℕ → State → List ℕ → Type 0
Turned net s words ends masks trace₀ n i used None state' trace' = Ended net s words ends masks trace₀ n i used state' trace'
Turned net s words ends masks trace₀ n i used (Some k) state' trace' = Going net s words ends masks trace₀ (i + 1) (used + k) state' trace'

pub going_begins : (net : Net) (s : State) (words ends masks trace₀ : List ℕ) → shape_ok net s ≡ true → Going net s words ends masks trace₀ 0 0 s trace₀
unfolding ran_for trace_of
going_begins net s words ends masks trace₀ ok =
    record { state_is = refl; going = refl; done = refl; number = refl; few = omega arith; room = omega arith; counted = omega arith; shape = ok; filled = refl }

module _ (net : Net) (s : State) (words ends masks trace₀ : List ℕ) (i used : ℕ) (state : State) (trace : List ℕ) (G : Going net s words ends masks trace₀ i used state trace) where
  abbrev ran_up_to : ℕ → Ran
  ran_up_to k = ran_for net s words ends masks (length trace₀) k

  answer_with : (ending : ℕ) → ◌≡◌ {A = Run} (record { refusal = 0; ending = ending; cycles = i; records = used; state = state })
      (answer_of 0 (record { state = (ran_up_to i).state; ending = ending; cycles = (ran_up_to i).cycles; records = (ran_up_to i).records }))
  answer_with ending = λ j. record { refusal = 0; ending = ending; cycles = sym G.done j; records = sym G.number j; state = sym G.state_is j }

  -- the answer and the trace once all n cycles are done
  pub answer-done : (n : ℕ) → i ≡ n → (a : Run) → a ≡ record { refusal = 0; ending = 0; cycles = i; records = used; state = state } → a ≡ answer_of 0 (ran_up_to n)
  answer-done n all a q =
      q ∙ answer_with 0 ∙ ap (λ (e : ℕ). answer_of 0 (record { state = (ran_up_to i).state; ending = e; cycles = (ran_up_to i).cycles; records = (ran_up_to i).records })) (sym G.going)
      ∙ ap (λ (k : ℕ). answer_of 0 (ran_up_to k)) all

  pub trace-done : (n : ℕ) → i ≡ n → trace ≡ written (ran_up_to n).records trace₀
  trace-done n all = G.filled ∙ ap (λ (k : ℕ). written (ran_up_to k).records trace₀) all

  module _ (n : ℕ) (low : i < n) (stopped : ran_up_to (i + 1) ≡ record { state = (ran_up_to i).state; ending = 1; cycles = (ran_up_to i).cycles; records = (ran_up_to i).records }) where
    to_the_end : ran_up_to n ≡ record { state = (ran_up_to i).state; ending = 1; cycles = (ran_up_to i).cycles; records = (ran_up_to i).records }
    to_the_end = ran_stays net s words ends masks (length trace₀) (i + 1) n (ap (λ (q : Ran). q.ending) stopped) (omega arith) ∙ stopped

    -- the answer where the run ends before cycle i
    answer-stopped : ◌≡◌ {A = Run} (record { refusal = 0; ending = 1; cycles = i; records = used; state = state }) (answer_of 0 (ran_up_to n))
    answer-stopped = answer_with 1 ∙ ap (answer_of 0) (sym to_the_end)

    trace-stopped : trace ≡ written (ran_up_to n).records trace₀
    trace-stopped = G.filled ∙ ap (λ (q : Ran). written q.records trace₀) (sym to_the_end)

-- records R, then L, written over a trace
written_more : (R L trace₀ trace out' : List ℕ) (used : ℕ) → length R ≡ used → 8 * used ≤ length trace₀ → trace ≡ written R trace₀
    → out' ≡ trace_of L ++ drop (8 * length L) (mid_of (8 * used) (length trace - 8 * used) trace)
    → put_mid (8 * used) (length trace - 8 * used) trace out' ≡ written (R ++ L) trace₀
written_more R L trace₀ trace out' used num room e o =
    tail_written (8 * used) (8 * length L) trace (trace_of L) out' o
    ∙ ap₂ (λ (x y : List ℕ). x ++ (trace_of L ++ y)) (ap (take (8 * used)) e ∙ take_at (trace_of R) (drop (8 * length R) trace₀) (8 * used) long) rest
    ∙ sym (append_assoc (trace_of R) (trace_of L) (drop (8 * length (R ++ L)) trace₀))
    ∙ ap (λ (x : List ℕ). x ++ drop (8 * length (R ++ L)) trace₀) (sym (trace-append R L))
  where
    long : length (trace_of R) ≡ 8 * used
    long = length-trace R ∙ ap (λ (k : ℕ). 8 * k) num

    all : 8 * length R + 8 * length L ≡ 8 * length (R ++ L)
    all = omega (arith, length-append R L)

    rest : drop (8 * used + 8 * length L) trace ≡ drop (8 * length (R ++ L)) trace₀
    rest =
        sym (drop-drop (8 * length L) (8 * used) trace)
        ∙ ap (drop (8 * length L)) (ap (drop (8 * used)) e ∙ drop_at (trace_of R) (drop (8 * length R) trace₀) (8 * used) long)
        ∙ drop-drop (8 * length L) (8 * length R) trace₀ ∙ ap (λ (k : ℕ). drop k trace₀) all

-- the length of the part that is lent
lent_long : (a : ℕ) (l : List ℕ) → length (mid_of a (length l - a) l) ≡ length l - a
lent_long a l = ap length (tail_lent a l) ∙ length-drop a l

-- nothing written
lent_back : (a : ℕ) (l out' : List ℕ) → out' ≡ mid_of a (length l - a) l → put_mid a (length l - a) l out' ≡ l
lent_back a l out' e = tail_written a 0 l [] out' e ∙ ap (λ (k : ℕ). take a l ++ drop k l) no_more ∙ take-append-drop a l
  where
    no_more : a + 0 ≡ a
    no_more = omega arith

-- the trace keeps its length
trace-long : (R trace₀ : List ℕ) (used : ℕ) → length R ≡ used → 8 * used ≤ length trace₀ → length (written R trace₀) ≡ length trace₀
trace-long R trace₀ used num room =
    omega (arith, num, room, length-append (trace_of R) (drop (8 * length R) trace₀), length-trace R, length-drop (8 * length R) trace₀)

-- the same of a run that goes on
pub going_long : (net : Net) (s : State) (words ends masks trace₀ : List ℕ) (i used : ℕ) (state : State) (trace : List ℕ) → Going net s words ends masks trace₀ i used state trace
    → length trace ≡ length trace₀
going_long net s words ends masks trace₀ i used state trace G =
    ap length G.filled ∙ trace-long (ran_for net s words ends masks (length trace₀) i).records trace₀ used G.number G.room

module _ (net : Net) (acc : accepted net ≡ true) (s : State) (words ends masks : List ℕ) (fit : ends_fit net words ends ≡ true) (trace₀ : List ℕ) (i used : ℕ) (state : State)
    (trace : List ℕ) (G : Going net s words ends masks trace₀ i used state trace) (low : s.count + i < 1048576) (offer ready : ℕ) (offer-is : offer ≡ get_or masks (2 * i) 0)
    (ready-is : ready ≡ get_or masks (2 * i + 1) 0) (signals : List Sig) (taken : List Bool)
    (w : Worked net (stream_at net words ends) (mask_at net offer ready) (reg_in state) (sig_at signals) (ready_at taken)) where
  abbrev t : Stepped
  t = step_of net state words ends offer ready

  few-cycles : state.count < 1048576
  few-cycles = omega (arith, G.counted)

  abbrev ran : ℕ → Ran
  ran k = ran_for net s words ends masks (length trace₀) k

  abbrev L : List ℕ
  L = records_of state.count signals taken net.channels

  step_at_lem : step_at net words ends masks (ran i).state i ≡ t
  step_at_lem =
      ap (λ (q : State). step_at net words ends masks q i) G.state_is
      ∙ ap₂ (λ (o r : ℕ). step_of net state words ends o r) (sym offer-is) (sym ready-is)

  abbrev new : List ℕ
  new = records_in (ran i).state.count (step_at net words ends masks (ran i).state i)

  new_is : new ≡ L
  new_is =
      ap₂ records_in (ap (λ (q : State). q.count) G.state_is) step_at_lem
      ∙ sym (records-are net acc words ends fit state G.shape few-cycles offer ready signals taken w)

  few_new : length L ≤ 128
  few_new = omega (arith, channels-high net (accepted_true net acc).0.fields, records-few state.count (λ c. (sig_at signals c).valid && ready_at taken c) (λ c. (sig_at signals c).word) net.channels)

  kept : shape_ok net t.state ≡ true
  unfolding step_of
  kept = shape_kept (accepted net) net (accepted_true net acc) state words ends offer ready G.shape

  abbrev same_long : length trace ≡ length trace₀
  same_long = going_long net s words ends masks trace₀ i used state trace G

  abbrev out : List ℕ
  out = mid_of (8 * used) (length trace - 8 * used) trace

  -- the records exceed the room: the run of n cycles ends before this one
  module _ (n : ℕ) (more : i < n) (state' : State) (out' : List ℕ) (full : NoRoom L state out state' out') where
    stopped : ran (i + 1) ≡ record { state = (ran i).state; ending = 1; cycles = (ran i).cycles; records = (ran i).records }
    stopped = ran_ends net s words ends masks (length trace₀) i G.going (omega (arith, full.much, ap length new_is, lent_long (8 * used) trace, same_long, G.number, G.room))

    pub full_answer : (a : Run) → a ≡ record { refusal = 0; ending = 1; cycles = i; records = used; state = state' } → a ≡ answer_of 0 (ran n)
    full_answer a q =
        q ∙ (λ j. record { refusal = 0; ending = 1; cycles = i; records = used; state = full.state_same j })
        ∙ answer-stopped net s words ends masks trace₀ i used state trace G n more stopped

    pub full_trace : put_mid (8 * used) (length trace - 8 * used) trace out' ≡ written (ran n).records trace₀
    full_trace = lent_back (8 * used) trace out' full.out_same ∙ trace-stopped net s words ends masks trace₀ i used state trace G n more stopped

  -- or the cycle goes
  pub going_more : (r : ℕ) (state' : State) (out' : List ℕ)
      → Went net.size (next_no net (stream_at net words ends) (mask_at net offer ready) (reg_in state) (sig_at signals) (ready_at taken)) L state out r state' out'
      → Going net s words ends masks trace₀ (i + 1) (used + r) state' (put_mid (8 * used) (length trace - 8 * used) trace out')
  going_more r state' out' h =
      record {
        state_is = ap (λ (q : Ran). q.state) next ∙ ap (λ (q : Stepped). q.state) step_at_lem ∙ sym went;
        going = ap (λ (q : Ran). q.ending) next;
        done = ap (λ (q : Ran). q.cycles) next ∙ ap (λ (k : ℕ). k + 1) G.done;
        number = ap (λ (q : Ran). length q.records) next ∙ omega (arith, length-append (ran i).records new, ap length new_is, G.number, h.answer);
        few = omega (arith, G.few, few_new, h.answer);
        room = omega (arith, h.room, h.answer, lent_long (8 * used) trace, same_long, G.room);
        counted = omega (arith, h.count_more, G.counted);
        shape = subst (λ (q : State). shape_ok net q ≡ true) (sym went) kept;
        filled =
            written_more (ran i).records L trace₀ trace out' used G.number G.room G.filled h.filled
            ∙ ap (λ (x : List ℕ). written x trace₀) (ap (λ (x : List ℕ). (ran i).records ++ x) (sym new_is) ∙ sym (ap (λ (q : Ran). q.records) next));
      }
    where
      next : ran (i + 1) ≡ record { state = (step_at net words ends masks (ran i).state i).state; ending = 0; cycles = (ran i).cycles + 1; records = (ran i).records ++ new }
      next = ran-went net s words ends masks (length trace₀) i G.going (omega (arith, h.room, ap length new_is, lent_long (8 * used) trace, same_long, G.number, G.room))

      went : state' ≡ t.state
      went = went-is net acc words ends fit state G.shape few-cycles offer ready signals taken w L out r state' out' h

  -- what a cycle leaves: the run of n cycles has ended before it, or it is done
  pub turned : (n : ℕ) → i < n → (r : Option ℕ) (state' : State) (out' : List ℕ)
      → MatchOption r (NoRoom L state out state' out')
      (λ k. Went net.size (next_no net (stream_at net words ends) (mask_at net offer ready) (reg_in state) (sig_at signals) (ready_at taken)) L state out k state' out')
      → Turned net s words ends masks trace₀ n i used r state' (put_mid (8 * used) (length trace - 8 * used) trace out')
  turned n more None state' out' full =
      record {
        answered = full_answer n more state' out' full;
        left = full_trace n more state' out' full;
        long = ap length (lent_back (8 * used) trace out' full.out_same) ∙ same_long;
      }
  turned n more (Some k) state' out' went = going_more k state' out' went
