-- What a run answers (document 01, "Runs and the trace"): `step_of` cycle by cycle, each cycle's records after the last, until all cycles are done or a cycle's records exceed
-- the room.
-- Assumes nothing.
use Rattle.std.specs.Prelude.{ℕ, zero, suc, ◌+◌, ◌*◌, ◌/◌, ◌%◌, cond, List, [], ◌++◌, eqb, ltb, length, get_or, drop, ◌≤◌, ◌≡◌}
use Rattle.blocks.specs.Refusals.{refusal_number}
use Rattle.blocks.specs.declared.Net.{Net}
use Rattle.nets.proofs.Decided.{accepted}
use Rattle.cycles.specs.Step.{refusal_by}
use Rattle.blocks.specs.declared.Refusal.{Refusal}
use Rattle.blocks.specs.declared.State.{State}
use Rattle.cycles.specs.declared.Stepped.{Stepped}
use Rattle.sim.specs.Calls.{step_of}
use Rattle.sim.specs.Laid.{tested_no}
use Rattle.trace.specs.Records.{records_below, trace_of}
use Rattle.runs.specs.declared.Run.{Run}

-- the records of a step's answer, by the count before it
abbrev pub records_in : ℕ → Stepped → List ℕ
records_in count t = records_below count (λ c. eqb (get_or t.delivered c 0) 1) (λ c. get_or t.words c 0) 128

-- a run so far: its state, its ending, the cycles done and the records written
pub record Ran : Type 0 where
  pub state : State
  pub ending : ℕ
  pub cycles : ℕ
  pub records : List ℕ

abbrev pub begun : State → Ran
begun s = record { state = s; ending = 0; cycles = 0; records = [] }

-- one more cycle, whose step is t: it is done, or the run ends 1 before it where its records exceed the room
unfoldable pub onward : ℕ → Ran → Stepped → Ran
onward room p t =
    cond (ltb room (8 * length (p.records ++ records_in p.state.count t))) (record { state = p.state; ending = 1; cycles = p.cycles; records = p.records })
    (record { state = t.state; ending = 0; cycles = p.cycles + 1; records = p.records ++ records_in p.state.count t })

-- the step of cycle k: offer and ready are masks 2 k and 2 k + 1
abbrev pub step_at : Net → List ℕ → List ℕ → List ℕ → State → ℕ → Stepped
step_at net words ends masks s k = step_of net s words ends (get_or masks (2 * k) 0) (get_or masks (2 * k + 1) 0)

-- the run after the first k cycles of the list, or less where it has ended 1
unfoldable pub ran_for : Net → State → List ℕ → List ℕ → List ℕ → ℕ → ℕ → Ran
ran_for net s words ends masks room zero = begun s
ran_for net s words ends masks room (suc k) =
    let p : Ran = ran_for net s words ends masks room k in cond (eqb p.ending 1) p (onward room p (step_at net words ends masks p.state k))

-- refusals in checking order 12, 13, 14, 15, 16
abbrev pub run_refusal : Net → State → List ℕ → List ℕ → List ℕ → ℕ
run_refusal net s words ends masks = refusal_by (accepted net) net s words ends (eqb (length masks % 2) 1) (length masks / 2)

-- a refused run does nothing
unfoldable pub ran_of : Net → State → List ℕ → List ℕ → List ℕ → ℕ → Ran
ran_of net s words ends masks room = cond (eqb (run_refusal net s words ends masks) 0) (ran_for net s words ends masks room (length masks / 2)) (begun s)

abbrev pub answer_of : ℕ → Ran → Run
answer_of refusal p = record { refusal = refusal; ending = p.ending; cycles = p.cycles; records = length p.records; state = p.state }

-- what a run returns
unfoldable pub run_of : Net → State → List ℕ → List ℕ → List ℕ → ℕ → Run
run_of net s words ends masks room = answer_of (run_refusal net s words ends masks) (ran_of net s words ends masks room)

-- what it leaves in a trace buffer: the records at its beginning, the bytes beyond as they were
abbrev pub written : List ℕ → List ℕ → List ℕ
written records trace = trace_of records ++ drop (8 * length records) trace

unfoldable pub trace_after : Net → State → List ℕ → List ℕ → List ℕ → List ℕ → List ℕ
trace_after net s words ends masks trace = written (ran_of net s words ends masks (length trace)).records trace

-- no test fails, and there are masks for n cycles
pub record Counted (net : Net) (s : State) (words ends masks : List ℕ) (n : ℕ) : Type 0 where
  pub earned : run_refusal net s words ends masks ≡ 0
  pub tested : tested_no net s words ends ≡ 0
  pub two_each : length masks ≡ 2 * n
  pub in_range : s.count + n ≤ 1048576

-- a test fails, and this is its refusal
pub record Denied (net : Net) (s : State) (words ends masks : List ℕ) (refusal : Refusal) : Type 0 where
  pub earned : run_refusal net s words ends masks ≡ refusal_number refusal
  pub fails : refusal_number refusal ≡ 0 → ⊥
