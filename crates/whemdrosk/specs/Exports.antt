-- What the two exports answer and leave in the trace, read from bytes (document 01, "Runs and the trace": "The editor is written in C and calls two exports").
-- Assumes nothing.
use Rattle.std.specs.Prelude.{ℕ, ◌+◌, ◌*◌, ◌/◌, ◌%◌, ◌≡◌, Bool, cond, not, ◌||◌, List, eqb, length}
use Rattle.blocks.specs.declared.Net.{Net}
use Rattle.nets.proofs.Decided.{accepted}
use Rattle.forms.specs.Calls.{Loaded}
use Rattle.stored.specs.declared.Loading.{Loading}
use Rattle.cycles.specs.Step.{refusal_by}
use Rattle.blocks.specs.declared.State.{State}
use Rattle.sim.specs.Calls.{fresh_of}
use Rattle.trace.specs.Numbers.{numbers_of}
use Rattle.runs.specs.Runs.{Ran, begun, ran_for, written}

-- r is the answer of the check for the form f: the refusal of `load`, or 0
pub record Checked (f : List ℕ) (r : ℕ) : Type 0 where
  pub loading : Loading
  pub right : Loaded f loading
  pub answer : r ≡ loading.refusal

-- from the most significant bit: refusal 8 bits, ending 1, cycles 26, records 29
abbrev pub packed_of : ℕ → ℕ → ℕ → ℕ → ℕ
packed_of refusal ending cycles records = ((refusal * 2 + ending) * 67108864 + cycles) * 536870912 + records

-- a length that is no multiple of 4
abbrev pub broken : List ℕ → Bool
broken bytes = not (eqb (length bytes % 4) 0)

abbrev pub start : Net → State
start net = (fresh_of net).state

-- a broken list of words or ends earns 14; then the refusals of a run from fresh in their order, where a broken list of masks earns 15 as an odd one does
unfoldable pub refusal_over : Net → List ℕ → List ℕ → List ℕ → ℕ
refusal_over net words ends masks =
    cond (broken words || broken ends) 14
    (refusal_by (accepted net) net (start net) (numbers_of words) (numbers_of ends) (broken masks || eqb (length (numbers_of masks) % 2) 1) (length (numbers_of masks) / 2))

-- a refused run does nothing
unfoldable pub ran_over : Net → List ℕ → List ℕ → List ℕ → ℕ → Ran
ran_over net words ends masks room =
    cond (eqb (refusal_over net words ends masks) 0) (ran_for net (start net) (numbers_of words) (numbers_of ends) (numbers_of masks) room (length (numbers_of masks) / 2)) (begun (start net))

abbrev pub packed_ran : ℕ → Ran → ℕ
packed_ran refusal p = packed_of refusal p.ending p.cycles (length p.records)

-- r is the answer of the run of the form f over words, ends, masks and a trace that held `trace`, and after is what the trace then holds
pub record RanForm (f words ends masks trace : List ℕ) (r : ℕ) (after : List ℕ) : Type 0 where
  pub loading : Loading
  pub right : Loaded f loading
  pub answer :
      r ≡ cond (eqb loading.refusal 0) (packed_ran (refusal_over loading.net words ends masks) (ran_over loading.net words ends masks (length trace)))
      (packed_of loading.refusal 0 0 0)
  pub held : after ≡ cond (eqb loading.refusal 0) (written (ran_over loading.net words ends masks (length trace)).records trace) trace
