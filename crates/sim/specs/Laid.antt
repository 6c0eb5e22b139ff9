-- A net laid out for one cycle, with the tests of its state and streams, and a step's answer: what our own functions work out.
-- Assumes nothing.
use Rattle.std.specs.Prelude.{ℕ, ◌≡◌, cond, not, List, length, Result, Ok, Err}
use Rattle.blocks.specs.Refusals.{refusal_number}
use Rattle.blocks.specs.declared.Net.{Net}
use Rattle.blocks.specs.declared.Refusal.{Refusal}
use Rattle.blocks.specs.declared.State.{State}
use Rattle.cycles.specs.Streams.{ends_fit}
use Rattle.cycles.specs.State.{shape_ok}
use Rattle.cycles.specs.Step.{refused_step}
use Rattle.cycles.specs.declared.Stepped.{Stepped}
use Rattle.passes.specs.Rows.{in_kind, Shaped}
use Rattle.rows.specs.Flat.{Ordered}
use Rattle.rows.specs.Ends.{Fitting}
use Rattle.rows.specs.declared.Laid.{Laid}

-- 13 for the state, then 14 for the ends
abbrev pub tested_no : Net → State → List ℕ → List ℕ → ℕ
tested_no net s words ends = cond (not (shape_ok net s)) 13 (cond (not (ends_fit net words ends)) 14 0)

-- what the signals of a cycle are worked out from, where no test fails: the net's blocks that do not rest, along its orders, registers in shape and ends that fit
pub record Given (net : Net) (s : State) (words ends : List ℕ) (laid : Laid) : Type 0 where
  pub same_net : laid.net.now ≡ net
  pub ordered : Ordered laid
  pub tested : tested_no net s words ends ≡ 0
  pub shaped : Shaped laid.net.now s
  pub fitting : Fitting (length (in_kind laid.sorted 0)) (length words) ends

-- a test fails, and this is its refusal
pub record Failing (net : Net) (s : State) (words ends : List ℕ) (refusal : Refusal) : Type 0 where
  pub tested : refusal_number refusal ≡ tested_no net s words ends
  pub fails : tested_no net s words ends ≡ 0 → ⊥

-- the net laid out, or the refusal of what the cycle is given
abbrev pub Prepared : Net → State → List ℕ → List ℕ → Result Laid Refusal → Type 0
Prepared net s words ends (Ok laid) = Given net s words ends laid
Prepared net s words ends (Err refusal) = Failing net s words ends refusal

-- the answer of a step: of a refused one the state handed in, and nothing delivered
abbrev pub answer_in : State → Result Stepped Refusal → Stepped
answer_in s (Ok stepped) = stepped
answer_in s (Err refusal) = refused_step (refusal_number refusal) s
