-- One cycle of a run on lent arrays.
-- Assumes nothing.
use Rattle.std.specs.Prelude.{ℕ, ◌+◌, ◌*◌, ◌≤◌, ◌<◌, ◌≡◌, List, ◌++◌, length, drop}
use Rattle.blocks.specs.States.{reg_in}
use Rattle.blocks.specs.declared.Reg.{Reg}
use Rattle.blocks.specs.declared.State.{State}
use Rattle.trace.specs.Records.{trace_of}

-- the records L exceed the room: nothing changed
pub record NoRoom (L : List ℕ) (state : State) (out : List ℕ) (state' : State) (out' : List ℕ) : Type 0 where
  pub much : length out < 8 * length L
  pub state_same : state' ≡ state
  pub out_same : out' ≡ out

-- the records are written, and the registers are the next ones of the n blocks
pub record Went (n : ℕ) (next : ℕ → Reg) (L : List ℕ) (state : State) (out : List ℕ) (r : ℕ) (state' : State) (out' : List ℕ) : Type 0 where
  pub room : 8 * length L ≤ length out
  pub answer : r ≡ length L
  pub count_more : state'.count ≡ state.count + 1
  pub inside : (b : ℕ) → b < n → reg_in state' b ≡ next b
  pub beyond : (b : ℕ) → n ≤ b → reg_in state' b ≡ reg_in state b
  pub words_long : length state'.words ≡ 64
  pub marks-long : length state'.marks ≡ 64
  pub filled : out' ≡ trace_of L ++ drop (8 * length L) out
