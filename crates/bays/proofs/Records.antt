-- The states of a record, where one of them is set.
-- Assumes nothing.
use Prim.Native.Nat.{ℕ, ◌<◌}
use mathlib.Core.Path.{◌≡◌, ap, ◌∙◌}
use mathlib.Core.Logic.{◌≢◌}
use mathlib.Core.List.{List, []}
use native.Mathlib.Omega.{arith}
use lib.ListN.{get_or, set, length}
use lib.Seq.{get_or-set_same, get_or-set_other}
use Rattle.blocks.specs.declared.State.{State}
use Rattle.bays.specs.Calls.{state_at}
use Rattle.bays.specs.declared.Bays.{Bays}

-- the state of bay k in a list of states
abbrev at : ℕ → List State → State
at k l = get_or l k (record { count = 0; words = []; marks = [] })

-- the states of a record q by those of r: the same ones,
pub states_same : (q r : Bays) → q.states ≡ r.states → (b : ℕ) → state_at q b ≡ state_at r b
states_same q r e b = ap (at b) e

-- or that of bay k is set to s
module _ (q r : Bays) (k : ℕ) (s : State) (e : q.states ≡ set r.states k s) where
  pub state-set : length r.states ≡ 4 → k < 4 → state_at q k ≡ s
  state-set four h = ap (at k) e ∙ get_or-set_same r.states k s _ (omega arith)

  pub state_kept : (j : ℕ) → j ≢ k → state_at q j ≡ state_at r j
  state_kept j n = ap (at j) e ∙ get_or-set_other r.states k j s _ n
