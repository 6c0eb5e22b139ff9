-- The fresh record: four fresh states, whose counts are 0, and a turn within the four bays.
-- Assumes nothing.
use Prim.Native.Nat.{ℕ, ◌<◌}
use mathlib.Core.Path.{◌≡◌, refl}
use mathlib.Core.Bool.{Bool, true, false}
use mathlib.Core.List.{[]}
use native.Mathlib.Omega.{arith}
use lib.ListN.{length, get_or-replicate}
use Rattle.blocks.specs.declared.Net.{Net}
use Rattle.nets.proofs.Decided.{accepted}
use Rattle.cycles.specs.Step.{fresh_by}
use Rattle.sim.specs.Calls.{fresh_of}
use Rattle.bays.specs.Calls.{state_at, fresh_bays}

pub fresh_at : (net : Net) (b : ℕ) → b < 4 → state_at (fresh_bays net).bays b ≡ (fresh_of net).state
unfolding fresh_bays
fresh_at net b h = get_or-replicate 4 b (fresh_of net).state (record { count = 0; words = []; marks = [] }) h

pub fresh_four : (net : Net) → length (fresh_bays net).bays.states ≡ 4
unfolding fresh_bays
fresh_four net = refl

pub fresh_count : (net : Net) → (fresh_of net).state.count ≡ 0
unfolding fresh_of
fresh_count net = by (accepted net)
  where
    by : (t : Bool) → (fresh_by t net).count ≡ 0
    by true = refl
    by false = refl

pub fresh_turn : (net : Net) → (fresh_bays net).bays.turn < 4
unfolding fresh_bays
fresh_turn net = omega arith
