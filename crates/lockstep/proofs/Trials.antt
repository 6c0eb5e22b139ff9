-- Placements worked out: of the net of document 01's program netrun, and of a net that is refused for a loop and whose placements load.
-- Assumes nothing.
use Prim.Native.Nat.{ℕ, ◌<◌}
use mathlib.Core.Path.{◌≡◌, refl}
use mathlib.Core.Bool.{true}
use mathlib.Core.List.{List, [], ◌∷◌}
use lib.ListN.{replicate}
use Rattle.blocks.specs.Folds.{all_below, count_below}
use Rattle.blocks.specs.Ports.{ports_of}
use Rattle.nets.specs.Block.{ins, outs, on_side, ports_ok, block_ok}
use Rattle.nets.specs.Net.{block_zero, fields_ok, kind_count, port_count, connected, place_of}
use Rattle.nets.specs.Verdict.{VerdictIs}
use Rattle.nets.specs.Verdict.{Accepted}
use Rattle.nets.proofs.Accepting.{rises, acceptable, accepted_test}
use Rattle.nets.proofs.Trials.{block, line, trial, data_buffer_on_itself}
use Rattle.cycles.specs.State.{tab}
use Rattle.queue.specs.Delivered.{delivered}
use Rattle.queue.specs.Claims.{MergeFree, Comparable}
use Rattle.queue.proofs.Trial.{free_test}
use Rattle.placed.specs.Placed.{placed}
use Rattle.lockstep.proofs.Theorems.{placements_comparable}

-- ## A source, a data buffer, add 5 and a sink in a row

-- nothing placed
pub none-placed : placed line (0 ∷ 0 ∷ 0 ∷ []) ≡ line
none-placed = refl

-- a control buffer on channel 2
pub one_placed : placed line (0 ∷ 0 ∷ 2 ∷ [])
    ≡ record {
      size = 5;
      channels = 4;
      blocks =
          block 0 0 0 ∷ block 8 0 1 ∷ record { kind = 3; m = 0; value = 5; ports = 1 ∷ 2 ∷ 0 ∷ 0 ∷ 0 ∷ 0 ∷ 0 ∷ 0 ∷ 0 ∷ 0 ∷ [] } ∷ block 1 3 0
          ∷ block 10 2 3 ∷ replicate 59 (block 0 0 0);
    }
unfolding tab on_side ins ports_of
one_placed = refl

pub one_accepted : VerdictIs (placed line (0 ∷ 0 ∷ 2 ∷ [])) Accepted
unfolding acceptable rises place_of fields_ok connected kind_count port_count all_below count_below block_ok block_zero ports_ok ports_of ins outs on_side tab
one_accepted = accepted_test (placed line (0 ∷ 0 ∷ 2 ∷ [])) (0 ∷ 1 ∷ 2 ∷ 4 ∷ 3 ∷ []) (0 ∷ 1 ∷ 2 ∷ 4 ∷ 3 ∷ []) refl

-- data then control on channel 0, a data buffer on channel 1 and a control buffer on channel 2
pub all_placed : placed line (3 ∷ 1 ∷ 2 ∷ [])
    ≡ record {
      size = 8;
      channels = 7;
      blocks =
          block 0 0 0 ∷ block 8 4 1 ∷ record { kind = 3; m = 0; value = 5; ports = 5 ∷ 2 ∷ 0 ∷ 0 ∷ 0 ∷ 0 ∷ 0 ∷ 0 ∷ 0 ∷ 0 ∷ [] } ∷ block 1 6 0
          ∷ block 8 0 3 ∷ block 10 3 4 ∷ block 8 1 5 ∷ block 10 2 6 ∷ replicate 56 (block 0 0 0);
    }
unfolding tab on_side ins ports_of
all_placed = refl

-- ## A base net with a loop: a data buffer joined to itself is refused with 11, and a control buffer behind it mends that

pub mended : VerdictIs (placed (trial 8) (0 ∷ 2 ∷ [])) Accepted
unfolding acceptable rises place_of fields_ok connected kind_count port_count all_below count_below block_ok block_zero ports_ok ports_of ins outs on_side tab
mended = accepted_test (placed (trial 8) (0 ∷ 2 ∷ [])) (0 ∷ 1 ∷ 2 ∷ 3 ∷ []) (0 ∷ 1 ∷ 3 ∷ 2 ∷ []) refl

pub mended_too : VerdictIs (placed (trial 8) (3 ∷ 2 ∷ [])) Accepted
unfolding acceptable rises place_of fields_ok connected kind_count port_count all_below count_below block_ok block_zero ports_ok ports_of ins outs on_side tab
mended_too = accepted_test (placed (trial 8) (3 ∷ 2 ∷ [])) (0 ∷ 3 ∷ 0 ∷ 1 ∷ 2 ∷ 1 ∷ []) (0 ∷ 3 ∷ 1 ∷ 1 ∷ 2 ∷ 0 ∷ []) refl

pub no_merge_lem : MergeFree (trial 8)
unfolding all_below
no_merge_lem = free_test (trial 8) refl

-- what two placements that load deliver on the two old channels
pub same_words : (words ends : List ℕ) (masks masks' : List (ℕ × ℕ)) (c : ℕ) → c < 2
    → Comparable (delivered true (placed (trial 8) (0 ∷ 2 ∷ [])) words ends masks c) (delivered true (placed (trial 8) (3 ∷ 2 ∷ [])) words ends masks' c)
same_words = placements_comparable (trial 8) (0 ∷ 2 ∷ []) (3 ∷ 2 ∷ []) data_buffer_on_itself.0 no_merge_lem refl refl mended mended_too true true
