-- Two of document 01's trial runs, over the definitions: beside a source joined to a sink, a data buffer joined to itself earns 11, and a control buffer
-- joined to itself earns 10. And the net of its program netrun is accepted.
-- Assumes nothing.
use mathlib.Core.Path.{◌≡◌, refl}
use mathlib.Core.Bool.{Bool, true, false, ◌&&◌}
use mathlib.Core.List.{[], ◌∷◌}
use Prim.Native.Nat.{ℕ, zero, suc, ◌<◌}
use native.Mathlib.Omega.{arith}
use lib.ListN.{replicate}
use lib.Dec.{leb, ltb}
use borrow.Author.Tests.{ltb-true, leb-true}
use Rattle.loops.proofs.Cycle.{no_loop}
use Rattle.blocks.specs.Ports.{ports_of}
use Rattle.nets.specs.Block.{ins, outs, on_side, ports_ok, block_ok}
use Rattle.blocks.specs.Folds.{all_below, count_below}
use Rattle.nets.specs.Net.{block_at, block_zero, fields_ok, kind_count, port_count, connected, place_of}
use Rattle.nets.specs.Loops.{FreeLoop, is_buffer}
use Rattle.nets.specs.Verdict.{Joined, VerdictIs, Accepted, DataLoop, ControlLoop}
use Rattle.blocks.specs.declared.Block.{Block}
use Rattle.blocks.specs.declared.Net.{Net}
use Rattle.nets.proofs.Accepting.{rises, acceptable, accepted_test}
use Rattle.nets.proofs.FreeLoops.{LeadsFree, by_ends, by_blocks}
use Rattle.blocks.proofs.Folds.{clash, and_1, and_2}

abbrev pub block : ℕ → ℕ → ℕ → Block
block kind a b = record { kind = kind; m = 0; value = 0; ports = a ∷ b ∷ 0 ∷ 0 ∷ 0 ∷ 0 ∷ 0 ∷ 0 ∷ 0 ∷ 0 ∷ [] }

-- a source and a sink on channel 0, and a buffer of this kind from channel 1 to channel 1
abbrev pub trial : ℕ → Net
trial kind = record { size = 3; channels = 2; blocks = block 0 0 0 ∷ block 1 0 0 ∷ block kind 1 1 ∷ replicate 61 (block 0 0 0) }

joined_8 : Joined (trial 8)
unfolding fields_ok connected kind_count port_count all_below count_below block_ok block_zero ports_ok ports_of ins outs on_side
joined_8 = record { fields = refl; joins = refl; ends = refl }

joined_10 : Joined (trial 10)
unfolding fields_ok connected kind_count port_count all_below count_below block_ok block_zero ports_ok ports_of ins outs on_side
joined_10 = record { fields = refl; joins = refl; ends = refl }

-- the buffer's channel is a loop of one block
itself : (kind : ℕ) (control : Bool) → on_side true (block kind 1 1) 1 ≡ true → on_side false (block kind 1 1) 0 ≡ true → is_buffer control kind ≡ false → FreeLoop (trial kind) control
itself kind control o i f =
    by_blocks (trial kind) control
    (record {
      start = 2;
      first = 1;
      rest = [];
      closed = (
        2,
        record {
          leads =
              record {
                leaves = record { port = 1; in_net = omega arith; in_block = omega arith; on_side_lem = o; names = refl };
                enters = record { port = 0; in_net = omega arith; in_block = omega arith; on_side_lem = i; names = refl };
              };
          from_free = f;
          to_free = f;
        },
        refl,
      );
    })

empty_range : (j : ℕ) → (leb 1 j && ltb j 1) ≡ true → ⊥
empty_range j e = omega (arith, leb-true 1 j (and_1 (leb 1 j) (ltb j 1) e), ltb-true j 1 (and_2 (leb 1 j) (ltb j 1) e))

none_below : (j : ℕ) → ltb j 0 ≡ true → ⊥
none_below j e = omega (arith, ltb-true j 0 e)

too_far : (a : ℕ) → suc (suc (suc a)) < 3 → ⊥
too_far a h = omega arith

-- of the blocks that are no data buffer only the source has an output
leaves-source : (a j : ℕ) → a < 3 → on_side true (block_at (trial 8) a) j ≡ true → is_buffer false (block_at (trial 8) a).kind ≡ false → a ≡ 0
unfolding on_side ins outs ports_of
leaves-source zero j h s f = refl
leaves-source (suc zero) j h s f = absurd (empty_range j s)
leaves-source (suc (suc zero)) j h s f = clash refl f
leaves-source (suc (suc (suc a))) j h s f = absurd (too_far a h)

-- and only the sink an input
enters-sink : (b j : ℕ) → b < 3 → on_side false (block_at (trial 8) b) j ≡ true → is_buffer false (block_at (trial 8) b).kind ≡ false → b ≡ 1
unfolding on_side ins outs ports_of
enters-sink zero j h s f = absurd (none_below j s)
enters-sink (suc zero) j h s f = refl
enters-sink (suc (suc zero)) j h s f = clash refl f
enters-sink (suc (suc (suc b))) j h s f = absurd (too_far b h)

source_first : (c a b : ℕ) → LeadsFree (trial 8) false c a b → a < b
source_first c a b l =
    omega (
      arith,
      leaves-source a l.leads.leaves.port l.leads.leaves.in_net l.leads.leaves.on_side_lem l.from_free,
      enters-sink b l.leads.enters.port l.leads.enters.in_net l.leads.enters.on_side_lem l.to_free,
    )

pub data_buffer_on_itself : VerdictIs (trial 8) ControlLoop
unfolding on_side ins outs ports_of
data_buffer_on_itself = (joined_8, (λ l. no_loop (LeadsFree (trial 8) false) (λ a. a) source_first (by_ends (trial 8) false l), itself 8 true refl refl refl))

pub control-buffer_on_itself : VerdictIs (trial 10) DataLoop
unfolding on_side ins outs ports_of
control-buffer_on_itself = (joined_10, itself 10 false refl refl refl)

-- a source, a data buffer, add 5 and a sink in a row: the net of document 01's program netrun
abbrev pub line : Net
line =
    record {
      size = 4;
      channels = 3;
      blocks = block 0 0 0 ∷ block 8 0 1 ∷ record { kind = 3; m = 0; value = 5; ports = 1 ∷ 2 ∷ 0 ∷ 0 ∷ 0 ∷ 0 ∷ 0 ∷ 0 ∷ 0 ∷ 0 ∷ [] } ∷ block 1 2 0 ∷ replicate 60 (block 0 0 0);
    }

pub line_accepted : VerdictIs line Accepted
unfolding acceptable rises place_of fields_ok connected kind_count port_count all_below count_below block_ok block_zero ports_ok ports_of ins outs on_side
line_accepted = accepted_test line (0 ∷ 1 ∷ 2 ∷ 3 ∷ []) (0 ∷ 1 ∷ 2 ∷ 3 ∷ []) refl
