-- Chains worked out, on document 01's net of a source, a data buffer, add 5 and a sink in a row: the calls' promises are of something.
-- Assumes nothing.
use Prim.Native.Nat.{ℕ}
use mathlib.Core.Path.{◌≡◌, refl}
use mathlib.Core.Bool.{true}
use mathlib.Core.List.{List, [], ◌∷◌}
use Rattle.std.proofs.Common.{Some, None}
use lib.ListN.{replicate}
use Rattle.blocks.specs.Folds.{all_below, count_below, lowest, bit}
use Rattle.blocks.specs.Ports.{ports_of}
use Rattle.blocks.specs.Words.{operate}
use Rattle.blocks.specs.Asking.{handed}
use Rattle.nets.specs.Block.{ins, outs, on_side}
use Rattle.nets.specs.Net.{kind_count, place_of}
use Rattle.nets.proofs.Trials.{line}
use Rattle.cycles.specs.Streams.{ends_fit}
use Rattle.cycles.specs.Cycle.{signals}
use Rattle.cycles.specs.State.{tab, fresh_state, shape_ok}
use Rattle.blocks.specs.declared.State.{State}
use Rattle.asking.specs.declared.Ending.TheVariants.{IdleSource, UnreadySink, EmptyBuffer}
use Rattle.chains.specs.Chain.{Trail, trail, chain_from}
use Rattle.stalls.specs.Calls.{chain_of, chain_refusal}

abbrev all : ℕ
all = 4294967295

-- the chain from channel c, over the words 1, 2, 3
abbrev line_chain : State → ℕ → ℕ → ℕ → Trail
line_chain s offer ready c = chain_of line s (1 ∷ 2 ∷ 3 ∷ []) (3 ∷ []) offer ready c

-- the data buffer holds the word 7
abbrev held : State
held = record { count = 1; words = 0 ∷ 7 ∷ replicate 62 0; marks = 0 ∷ 1 ∷ replicate 62 0 }

-- in the first cycle the source's word goes into the buffer, and channel 2 waits for the buffer's; where the source offers nothing, channel 0 waits for it
pub line_waits :
    (line_chain (fresh_state line) all all 0 ≡ record { channels = []; ending = None })
    × (line_chain (fresh_state line) all all 2 ≡ record { channels = 2 ∷ 1 ∷ []; ending = Some (EmptyBuffer 1) })
    × (line_chain (fresh_state line) 0 all 0 ≡ record { channels = 0 ∷ []; ending = Some (IdleSource 0) })
unfolding ends_fit tab signals place_of count_below kind_count ports_of ins outs on_side bit lowest handed trail chain_from
line_waits = (refl, refl, refl)

-- with the buffer full and the sink not ready, the source's word waits for the sink, along every channel
pub line_held : (line_chain held all 0 0 ≡ record { channels = 0 ∷ 1 ∷ 2 ∷ []; ending = Some (UnreadySink 3) }) × (line_chain held all all 0 ≡ record { channels = []; ending = None })
unfolding ends_fit tab signals place_of count_below kind_count ports_of ins outs on_side bit lowest handed trail chain_from operate
line_held = (refl, refl)

-- channel 2 is the last; 3 and 256 are none; ends that do not fit come before that
abbrev line_number : List ℕ → ℕ → ℕ
line_number ends c = chain_refusal true line held (1 ∷ 2 ∷ 3 ∷ []) ends c

pub line_numbers : (line_number (3 ∷ []) 2 ≡ 0) × (line_number (3 ∷ []) 3 ≡ 24) × (line_number (3 ∷ []) 256 ≡ 24) × (line_number [] 256 ≡ 14)
unfolding chain_refusal shape_ok ends_fit all_below kind_count count_below
line_numbers = (refl, refl, refl, refl)
