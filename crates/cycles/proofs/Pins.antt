-- Computed facts that pin down definitions which no theorem would notice if they were wrong: which block a mask bit and a stream belong to.
-- Assumes nothing.
use Prim.Native.Nat.{ℕ}
use mathlib.Core.Path.{◌≡◌, refl}
use mathlib.Core.Bool.{true, false}
use mathlib.Core.List.{[], ◌∷◌}
use lib.ListN.{replicate}
use Rattle.blocks.specs.Folds.{count_below, bit}
use Rattle.nets.specs.Net.{kind_count}
use Rattle.blocks.specs.declared.Block.{Block}
use Rattle.blocks.specs.declared.Net.{Net}
use Rattle.cycles.specs.Streams.{ends_fit, stream_of, mask_of}

-- a source or a sink on channel c
abbrev end : ℕ → ℕ → Block
end kind c = record { kind = kind; m = 0; value = 0; ports = c ∷ replicate 9 0 }

-- source, sink, source, sink; the first source is joined to the last sink
abbrev pairs : Net
pairs = record { size = 4; channels = 2; blocks = end 0 0 ∷ end 1 1 ∷ end 0 1 ∷ end 1 0 ∷ replicate 60 (end 0 0) }

-- offer mask 2: source 1 alone, block 2; ready mask 1: sink 0 alone, block 1
pub masks_are : (mask_of pairs 2 1 0 ≡ false) × (mask_of pairs 2 1 2 ≡ true) × (mask_of pairs 2 1 1 ≡ true) × (mask_of pairs 2 1 3 ≡ false)
unfolding count_below bit
masks_are = (refl, refl, refl, refl)

-- ends 2 and 3: the first two words are source 0's, block 0, the third is source 1's, block 2; over ends that descend neither has a word
pub streams_are : (stream_of pairs (7 ∷ 8 ∷ 9 ∷ []) (2 ∷ 3 ∷ []) 0 ≡ 7 ∷ 8 ∷ []) × (stream_of pairs (7 ∷ 8 ∷ 9 ∷ []) (2 ∷ 3 ∷ []) 2 ≡ 9 ∷ [])
    × (stream_of pairs (7 ∷ 8 ∷ 9 ∷ []) (2 ∷ 1 ∷ []) 0 ≡ [])
unfolding count_below kind_count ends_fit
streams_are = (refl, refl, refl)
