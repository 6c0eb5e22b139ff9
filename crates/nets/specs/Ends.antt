-- What a table of the channels' ends holds while it is filled from the net's blocks, port by port.
-- Assumes nothing.
use Rattle.std.specs.Prelude.{◌≡◌, Bool, true, false, cond, not, List, Option, Some, None, ℕ, ◌+◌, ◌*◌, ◌/◌, ◌≤◌, ◌<◌, eqb, get_or}
use Rattle.blocks.specs.Folds.{count_below}
use Rattle.nets.specs.Block.{ins, outs}
use Rattle.nets.specs.Net.{block_at, names_at, port_count}
use Rattle.nets.specs.Promises.{Table}
use Rattle.blocks.specs.declared.Block.{Block}
use Rattle.blocks.specs.declared.Net.{Net}
use Rattle.blocks.specs.declared.Ports.{Ports}

-- the port counts of each block
abbrev pub CountsOf : Net → List Ports → Type 0
CountsOf net counts =
    (b : ℕ) → b < net.size → ((get_or counts b (record { inputs = 0; outputs = 0 })).inputs ≡ ins (block_at net b)) × ((get_or counts b (record { inputs = 0; outputs = 0 })).outputs ≡ outs (block_at net b))

-- the ports on a side of a block, outputs (side true) or inputs (side false): the first, and the first beyond them
abbrev pub first_on : Block → Bool → ℕ
first_on b side = cond side (ins b) 0

abbrev pub last_on : Block → Bool → ℕ
last_on b side = cond side (ins b + outs b) (ins b)

-- an entry v for channel c once the places below q are read: 255 if none of them names it, and else the block of the one that does
pub data Entry (net : Net) (side : Bool) (c q v : ℕ) : Type 0 where
  vacant : v ≡ 255 → count_below (names_at net side c) q ≡ 0 → Entry net side c q v
  held : (p : ℕ) → p < q → names_at net side c p ≡ true → v ≡ p / 10 → count_below (names_at net side c) q ≡ 1 → Entry net side c q v

abbrev pub Entries : Net → Bool → List ℕ → ℕ → Type 0
Entries net side table q = (c : ℕ) → c < 128 → Entry net side c q (get_or table c 0)

-- two of the places below q name one channel
abbrev pub Double : Net → Bool → ℕ → Type 0
Double net side q = (c : ℕ) × (2 ≤ count_below (names_at net side c) q)

-- the answer of one block's entering: the table goes on, or it is given up since a channel has two ports on this side
pub record Filled (net : Net) (side : Bool) (i : ℕ) (ok : Bool) (table : List ℕ) : Type 0 where
  pub whole : ok ≡ true → Entries net side table (i * 10 + 10)
  pub double : ok ≡ false → Double net side (i * 10 + 10)

-- the table has a block for channel c
abbrev pub held_at : List ℕ → ℕ → Bool
held_at table c = not (eqb (get_or table c 0) 255)

-- each channel has one port on this side
abbrev pub Once : Net → Bool → Type 0
Once net side = (c : ℕ) → c < net.channels → port_count net side c ≡ 1

-- a channel has two ports on this side, or none
abbrev pub Unjoined : Net → Bool → Type 0
Unjoined net side = (c : ℕ) × (c < net.channels) × (port_count net side c ≡ 1 → ⊥)

-- the answer for all blocks: a table with the one block of each channel, or a channel with two ports or none
abbrev pub EndsAre : Net → Bool → Option (List ℕ) → Type 0
EndsAre net side (Some table) = Table net side table × Once net side
EndsAre net side None = Unjoined net side
