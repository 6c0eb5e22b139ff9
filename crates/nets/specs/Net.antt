-- A net value: its fields (refusals 3 to 6 and the rest of 12), its connections (8), its sources and sinks (9), in document 01's order of checking.
-- Assumes nothing.
use Rattle.std.specs.Prelude.{Bool, true, false, cond, ◌&&◌, ℕ, suc, zero, ◌*◌, ◌/◌, ◌%◌, leb, ltb, eqb, get_or}
use Rattle.blocks.specs.Folds.{all_below, count_below}
use Rattle.nets.specs.Block.{no_block, ports_ok, block_ok, on_side}
use Rattle.blocks.specs.declared.Block.{Block}
use Rattle.blocks.specs.declared.Net.{Net}

abbrev pub block_at : Net → ℕ → Block
block_at net i = get_or net.blocks i no_block

-- every field of the block is 0
unfoldable pub block_zero : Block → Bool
block_zero b = eqb b.kind 0 && (eqb b.m 0 && (eqb b.value 0 && ports_ok b.ports 0 0))

-- a block of the net is in its ranges, and an entry beyond the net's blocks is 0
abbrev pub entry_ok : Block → Bool → ℕ → Bool
entry_ok b used channels = cond used (block_ok b channels) (block_zero b)

-- 2 to 64 blocks and 1 to 128 channels
abbrev pub sizes_ok : ℕ → ℕ → Bool
sizes_ok size channels = leb 2 size && (leb size 64 && (leb 1 channels && leb channels 128))

abbrev pub entry_at : Net → ℕ → Bool
entry_at net i = entry_ok (block_at net i) (ltb i net.size) net.channels

-- every field of the net is in its range, and every unused entry is 0 (refusals 3 to 6, and the fields of 12)
unfoldable pub fields_ok : Net → Bool
fields_ok net = sizes_ok net.size net.channels && all_below (entry_at net) 64

-- The sources and the sinks are numbered by block order.

abbrev pub is_kind : Net → ℕ → ℕ → Bool
is_kind net kind i = eqb (block_at net i).kind kind

-- how many blocks of the net are of a kind
unfoldable pub kind_count : Net → ℕ → ℕ
kind_count net kind = count_below (is_kind net kind) net.size

-- the number of block b among the sources (kind 0) or the sinks (kind 1): how many of them stand before it
abbrev pub number_among : Net → ℕ → ℕ → ℕ
number_among net kind b = count_below (is_kind net kind) b

-- at most 32 sources and 32 sinks (refusal 9)
abbrev pub few_ends : Net → Bool
few_ends net = leb (kind_count net 0) 32 && leb (kind_count net 1) 32

-- The ports of a net in order: place q is port q % 10 of block q / 10.

abbrev pub port_at : Net → ℕ → ℕ
port_at net q = get_or (block_at net (q / 10)).ports (q % 10) 0

-- the place is an output port (side true) or an input port (side false) that names channel c
abbrev pub names_at : Net → Bool → ℕ → ℕ → Bool
names_at net side c q = on_side side (block_at net (q / 10)) (q % 10) && eqb (port_at net q) c

-- how many output ports, or input ports, name channel c
unfoldable pub port_count : Net → Bool → ℕ → ℕ
port_count net side c = count_below (names_at net side c) (net.size * 10)

-- channel c has one output port and one input port
abbrev pub joined : Net → ℕ → Bool
joined net c = eqb (port_count net true c) 1 && eqb (port_count net false c) 1

-- every channel has (refusal 8)
unfoldable pub connected : Net → Bool
connected net = all_below (joined net) net.channels

-- the last number below n at which the test passes
abbrev pub seek : (ℕ → Bool) → ℕ → ℕ
seek f zero = 0
seek f (suc n) = cond (f n) n (seek f n)

-- the place of the port of this side that names channel c
unfoldable pub place_of : Net → Bool → ℕ → ℕ
place_of net side c = seek (names_at net side c) (net.size * 10)
