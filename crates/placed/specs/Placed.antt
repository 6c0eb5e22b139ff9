-- A net with buffers placed on its channels (request 3): one code for each channel, 0 none, 1 a data buffer, 2 a control buffer, 3 data then control. Buffers are put in
-- one after another, in channel order and from the producer on, so each new block and each new channel gets the next number.
-- Assumes nothing.
use Rattle.std.specs.Prelude.{ℕ, zero, suc, ◌+◌, false, cond, ◌&&◌, List, [], ◌∷◌, eqb, get_or, replicate}
use Rattle.nets.specs.Block.{on_side}
use Rattle.nets.specs.Net.{block_at}
use Rattle.blocks.specs.declared.Block.{Block}
use Rattle.blocks.specs.declared.Net.{Net}
use Rattle.cycles.specs.State.{tab}

-- a buffer that takes from channel a and puts on channel d
abbrev pub buffer_from : ℕ → ℕ → ℕ → Block
buffer_from kind a d = record { kind = kind; m = 0; value = 0; ports = a ∷ d ∷ replicate 8 0 }

-- port j of the block, on channel d where it is an input from channel c
abbrev pub port_moved : ℕ → ℕ → Block → ℕ → ℕ
port_moved c d b j = cond (on_side false b j && eqb (get_or b.ports j 0) c) d (get_or b.ports j 0)

-- the block with its input from channel c, if it has one, from channel d instead
abbrev pub input_moved : ℕ → ℕ → Block → Block
input_moved c d b = record { kind = b.kind; m = b.m; value = b.value; ports = tab 10 (port_moved c d b) }

-- One buffer on channel c: a new last block takes from c and puts on a new last channel, and the block that took from c takes from the new channel. "the old number
-- stays with the piece nearest the producer".
abbrev pub entry_of : Net → ℕ → ℕ → ℕ → Block
entry_of net c kind i = cond (eqb i net.size) (buffer_from kind c net.channels) (input_moved c net.channels (block_at net i))

abbrev pub split : Net → ℕ → ℕ → Net
split net c kind = record { size = net.size + 1; channels = net.channels + 1; blocks = tab 64 (entry_of net c kind) }

-- the buffers of one code on channel c: the second of two goes on the new channel behind the first
abbrev pub with_code : Net → ℕ → ℕ → Net
with_code net c zero = net
with_code net c (suc zero) = split net c 8
with_code net c (suc (suc zero)) = split net c 10
with_code net c (suc (suc (suc k))) = split (split net c 8) net.channels 10

-- the codes of channel c and of those after it
abbrev pub placed_from : Net → ℕ → List ℕ → Net
placed_from net c [] = net
placed_from net c (k ∷ ks) = placed_from (with_code net c k) (suc c) ks

abbrev pub placed : Net → List ℕ → Net
placed net codes = placed_from net 0 codes

-- how many buffers the codes add: so many blocks more, and so many channels (`sizes_are`)
abbrev pub buffers_of : ℕ → ℕ
buffers_of zero = 0
buffers_of (suc zero) = 1
buffers_of (suc (suc zero)) = 1
buffers_of (suc (suc (suc k))) = 2

abbrev pub added : List ℕ → ℕ
added [] = 0
added (k ∷ ks) = buffers_of k + added ks
