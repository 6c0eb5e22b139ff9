-- One block of a net value: its ports, and when its fields are in their ranges (document 01, "Blocks and ports"; refusals 4 to 6 and the fields of 12).
-- Assumes nothing.
use Rattle.std.specs.Prelude.{Bool, true, false, cond, ◌&&◌, ◌||◌, List, [], ℕ, ◌+◌, leb, ltb, eqb, get_or}
use Rattle.blocks.specs.Folds.{all_below}
use Rattle.blocks.specs.Ports.{m_ok, ports_of, input_count, output_count, has_value}
use Rattle.blocks.specs.declared.Block.{Block}

-- what an array of blocks has beyond its end, as antt reads one: no block of a net
abbrev pub no_block : Block
no_block = record { kind = 0; m = 0; value = 0; ports = [] }

-- how many input and output ports a block has
unfoldable pub ins : Block → ℕ
ins b = input_count (ports_of b.kind b.m)

unfoldable pub outs : Block → ℕ
outs b = output_count (ports_of b.kind b.m)

-- port j of the block is an output port (side true) or an input port (side false)
unfoldable pub on_side : Bool → Block → ℕ → Bool
on_side true b j = leb (ins b) j && ltb j (ins b + outs b)
on_side false b j = ltb j (ins b)

-- a used port names a channel below the count; an unused one is 0
abbrev pub port_ok : ℕ → Bool → ℕ → Bool
port_ok port used channels = cond used (ltb port channels) (eqb port 0)

-- the first n of ten ports are used
unfoldable pub ports_ok : List ℕ → ℕ → ℕ → Bool
ports_ok ports n channels = all_below (λ i. port_ok (get_or ports i 0) (ltb i n) channels) 10

-- a kind without a value has value 0
abbrev pub value_ok : ℕ → ℕ → Bool
value_ok kind value = has_value kind || eqb value 0

-- kind, m, value and ports are in their ranges
unfoldable pub block_ok : Block → ℕ → Bool
block_ok b channels =
    m_ok b.kind b.m && (value_ok b.kind b.value && ports_ok b.ports (ins b + outs b) channels)
