-- Which blocks a channel joins, and the loops of a net (document 01, "Blocks and ports"; refusals 10 and 11).
-- Assumes nothing.
use Rattle.std.specs.Prelude.{◌≡◌, Bool, true, false, cond, ◌||◌, ℕ, ◌<◌, eqb, get_or}
use Rattle.loops.specs.Walk.{LoopOf}
use Rattle.nets.specs.Block.{on_side}
use Rattle.nets.specs.Net.{block_at}
use Rattle.blocks.specs.declared.Net.{Net}

-- block a of the net has an output port (side true) or an input port (side false) that names channel c
pub record HasPort (net : Net) (side : Bool) (c a : ℕ) : Type 0 where
  pub port : ℕ
  pub in_net : a < net.size
  pub in_block : port < 10
  pub on_side_lem : on_side side (block_at net a) port ≡ true
  pub names : get_or (block_at net a).ports port 0 ≡ c

-- channel c leads from block a to block b
pub record Leads (net : Net) (c a b : ℕ) : Type 0 where
  pub leaves : HasPort net true c a
  pub enters : HasPort net false c b

-- the buffers that a loop needs: control buffers (10), or data buffers (8 and 9)
abbrev pub is_buffer : Bool → ℕ → Bool
is_buffer control kind = cond control (eqb kind 10) (eqb kind 8 || eqb kind 9)

-- a loop on which no block is such a buffer (refusal 10 for data buffers, 11 for control buffers)
abbrev pub FreeLoop : Net → Bool → Type 0
FreeLoop net control = LoopOf (Leads net) (λ x. is_buffer control (block_at net x).kind ≡ false)
