-- `placed::with_buffer` meets its contract: block after block; the loop's invariant is that the first i blocks are moved and the rest are zero. The new buffer
-- then takes its place.
-- Assumes nothing.
use mathlib.Core.Path.{◌≡◌}
use Prim.Native.Nat.{ℕ, ◌≤◌, ◌<◌}
use mathlib.Core.List.{List}
use lib.ListN.{get_or, length}
use Rattle.nets.specs.Block.{no_block}
use Rattle.nets.specs.Net.{block_at}
use Rattle.blocks.specs.declared.Block.{Block}
use Rattle.blocks.specs.declared.Net.{Net}
use Rattle.placed.specs.Placed.{buffer_from, input_moved}
use Rattle.placed.proofs.with_buffer.Given as goal

-- the first i blocks of the net are moved, and the rest are zero
pub record Moving (net : Net) (c i : ℕ) (blocks : List Block) : Type 0 where
  pub long : length blocks ≡ 64
  pub moved : (k : ℕ) → k < i → get_or blocks k no_block ≡ input_moved c net.channels (block_at net k)
  pub rest : (k : ℕ) → i ≤ k → k < 64 → get_or blocks k no_block ≡ buffer_from 0 0 0

abbrev pub invariant-loop-i : goal.invariant-loop-i
invariant-loop-i l = Moving l.net l.c l.i l.blocks
