-- `placed::input_moved` meets its contract: a block that does not name the channel is as it was; of another, port after port, and the loop's invariant is that the first j ports
-- are moved.
-- Assumes nothing.
use mathlib.Core.Path.{◌≡◌}
use Prim.Native.Nat.{ℕ, ◌≤◌, ◌<◌}
use mathlib.Core.List.{List}
use lib.ListN.{get_or, length}
use Rattle.blocks.specs.declared.Block.{Block}
use Rattle.placed.specs.Placed.{port_moved}
use Rattle.placed.proofs.input_moved.Given as goal

-- the first j ports are those of the block, moved, and the rest are those of the block
pub record Moving (b : Block) (c d j : ℕ) (ports : List ℕ) : Type 0 where
  pub moved : (k : ℕ) → k < j → get_or ports k 0 ≡ port_moved c d b k
  pub rest : (k : ℕ) → j ≤ k → get_or ports k 0 ≡ get_or b.ports k 0
  pub long : length ports ≡ 10

abbrev pub invariant-loop-j : goal.invariant-loop-j
invariant-loop-j l = Moving l.b l.c l.d l.j l.port-items
