-- `nets::fields::ports_ok` meets its contract. The loop's invariant: the ports before `i` are in range.
-- Assumes nothing.
use mathlib.Core.Path.{◌≡◌}
use mathlib.Core.Bool.{true}
use lib.Dec.{ltb}
use lib.ListN.{get_or}
use Rattle.blocks.specs.Folds.{all_below}
use Rattle.nets.specs.Block.{port_ok}
use Rattle.nets.proofs.fields.ports_ok.Given as goal

abbrev pub invariant-loop-i : goal.invariant-loop-i
invariant-loop-i l = all_below (λ k. port_ok (get_or l.ports k 0) (ltb k l.n) l.channels) l.i ≡ true
