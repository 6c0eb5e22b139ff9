-- `nets::placing::may_place` meets its contract. The loop's invariant: the inputs before `j` are fed.
-- Assumes nothing.
use mathlib.Core.Path.{◌≡◌}
use mathlib.Core.Bool.{true}
use Rattle.blocks.specs.Folds.{all_below}
use Rattle.nets.specs.Order.{fed_at}
use Rattle.nets.proofs.placing.may_place.Given as goal

abbrev pub invariant-loop-j : goal.invariant-loop-j
invariant-loop-j l = all_below (fed_at l.control l.net l.producer l.places l.b) l.j ≡ true
