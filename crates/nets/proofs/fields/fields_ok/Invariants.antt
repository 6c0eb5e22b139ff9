-- `nets::fields::fields_ok` meets its contract. The loop's invariant: the entries before `i` pass.
-- Assumes nothing.
use mathlib.Core.Path.{◌≡◌}
use mathlib.Core.Bool.{true}
use Rattle.blocks.specs.Folds.{all_below}
use Rattle.nets.specs.Net.{entry_at}
use Rattle.nets.proofs.fields.fields_ok.Given as goal

abbrev pub invariant-loop-i : goal.invariant-loop-i
invariant-loop-i l = all_below (entry_at l.net) l.i ≡ true
