-- `rows::checks::shape_ok` meets its contract: entry after entry; the loop's invariant is that those before b are in shape.
-- Assumes nothing.
use Rattle.std.proofs.Common.{◌≡◌, true}
use Rattle.blocks.specs.Folds.{all_below}
use Rattle.cycles.specs.State.{entry_shape}
use Rattle.rows.proofs.checks.shape_ok.Given as goal

abbrev pub invariant-loop-b : goal.invariant-loop-b
invariant-loop-b l = all_below (entry_shape l.net l.state) l.b ≡ true
