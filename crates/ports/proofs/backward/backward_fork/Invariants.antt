-- `ports::backward::backward_fork` meets its contract: copy after copy is asked; the loop's invariant is that go says that the input is valid and none of the first i hinders.
-- Assumes nothing.
use Rattle.std.proofs.Common.{◌≡◌, ◌&&◌}
use Rattle.blocks.specs.Folds.{all_below}
use Rattle.ports.specs.Worked.{free_at}
use Rattle.ports.proofs.backward.backward_fork.Given as goal

abbrev pub invariant-loop-i : goal.invariant-loop-i
invariant-loop-i l = l.go ≡ (l.offered && all_below (free_at l.at.block.now l.signals l.ready) l.i)
