-- `rows::flat::pick` meets its contract: place after place; the loop's invariant is that the list has those of the first i places that do not rest.
-- Assumes nothing.
use Rattle.std.proofs.Common.{◌≤◌}
use Rattle.passes.specs.Rows.{blocks_in}
use Rattle.rows.specs.Flat.{rests_by}
use Rattle.rows.proofs.Picks.{Picking}
use Rattle.rows.proofs.flat.pick.Given as goal

abbrev pub invariant-loop-i : goal.invariant-loop-i
invariant-loop-i l = (l.picked.count ≤ l.i) × Picking l.net (rests_by l.control) l.order l.i (blocks_in l.picked)
