-- `placements::has_room` meets its contract: the buffers are at most twice as many as the codes.
-- Assumes nothing.
use native.Mathlib.Omega.{arith}
use Rattle.placed.proofs.Codes.{added-small}
use Rattle.placements.proofs.has_room.Goals as goal

pub overflow_add-net : goal.overflow_add-net
overflow_add-net c = omega (arith, c.count_added-n.ensures, added-small c.args.codes.now, c.requires)
