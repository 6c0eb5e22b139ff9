-- A number is put where the list has room.
-- Assumes nothing.
use Rattle.std.proofs.Common.{arith}
use Rattle.typed.proofs.list_in.Goals as goal

pub bounds-list-count : goal.bounds-list-count
bounds-list-count c = omega arith
