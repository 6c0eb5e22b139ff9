-- `placed::place_all` meets its contract: code after code; the loop's invariant is that the codes from c on make the placed net of what there is.
-- Assumes nothing.
use Rattle.placed.proofs.Codes.{Going}
use Rattle.placed.proofs.place_all.Given as goal

abbrev pub invariant-loop-c : goal.invariant-loop-c
invariant-loop-c l = Going l.initial.out l.codes l.c l.out
