-- `trace::records::records` meets its contract. The loop's invariant: the records of the channels below c are the first k entries of the list, and head has the
-- count and channel c.
-- Assumes nothing.
use mathlib.Core.Path.{refl}
use native.Mathlib.Omega.{arith}
use Rattle.trace.proofs.RecordLists.{listed-none, listed_more}
use Rattle.trace.proofs.records.records.Goals as goal

pub loop-c-init : goal.loop-c-init
loop-c-init c = record { head = omega arith; listed = listed-none _ _ _ _ c.told-list }

pub loop-c-preserved : goal.loop-c-preserved
loop-c-preserved c =
    let l = c.loop-c in
    record { head = omega arith; listed = listed_more _ _ _ l.c l.k l.list _ _ refl (omega arith) (omega arith) l.invariant.listed }
