-- `trace::records::write_records` meets its contract. The loop's invariant: the first j records stand at the beginning of out, and what follows is as it was.
-- Assumes nothing.
use native.Mathlib.Omega.{arith}
use lib.ListN.{length-drop}
use Rattle.trace.proofs.TraceBytes.{tail_lent, written_none, written_more}
use Rattle.trace.proofs.records.write_records.Goals as goal

pub loop-j-init : goal.loop-j-init
loop-j-init c = written_none c.args.list.now c.args.out.now

pub write_record-requires : goal.write_record-requires
write_record-requires c = rw tail_lent (simp length-drop (omega arith))

pub loop-j-preserved : goal.loop-j-preserved
loop-j-preserved c =
    let a = c.args in
    let l = c.loop-j in
    written_more a.list.now a.out.now l.j (omega arith) (omega arith) l.out l.invariant c.write_record.new.out c.write_record.ensures
