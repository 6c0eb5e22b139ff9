-- `trace::records::write_records` meets its contract. The loop's invariant: the first j records stand at the beginning of out, and what follows is as it was.
-- Assumes nothing.
use mathlib.Core.Path.{◌≡◌}
use Rattle.trace.proofs.TraceBytes.{written}
use Rattle.trace.proofs.records.write_records.Given as goal

abbrev pub invariant-loop-j : goal.invariant-loop-j
invariant-loop-j l = l.out ≡ written l.list l.initial.out l.j
