-- `runs::many::run_cycles` meets its contract: cycle after cycle; the loop's invariant is that the state is the run's after i cycles, and that the trace has the run's records.
-- Assumes nothing.
use Rattle.rows.specs.Ends.{read}
use Rattle.runs.proofs.GoingLaws.{Going}
use Rattle.runs.proofs.many.run_cycles.Given as goal

abbrev pub invariant-loop-i : goal.invariant-loop-i
invariant-loop-i l = Going l.laid.net.now l.initial.state (read l.streams.words) (read l.streams.ends) (read l.masks) l.initial.trace l.i l.used l.state l.trace
