-- `rows::checks::ends_fit` meets its contract: end after end; the loop's invariant is that what is left of the ends has to ascend from low.
-- Assumes nothing.
use Rattle.std.proofs.Common.{◌≡◌, length, drop}
use Rattle.cycles.specs.Streams.{ascend}
use Rattle.rows.specs.Ends.{read}
use Rattle.rows.proofs.checks.ends_fit.Given as goal

abbrev pub invariant-loop-i : goal.invariant-loop-i
invariant-loop-i l = (length (read l.ends) ≡ l.count) × (ascend 0 l.long (read l.ends) ≡ ascend l.low l.long (drop l.i (read l.ends)))
