-- Each record that is printed lies in the trace.
-- Assumes nothing.
use Rattle.std.proofs.Common.{arith}
use Rattle.netrun.proofs.print_records.Goals as goal

pub record_at-requires : goal.record_at-requires
record_at-requires g c = omega (arith, c.requires)
