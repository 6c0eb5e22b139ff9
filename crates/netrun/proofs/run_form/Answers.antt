-- No more records are written than the trace has room for (`sampled_fits`, sample/proofs/Room.antt).
-- Assumes nothing.
use Rattle.std.proofs.Common.{arith}
use Rattle.sample.proofs.Room.{sampled_fits}
use Rattle.netrun.proofs.run_form.Goals as goal

pub print_records-requires : goal.print_records-requires
print_records-requires g c = omega (arith, sampled_fits _ _ _ _ c.run_form-ran.ensures)
