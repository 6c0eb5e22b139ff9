-- `stored::read::refused_load` meets its contract: 64 zero blocks.
-- Assumes nothing.
use Rattle.std.proofs.Common.{refl}
use Rattle.stored.specs.Reads.{net_answer}
use Rattle.stored.proofs.read.refused_load.Goals as goal

pub returns : goal.returns
unfolding net_answer
returns c = refl
