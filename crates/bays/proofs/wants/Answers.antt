-- `bays::wants` meets its contract: the bit by its definition.
-- Assumes nothing.
use mathlib.Core.Path.{refl}
use Rattle.blocks.specs.Folds.{bit}
use Rattle.bays.proofs.wants.Goals as goal

pub returns : goal.returns
unfolding bit
returns c = refl
