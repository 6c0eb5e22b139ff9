-- `sample::count_sources` meets its contract: an accepted net has at most 64 blocks.
-- Assumes nothing.
use native.Mathlib.Omega.{arith}
use Rattle.nets.proofs.Nets.{size-high}
use Rattle.sample.proofs.count_sources.Goals as goal

pub kind_count-requires : goal.kind_count-requires
kind_count-requires c = omega (arith, size-high c.args.net c.requires.fields)

pub returns : goal.returns
returns c = c.kind_count.ensures
