-- `placements::numbers::power` meets its contract: it is 4,096 at most.
-- Assumes nothing.
use native.Mathlib.Omega.{arith}
use Rattle.placements.proofs.Digits.{power_small}
use Rattle.placements.proofs.numbers.power.Goals as goal

pub pow-requires : goal.pow-requires
pow-requires c = omega (arith, power_small c.args.n c.requires)
