-- `placements::refused_list` meets its contract.
-- Assumes nothing.
use mathlib.Core.Path.{ap}
use Rattle.placements.specs.Listing.{unlisted}
use Rattle.placements.proofs.refused_list.Goals as goal

pub returns : goal.returns
returns c = ap unlisted c.number.ensures
