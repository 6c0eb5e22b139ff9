-- `placements::place` meets its contract: over the net value as a base net.
-- Assumes nothing.
use mathlib.Core.Path.{◌∙◌}
use Rattle.placements.proofs.Answering.{value-based, place-based}
use Rattle.placements.proofs.place.Goals as goal

pub place_on-requires : goal.place_on-requires
place_on-requires c = value-based c.args.net c.value_base.result c.value_base.ensures

pub returns : goal.returns
returns c = c.loading.ensures ∙ c.place_on.ensures ∙ place-based _ c.args.net c.args.codes.now c.value_base.result c.value_base.ensures
