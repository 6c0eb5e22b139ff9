-- `placements::list` meets its contract: over the net value as a base net.
-- Assumes nothing.
use mathlib.Core.Path.{◌∙◌}
use Rattle.placements.proofs.Answering.{value-based, list-based}
use Rattle.placements.proofs.list.Goals as goal

pub list_on-requires : goal.list_on-requires
list_on-requires c = value-based c.args.net c.value_base.result c.value_base.ensures

pub returns : goal.returns
returns c = c.list_on.ensures ∙ list-based _ c.args.net c.value_base.result c.value_base.ensures
