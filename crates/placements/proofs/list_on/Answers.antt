-- `placements::list_on` meets its contract: the base decides, and then the number of channels.
-- Assumes nothing.
use mathlib.Core.Path.{sym, ap, ◌∙◌}
use Rattle.placements.specs.Bases.{list_on}
use Rattle.placements.proofs.Listings.{list_wide, list-narrow}
use Rattle.placements.proofs.list_on.Goals as goal

pub returns-then-net-le-MOST_LISTED : goal.returns-then-net-le-MOST_LISTED
returns-then-net-le-MOST_LISTED c = c.listed.ensures ∙ list-narrow c.in-Ok.net c.if-net-le-MOST_LISTED.true ∙ ap list_on (sym c.in-Ok.is)

pub returns-else-net-le-MOST_LISTED : goal.returns-else-net-le-MOST_LISTED
returns-else-net-le-MOST_LISTED c =
    c.refused_list-else-net-le-MOST_LISTED.ensures ∙ list_wide c.in-Ok.net c.if-net-le-MOST_LISTED.false ∙ ap list_on (sym c.in-Ok.is)
