-- `placements::value_base` meets its contract: 12 for what a form's net would earn a number for.
-- Assumes nothing.
use Rattle.placements.proofs.Answering.{value-earns}
use Rattle.placements.proofs.value_base.Goals as goal

pub returns-in-Err : goal.returns-in-Err
returns-in-Err c = value-earns c.args.net c.in-Err.field-0 c.in-Err.ensures
