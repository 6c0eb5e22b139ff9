-- `placements::checked` meets its contract: by what the check of a net finds.
-- Assumes nothing.
use mathlib.Core.Path.{ap, sym, ◌∙◌}
use Rattle.blocks.specs.Refusals.{refusal_number}
use Rattle.nets.specs.Verdict.{Accepted}
use Rattle.nets.proofs.Decided.{verdict_of_lem}
use Rattle.placements.specs.Calls.{form_number}
use Rattle.placements.proofs.Answering.{loops-earn-none, form-earns}
use Rattle.placements.proofs.checked.Goals as goal

pub returns-in_default : goal.returns-in_default
returns-in_default c = ap form_number (verdict_of_lem c.args.net Accepted c.in_default.ensures.0)

pub returns-in-DataLoop : goal.returns-in-DataLoop
returns-in-DataLoop c = loops-earn-none c.args.net c.in-Err.fault c.in-Err.ensures c.in-DataLoop.is

pub returns-in_default-fault : goal.returns-in_default-fault
returns-in_default-fault c =
    form-earns c.args.net c.in-Err.fault c.in-Err.ensures c.in_default-fault.not-DataLoop c.in_default-fault.not-ControlLoop
    ∙ ap refusal_number (sym c.from.ensures)
