-- `bays::refusal_bay` meets its contract: the net, the turn, the bay's own step.
-- Assumes nothing.
use Rattle.std.proofs.Common.{sym, ◌∙◌}
use Rattle.bays.proofs.Refusals.{number_12, number_13, number_own}
use Rattle.bays.proofs.refusal_bay.Goals as goal

pub returns-then-own : goal.returns-then-own
returns-then-own c = c.if-own.true ∙ sym (number_12 _ _ c.if-own.true)

pub returns-then-turn-ge-BAYS : goal.returns-then-turn-ge-BAYS
returns-then-turn-ge-BAYS c = sym (number_13 _ _ c.if-own.false c.if-turn-ge-BAYS.true)

pub returns : goal.returns
returns c = sym (number_own _ _ c.if-own.false c.if-turn-ge-BAYS.false)
