-- `asking::hand_on` meets its contract: the port counts are the block's.
-- Assumes nothing.
use Rattle.std.proofs.Common.{sym, ◌∙◌}
use Rattle.blocks.proofs.Counts.{count_small}
use Rattle.asking.proofs.Asks.{hands_same, counts_are, never_none}
use Rattle.asking.proofs.hand_on.Goals as goal

pub hand_to-requires : goal.hand_to-requires
hand_to-requires c =
    let block = c.args.at.block.now in
    count_small block.kind block.m c.in-Some.ports (sym c.ports_of.ensures ∙ c.in-Some.is)

pub returns-in-Some : goal.returns-in-Some
returns-in-Some c marks =
    let a = c.args in
    let block = a.at.block.now in
    let counts = counts_are block.kind block.m c.requires.m_value c.in-Some.ports (sym c.ports_of.ensures ∙ c.in-Some.is) in
    c.hand_to.ensures ∙ rw (counts, c.chosen_of-chosen.ensures) (hands_same a.b a.held marks block a.signals.now a.ready.now c.requires.m_value)

pub returns-in-None : goal.returns-in-None
returns-in-None c marks =
    let block = c.args.at.block.now in
    absurd (never_none block.kind block.m c.requires.m_value (sym c.ports_of.ensures ∙ c.in-None.is))
