-- `cases::read_case` meets its contract: each part is split from what is left of the file.
-- Assumes nothing.
use Rattle.cases.proofs.Splits.{parted}
use Rattle.cases.proofs.read_case.Goals as goal

pub returns : goal.returns
returns c =
    parted _ _ _ _ _ _ _ _ _ c.in_ok-head.ensures.cases c.number_at.ensures c.number_at-words.ensures c.number_at-ends.ensures
    c.if-words-gt-MOST_WORDS.false c.if-ends-gt-MOST_ENDS.false c.in_ok-form.ensures.cases c.in_ok-words.ensures.cases c.in_ok-ends.ensures.cases
