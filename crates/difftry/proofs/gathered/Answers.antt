-- No more words are counted than the list has entries (`counts`, compare/proofs/Answers.antt).
-- Assumes nothing.
use Rattle.compare.proofs.Answers.{counts}
use Rattle.difftry.proofs.gathered.Goals as goal

pub returns : goal.returns
returns g c = counts _ _ _ _ _ c.gather-answer.ensures.answer c.gather-answer.ensures.filled
