-- No more words are counted than the list has entries (`count_fits`, compare/proofs/Answers.antt).
-- Assumes nothing.
use Prim.Native.Nat.{zero-le}
use Rattle.compare.proofs.Answers.{count_fits}
use Rattle.netdiff.proofs.next_words.Goals as goal

pub returns : goal.returns
returns c = record { ordered = zero-le; ends = rw (c.gather-gathered.ensures.answer) (count_fits _ _ _) }
