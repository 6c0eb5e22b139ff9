-- `recorded::word_at` meets its contract: the lower number is the word.
-- Assumes nothing.
use mathlib.Core.Path.{◌∙◌}
use Rattle.recorded.proofs.Reading.{lower_word}
use Rattle.recorded.proofs.word_at.Goals as goal

pub returns : goal.returns
returns c = c.number_at.ensures ∙ lower_word c.args.bytes.now (λ k. (c.type_inv.bytes k).fits) c.args.i c.requires
