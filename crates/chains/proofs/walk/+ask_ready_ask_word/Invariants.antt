-- The measure of the two functions that call each other: the number of channels not yet met. A channel is marked before the next one is asked, so it falls.
-- Assumes nothing.
use Rattle.chains.specs.Rows.{unmet}
use Rattle.chains.proofs.walk.+ask_ready_ask_word.Given as goal

abbrev pub decreases-ask_ready : goal.decreases-ask_ready
decreases-ask_ready l = unmet l.walk.now.met

abbrev pub decreases-ask_word : goal.decreases-ask_word
decreases-ask_word l = unmet l.walk.now.met
