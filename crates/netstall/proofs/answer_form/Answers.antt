-- A net that was loaded is accepted (`loaded_accepted`, forms/proofs/Theorems.antt), so its channels are joined.
-- Assumes nothing.
use Rattle.forms.proofs.Theorems.{loaded_accepted}
use Rattle.netstall.proofs.answer_form.Goals as goal

pub answer_sample-requires : goal.answer_sample-requires
answer_sample-requires g c = (loaded_accepted _ _ c.load-loading.ensures c.if-loading-ne0.false).1.0
