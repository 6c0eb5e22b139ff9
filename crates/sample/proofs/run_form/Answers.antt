-- `sample::run_form` meets its contract: a refused form keeps its refusal; of any other the net has its sample run.
-- Assumes nothing.
use Rattle.forms.proofs.Theorems.{loaded_accepted}
use Rattle.sample.proofs.Giving.{form-refused, form_ran}
use Rattle.sample.proofs.run_form.Goals as goal

pub returns-then-loading-ne0 : goal.returns-then-loading-ne0
returns-then-loading-ne0 c = form-refused _ _ c.load-loading.result c.load-loading.ensures c.if-loading-ne0.true

pub run_net-ran-requires : goal.run_net-ran-requires
run_net-ran-requires c =
    (loaded_accepted _ c.load-loading.result c.load-loading.ensures c.if-loading-ne0.false).1.0

pub returns : goal.returns
returns c =
    form_ran _ _ c.load-loading.result c.load-loading.ensures c.if-loading-ne0.false c.run_net-ran.result _ c.run_net-ran.ensures.value c.run_net-ran.ensures.trace_after
