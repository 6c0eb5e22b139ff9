-- `whemdrosk::whemdrosk_run` meets its contract: a refused form keeps its refusal; of any other the net runs.
use mathlib.Core.Path.{refl}
use Rattle.whemdrosk.proofs.Answers.{form-refused, form_runs}
use Rattle.whemdrosk.proofs.whemdrosk_run.Goals as goal

pub returns-then-loading-ne0 : goal.returns-then-loading-ne0
returns-then-loading-ne0 c =
    let l = c.load-loading in
    form-refused _ _ _ _ _ _ _ l.result l.ensures c.if-loading-ne0.true c.packed.ensures refl

pub returns : goal.returns
returns c =
    let l = c.load-loading in
    let r = c.run_bytes in
    form_runs _ _ _ _ _ _ _ l.result l.ensures c.if-loading-ne0.false r.ensures.value r.ensures.trace_after
