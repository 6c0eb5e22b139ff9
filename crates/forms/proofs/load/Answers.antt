-- `forms::load` meets its contract: a form's own refusal, or what its net earns.
-- Assumes nothing.
use mathlib.Core.Path.{◌≡◌, sym, ap, subst, ◌∙◌}
use Rattle.blocks.specs.Refusals.{refusal_number}
use Rattle.stored.specs.Form.{parse, loaded, denied}
use Rattle.stored.specs.Reads.{Finds, net_answer}
use Rattle.forms.specs.Calls.{Loaded, LoadedFrom}
use Rattle.forms.proofs.Answers.{load_denied}
use Rattle.forms.proofs.load.Goals as goal

pub returns-in-Ok : goal.returns-in-Ok
returns-in-Ok c =
    let found : parse c.args.form.now ≡ loaded c.in-Ok.net = subst (λ r. Finds (parse c.args.form.now) r) c.in-Ok.is c.read_net-found.ensures in
    subst (λ o. LoadedFrom o c.judged.result) (sym found) c.judged.ensures

pub returns-in-Err : goal.returns-in-Err
unfolding net_answer
returns-in-Err c =
    let form = c.args.form.now in
    let refusal = c.in-Err.refusal in
    let found : parse form ≡ denied (refusal_number refusal) = subst (λ r. Finds (parse form) r) c.in-Err.is c.read_net-found.ensures in
    subst (Loaded form) (sym (c.refused_load.ensures ∙ ap (λ k. net_answer (denied k)) c.number.ensures)) (load_denied form refusal found)
