-- `forms::judged` meets its contract: the verdict on the net decides.
-- Assumes nothing.
use mathlib.Core.Path.{refl, sym, ◌∙◌}
use Rattle.nets.specs.Verdict.{Accepted, number_of}
use Rattle.nets.specs.Promises.{earned}
use Rattle.forms.proofs.Answers.{fault_numbered, judged_denied}
use Rattle.forms.proofs.judged.Goals as goal

pub returns-in-Ok : goal.returns-in-Ok
returns-in-Ok c = (Accepted, c.in-Ok.ensures.0, refl)

pub returns-in-Err : goal.returns-in-Err
returns-in-Err c =
    let verdict = earned c.in-Err.fault in (
      verdict,
      c.in-Err.ensures,
      c.refused_load.ensures
          ∙ judged_denied c.number.result (number_of verdict) c.args.net.now c.number.ensures (λ z. fault_numbered c.in-Err.fault (sym c.number.ensures ∙ z)),
    )
