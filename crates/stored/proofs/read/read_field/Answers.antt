-- `stored::read::read_field` meets its contract: what the reader yields is the taker's field, or its end.
-- Assumes nothing.
use Rattle.std.proofs.Common.{sym, ◌∙◌}
use Rattle.stored.proofs.Places.{step_took, step_small, step_ended}
use Rattle.stored.proofs.read.read_field.Goals as goal

pub returns-in-Some : goal.returns-in-Some
returns-in-Some c =
    let a = c.args in
    let is = sym c.step_from.ensures ∙ c.in-Some.is in
    record {
      taken = step_took a.form.now a.at a.width c.requires.0 c.requires.1 c.requires.2 c.in-Some.field is;
      small = step_small a.form.now a.at a.width c.requires.0 c.requires.1 c.requires.2 c.in-Some.field is;
    }

pub returns-in-None-clause-taken : goal.returns-in-None-clause-taken
returns-in-None-clause-taken c =
    let a = c.args in
    step_ended a.form.now a.at a.width c.requires.0 c.requires.1 c.requires.2 (sym c.step_from.ensures ∙ c.in-None.is)
