-- `stored::read::read_value` meets its contract: the value is read exactly where the kind has one.
-- Assumes nothing.
use Rattle.std.proofs.Common.{sym, refl, ◌∙◌}
use Rattle.std.proofs.lemmas.Result.{err_from_is_err_and}
use Rattle.stored.proofs.Places.{value_took, value_refused, value_none}
use Rattle.stored.proofs.read.read_value.Goals as goal

pub returns-in_err-value-clause-taken : goal.returns-in_err-value-clause-taken
returns-in_err-value-clause-taken c =
    let p = err_from_is_err_and c.from_residual.result c.from_residual.ensures.1 in
    rw (p.1, p.2) (value_refused c.args.form.now _ _ _ (sym c.has_value.ensures ∙ c.if-has_value.true) c.in_err-value.ensures.taken)

pub returns-in_ok-value-clause-taken : goal.returns-in_ok-value-clause-taken
returns-in_ok-value-clause-taken c = value_took _ _ _ _ _ (sym c.has_value.ensures ∙ c.if-has_value.true) c.in_ok-value.ensures.taken

pub returns-else-has_value-clause-taken : goal.returns-else-has_value-clause-taken
returns-else-has_value-clause-taken c = value_none _ _ _ _ (sym c.has_value.ensures ∙ c.if-has_value.false) refl c.requires.0
