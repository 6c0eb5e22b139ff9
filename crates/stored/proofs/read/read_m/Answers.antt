-- `stored::read::read_m` meets its contract: the field is there or not, and its kind takes it or not.
-- Assumes nothing.
use Rattle.std.proofs.Common.{sym, ◌∙◌}
use Rattle.std.proofs.lemmas.Result.{err_from_is_err_and}
use Rattle.blocks.specs.Ports.{m_ok}
use Rattle.stored.proofs.Places.{tested_good, tested_bad, tested_ended}
use Rattle.stored.proofs.read.read_m.Goals as goal

pub returns-in_err-m : goal.returns-in_err-m
returns-in_err-m c =
    let p = err_from_is_err_and c.from_residual.result c.from_residual.ensures.1 in
    rw (p.1, p.2) (tested_ended c.args.form.now _ _ _ _ _ c.in_err-m.ensures.taken)

pub returns-then-takes : goal.returns-then-takes
returns-then-takes c = tested_good _ _ (m_ok c.args.kind) _ _ _ _ c.in_ok-m.ensures.taken (sym c.takes.ensures ∙ c.if-takes.true)

pub returns-else-takes : goal.returns-else-takes
returns-else-takes c = tested_bad _ _ (m_ok c.args.kind) _ _ _ _ c.in_ok-m.ensures.taken (sym c.takes.ensures ∙ c.if-takes.false)
