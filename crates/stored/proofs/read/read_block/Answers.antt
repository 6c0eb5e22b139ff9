-- `stored::read::read_block` meets its contract: kind, m, value and ports, each at the position after the last.
-- Assumes nothing.
use Rattle.std.proofs.Common.{◌≡◌, ℕ, ◌≤◌, arith, rules}
use Rattle.std.proofs.lemmas.Result.{err_from_is_err_and}
use Rattle.stored.specs.Form.{port_count}
use Rattle.stored.proofs.Codecs.{port_count_le}
use Rattle.stored.proofs.Places.{no_kind, no_m, no_value, no_ports, block_took, eight}
use Rattle.stored.proofs.read.read_block.Goals as goal

few : (k m n : ℕ) → n ≡ port_count k m → n ≤ 10
few k m n e = omega (arith, e, port_count_le k m)

pub returns-in_err-kind-clause-taken : goal.returns-in_err-kind-clause-taken
returns-in_err-kind-clause-taken c =
    let p = err_from_is_err_and c.from_residual.result c.from_residual.ensures.1 in
    rw (p.1, p.2) (no_kind c.args.form.now _ _ _ c.in_err-kind.ensures.taken)

pub returns-in_err-m-clause-taken : goal.returns-in_err-m-clause-taken
returns-in_err-m-clause-taken c =
    let r = c.from_residual-in_err-m in
    let p = err_from_is_err_and r.result r.ensures.1 in
    rw (p.1, p.2) (no_m c.args.form.now _ _ _ _ c.in_ok-kind.ensures.taken _ c.in_err-m.ensures)

pub returns-in_err-value-clause-taken : goal.returns-in_err-value-clause-taken
returns-in_err-value-clause-taken c =
    let r = c.from_residual-in_err-value in
    let p = err_from_is_err_and r.result r.ensures.1 in
    rw (p.1, p.2) (no_value c.args.form.now _ _ _ _ c.in_ok-kind.ensures.taken _ _ (eight c.args.at c.in_ok-m.ensures) _ c.in_err-value.ensures.taken)

pub read_ports-requires : goal.read_ports-requires
read_ports-requires c =
    let v = c.in_ok-value.ensures in
    (v.taken.inside, omega (arith, v.near), search rules, search rules, few _ _ _ c.port_count-count.ensures)

pub returns-in_err-ports-clause-taken : goal.returns-in_err-ports-clause-taken
returns-in_err-ports-clause-taken c =
    let r = c.from_residual-in_err-ports in
    let p = err_from_is_err_and r.result r.ensures.1 in
    rw (p.1, p.2)
    (no_ports c.args.form.now _ _ _ _ c.in_ok-kind.ensures.taken _ _ (eight c.args.at c.in_ok-m.ensures) _ _ c.in_ok-value.ensures.taken _ _ c.port_count-count.ensures c.in_err-ports.ensures)

pub overflow_mul-result : goal.overflow_mul-result
overflow_mul-result c = omega (arith, few _ _ _ c.port_count-count.ensures)

pub overflow_add-result : goal.overflow_add-result
overflow_add-result c = omega (arith, few _ _ _ c.port_count-count.ensures, c.in_ok-value.ensures.near)

pub returns-clause-taken : goal.returns-clause-taken
returns-clause-taken c =
    block_took c.args.form.now _ _ _ _ c.in_ok-kind.ensures.taken _ _ (eight c.args.at c.in_ok-m.ensures) _ _ c.in_ok-value.ensures.taken _ _ _
    c.port_count-count.ensures c.in_ok-ports.ensures

pub returns-clause-near : goal.returns-clause-near
returns-clause-near c = omega (arith, few _ _ _ c.port_count-count.ensures, c.in_ok-value.ensures.near)
