-- `runs::many::cycles_of` meets its contract: test after test.
-- Assumes nothing.
use Rattle.std.proofs.Common.{◌≡◌, ℕ, ◌%◌, sym, subst, [], ◌∙◌, arith}
use Rattle.std.proofs.lemmas.Result.{err_from_is_err_and}
use Rattle.rows.specs.Ends.{read}
use Rattle.runs.proofs.RefusalLaws.{earns-tested, earns-15, earns-16, earns-none}
use Rattle.runs.proofs.many.cycles_of.Goals as goal

pub returns-in_err-tested : goal.returns-in_err-tested
returns-in_err-tested c =
    let r = c.from_residual in
    let p = err_from_is_err_and r.result r.ensures.1 in
    let h = c.in_err-tested.ensures in
    rw (p.1, p.2)
    (record { earned = earns-tested c.args.laid.now.net.now c.args.state.now _ _ (read c.args.masks) [] c.requires _ h.tested h.fails; fails = λ z. h.fails (sym h.tested ∙ z) })

pub returns-then-count-eq-ODD : goal.returns-then-count-eq-ODD
returns-then-count-eq-ODD c =
    let odd = subst (λ (k : ℕ). k % 2 ≡ 1) c.len-count.ensures c.if-count-eq-ODD.true in
    record { earned = earns-15 _ _ _ _ (read c.args.masks) [] c.requires c.in_ok-tested.ensures odd; fails = λ z. omega (arith, z) }

pub returns-then-state-n : goal.returns-then-state-n
returns-then-state-n c =
    let even = subst (λ (k : ℕ). k % 2 ≡ 1 → ⊥) c.len-count.ensures c.if-count-eq-ODD.false in
    record {
      earned = earns-16 _ _ _ _ (read c.args.masks) [] c.requires c.in_ok-tested.ensures even (omega (arith, c.if-state-n.true, c.len-count.ensures));
      fails = λ z. omega (arith, z);
    }

pub returns : goal.returns
returns c =
    let even = subst (λ (k : ℕ). k % 2 ≡ 1 → ⊥) c.len-count.ensures c.if-count-eq-ODD.false in
    record {
      earned = earns-none _ _ _ _ (read c.args.masks) [] c.requires c.in_ok-tested.ensures even (omega (arith, c.if-state-n.false, c.len-count.ensures));
      tested = c.in_ok-tested.ensures;
      two_each = omega (arith, c.len-count.ensures, c.if-count-eq-ODD.false);
      in_range = c.if-state-n.false;
    }
