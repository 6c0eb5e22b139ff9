-- `stored::read::read_between` meets its contract: the field is there or not, and in its range or not.
-- Assumes nothing.
use Rattle.std.proofs.lemmas.Result.{err_from_is_err_and}
use Rattle.stored.specs.Form.{between}
use Rattle.stored.proofs.Codecs.{between_true}
use Rattle.stored.proofs.Places.{tested_good, tested_bad, tested_ended, below_false, above_false}
use Rattle.stored.proofs.read.read_between.Goals as goal
use Rattle.stored.proofs.read.read_between.Goals.{else-low-v-via-then-low-v+else-v-high, else-low-v-via-else-low-v}

pub returns-in_err-v-clause-taken : goal.returns-in_err-v-clause-taken
returns-in_err-v-clause-taken c =
    let p = err_from_is_err_and c.from_residual.result c.from_residual.ensures.1 in
    rw (p.1, p.2) (tested_ended c.args.form.now _ _ _ _ _ c.in_err-v.ensures.taken)

pub returns-then-v-high-clause-taken : goal.returns-then-v-high-clause-taken
returns-then-v-high-clause-taken c =
    let a = c.args in
    tested_good _ _ _ _ _ _ _ c.in_ok-v.ensures.taken (between_true a.low a.high c.in_ok-v.v c.if-low-v.true c.if-v-high.true)

pub returns-else-low-v-clause-taken : goal.returns-else-low-v-clause-taken
returns-else-low-v-clause-taken c =
    let a = c.args in
    let v = c.in_ok-v.v in
    let bad = tested_bad _ _ (between a.low a.high) _ _ _ _ c.in_ok-v.ensures.taken in
    elim c.else-low-v.branch [
      | else-low-v-via-then-low-v+else-v-high w ↦ bad (above_false a.low a.high v w.if-v-high.false)
      | else-low-v-via-else-low-v w ↦ bad (below_false a.low a.high v w.if-low-v.false)
    ]
