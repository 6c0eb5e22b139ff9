-- `placed::place_all` meets its contract: code after code; the loop's invariant is that the codes from c on make the placed net of what there is.
-- Assumes nothing.
use native.Mathlib.Omega.{arith}
use Rattle.placed.proofs.Codes.{going_more}
use Rattle.placed.proofs.place_all.Goals as goal

pub loop-c-preserved : goal.loop-c-preserved
loop-c-preserved c =
    let a = c.args in
    let l = c.loop-c in
    going_more a.net a.codes.now l.c l.out l.invariant (omega arith) c.with_code-out.result c.with_code-out.ensures
