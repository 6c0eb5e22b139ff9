-- `compare::rest` meets its contract: the part from the end of the shared words on, of the list that has more of them.
-- Assumes nothing.
use mathlib.Core.Path.{refl}
use Prim.Native.Nat.{◌≤◌}
use native.Mathlib.Omega.{arith}
use lib.ListN.{length}
use Rattle.compare.proofs.Shared.{within_first}
use Rattle.compare.proofs.Rests.{first_left, second_left, none_left, is_rest}
use Rattle.compare.proofs.rest.Lts as lts
use Rattle.compare.proofs.rest.Tie as tie
use Rattle.compare.proofs.rest.Reads as reads
use Rattle.compare.proofs.rest.Goals as goal

-- places on the way that several answers speak of
abbrev Else-n-b : Type 0
Else-n-b = lts.Else2 tie.the-claims reads.Pre reads.Post

pub returns-then-n-a : goal.returns-then-n-a
returns-then-n-a c =
    let given = c.args in
    is_rest given.a c.common-n.result _ _ (first_left given.a given.b c.common-n.result c.common-n.ensures c.if-n-a.true) refl refl refl

pub returns-then-n-b : goal.returns-then-n-b
returns-then-n-b c =
    let given = c.args in
    is_rest given.b c.common-n.result _ _
    (second_left given.a given.b c.common-n.result c.common-n.ensures c.if-n-a.false c.if-n-b.true) refl refl refl

-- past both tests no word is left of either list, and no more are shared than the first has
within : (c : Else-n-b) → c.common-n.result ≤ length c.args.a.now
within c =
    let given = c.args in
    omega (arith, within_first given.a.now given.b.now, c.common-n.ensures)

pub offset_bounds-a-n-2 : goal.offset_bounds-a-n-2
offset_bounds-a-n-2 c = omega (arith, within c.before)

pub slice_bounds-result-count-2 : goal.slice_bounds-result-count-2
slice_bounds-result-count-2 c = omega (arith, within c.before)

pub slice_bounds-result-start-2 : goal.slice_bounds-result-start-2
slice_bounds-result-start-2 c = omega (arith, within c.before)

pub returns : goal.returns
returns c =
    let given = c.args in
    is_rest given.a c.common-n.result _ _
    (none_left given.a given.b c.common-n.result c.common-n.ensures c.if-n-a.false c.if-n-b.false) refl refl refl
