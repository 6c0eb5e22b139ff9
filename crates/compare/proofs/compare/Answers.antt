-- `compare::compare` meets its contract: the answer by what is left of each list past the shared words.
-- Assumes nothing.
use Rattle.compare.proofs.Rests.{differ, second_begins, first_begins, equal}
use Rattle.compare.proofs.Meaning.{said}
use Rattle.compare.proofs.compare.Goals as goal

pub returns-then-n-b : goal.returns-then-n-b
returns-then-n-b c =
    let given = c.args in
    let all = said given.a.now given.b.now _
    (differ given.a.now given.b.now c.common-n.result c.common-n.ensures c.if-n-a.true c.if-n-b.true) in
    record { answer = all.0; says = all.1 }

pub returns-else-n-b : goal.returns-else-n-b
returns-else-n-b c =
    let given = c.args in
    let all = said given.a.now given.b.now _
    (second_begins given.a.now given.b.now c.common-n.result c.common-n.ensures c.if-n-a.true c.if-n-b.false) in
    record { answer = all.0; says = all.1 }

pub returns-then-n-b-2 : goal.returns-then-n-b-2
returns-then-n-b-2 c =
    let given = c.args in
    let all = said given.a.now given.b.now _
    (first_begins given.a.now given.b.now c.common-n.result c.common-n.ensures c.if-n-a.false c.if-n-b-2.true) in
    record { answer = all.0; says = all.1 }

pub returns-else-n-b-2 : goal.returns-else-n-b-2
returns-else-n-b-2 c =
    let given = c.args in
    let all = said given.a.now given.b.now _
    (equal given.a.now given.b.now c.common-n.result c.common-n.ensures c.if-n-a.false c.if-n-b-2.false) in
    record { answer = all.0; says = all.1 }
