-- `bays::first_wanting` meets its contract: bay after bay from the turn on. The loop's invariant is that no bay asked before wants a cycle.
-- Assumes nothing.
use Rattle.std.proofs.Common.{sym, ap, ◌∙◌, arith}
use Rattle.blocks.proofs.Folds.{lowest_found, lowest-none}
use Rattle.bays.specs.Calls.{wants_at, bay_no, first_wanting}
use Rattle.bays.proofs.first_wanting.Goals as goal

pub returns-then-wants : goal.returns-then-wants
unfolding first_wanting
returns-then-wants c =
    let given = c.args in
    let l = c.loop-i in
    let here = sym c.wants.ensures ∙ c.if-wants.true in
    sym (ap (bay_no given.turn) (lowest_found (wants_at given.turn given.want) 4 l.i (omega arith) here l.invariant))

pub returns : goal.returns
unfolding first_wanting
returns c =
    let given = c.args in
    sym (ap (bay_no given.turn) (lowest-none (wants_at given.turn given.want) 4 (λ j h. c.loop-i.invariant j (omega arith))))
