-- `bays::next` meets its contract: the mask, the turn, the first bay that wants a cycle, its step.
-- Assumes nothing.
use mathlib.Core.Path.{ap, ◌∙◌}
use native.Mathlib.Omega.{arith}
use Rattle.bays.specs.Calls.{turned_to}
use Rattle.bays.proofs.Turns.{wanting-below, next_none, next_beyond, next_serves}
use Rattle.bays.proofs.next.Goals as goal

pub returns-then-want-eq0 : goal.returns-then-want-eq0
returns-then-want-eq0 c =
    let given = c.args in
    c.no_bay.ensures ∙ next_none given.net given.bays given.stream.now given.ends.now given.masks.now given.want (omega (arith, c.if-want-eq0.true))

pub returns-then-bays-ge-BAYS : goal.returns-then-bays-ge-BAYS
returns-then-bays-ge-BAYS c =
    let given = c.args in
    c.no_bay-then-bays-ge-BAYS.ensures
    ∙ next_beyond given.net given.bays given.stream.now given.ends.now given.masks.now given.want (λ e. c.if-want-eq0.false (omega (arith, e))) c.if-bays-ge-BAYS.true

pub bounds-masks-at : goal.bounds-masks-at
bounds-masks-at c =
    omega (arith, c.first_wanting-bay.ensures, wanting-below _ _ c.if-bays-ge-BAYS.false c.if-want-eq0.false)

pub bounds-masks-at-2 : goal.bounds-masks-at-2
bounds-masks-at-2 c =
    omega (arith, c.first_wanting-bay.ensures, wanting-below _ _ c.if-bays-ge-BAYS.false c.if-want-eq0.false)

pub turned_to-requires : goal.turned_to-requires
turned_to-requires c =
    omega (arith, c.first_wanting-bay.ensures, wanting-below _ _ c.if-bays-ge-BAYS.false c.if-want-eq0.false)

pub returns : goal.returns
returns c =
    let given = c.args in
    c.turned_to.ensures ∙ ap (turned_to c.first_wanting-bay.result) c.step_bay-step.ensures
    ∙ next_serves given.net given.bays given.stream.now given.ends.now given.masks.now given.want c.if-want-eq0.false c.if-bays-ge-BAYS.false c.first_wanting-bay.result
    c.first_wanting-bay.ensures
