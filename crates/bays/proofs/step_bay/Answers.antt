-- `bays::step_bay` meets its contract: the bay's number, the step of its own state, the refusal, the record.
-- Assumes nothing.
use Prim.Native.Nat.{ℕ}
use mathlib.Core.Path.{sym, ap, ◌∙◌}
use borrow.Author.Tests.{le-leb}
use Rattle.bays.specs.Calls.{refused_bay, step_bay}
use Rattle.bays.proofs.Refusals.{bay_refused, bay_served}
use Rattle.bays.proofs.step_bay.Goals as goal

pub returns-then-bay-ge-BAYS : goal.returns-then-bay-ge-BAYS
unfolding step_bay
returns-then-bay-ge-BAYS c = rw (le-leb _ _ c.if-bay-ge-BAYS.true) c.refused_bay.ensures

pub returns-then-refusal-ne0 : goal.returns-then-refusal-ne0
returns-then-refusal-ne0 c =
    let number = c.refusal_bay-refusal.ensures in
    let own = c.step-step in
    let given = c.args in
    c.refused_bay-then-refusal-ne0.ensures ∙ ap (λ (n : ℕ). refused_bay n given.bays) number
    ∙ bay_refused given.net given.bays given.bay given.stream.now given.ends.now given.offer given.ready c.if-bay-ge-BAYS.false own.result own.ensures
    (λ q. c.if-refusal-ne0.true (number ∙ q))

pub returns : goal.returns
returns c =
    let number = c.refusal_bay-refusal.ensures in
    let own = c.step-step in
    let given = c.args in
    c.served_bay.ensures
    ∙ bay_served given.net given.bays given.bay given.stream.now given.ends.now given.offer given.ready c.if-bay-ge-BAYS.false own.result own.ensures
    (sym number ∙ c.if-refusal-ne0.false)
