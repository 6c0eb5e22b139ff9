-- `compare::gathering::gathered` meets its contract: whole records, room, then the words.
-- Assumes nothing.
use mathlib.Core.Path.{sym, ap, ◌∙◌}
use Prim.Native.Nat.{ℕ}
use native.Mathlib.Omega.{arith}
use borrow.Author.Tests.{leb-true}
use Rattle.compare.proofs.Answers.{earns_22, earns-23, gathers}
use Rattle.compare.proofs.gathering.gathered.Goals as goal

pub returns-then-size-ne0 : goal.returns-then-size-ne0
returns-then-size-ne0 c =
    let given = c.args in
    let law = earns_22 given.trace.now given.channel given.list.now c.if-size-ne0.true in
    record { answer = law.0; filled = law.1 }

pub returns-then-not-has_room : goal.returns-then-not-has_room
returns-then-not-has_room c =
    let given = c.args in
    let law =
    earns-23 given.trace.now given.channel given.list.now (omega (arith, c.if-size-ne0.false))
    (sym c.has_room.ensures ∙ c.if-not-has_room.true) in
    record { answer = law.0; filled = law.1 }

pub fill-requires : goal.fill-requires
fill-requires c =
    record {
      n_value = omega (arith, c.if-size-ne0.false);
      channel_in_bounds = leb-true _ _ (sym c.has_room.ensures ∙ c.if-not-has_room.false);
    }

pub returns : goal.returns
returns c =
    let given = c.args in
    let law =
    gathers given.trace.now given.channel given.list.now (omega (arith, c.if-size-ne0.false))
    (sym c.has_room.ensures ∙ c.if-not-has_room.false) in
    record {
      answer = ap (λ (k : ℕ). record { refusal = 0; count = k }) c.fill.ensures.count ∙ law.0;
      filled = c.fill.ensures.front ∙ law.1;
    }
