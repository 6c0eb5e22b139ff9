-- `compare::gathering::has_room` meets its contract: there are no more words than records.
-- Assumes nothing.
use mathlib.Core.Path.{sym, ap, ◌∙◌}
use Prim.Native.Nat.{ℕ}
use native.Mathlib.Omega.{arith}
use borrow.Author.Tests.{le-leb}
use lib.Dec.{leb}
use Rattle.recorded.specs.Recorded.{records_read}
use Rattle.recorded.proofs.Reading.{length_read}
use Rattle.compare.proofs.Words.{words-few}
use Rattle.compare.proofs.gathering.has_room.Goals as goal

pub returns-then-n-room : goal.returns-then-n-room
returns-then-n-room c =
    let given = c.args in
    le-leb given.n given.room c.if-n-room.true
    ∙ sym (le-leb _ given.room
    (omega (arith, words-few given.channel (records_read given.trace.now), length_read given.trace.now, c.requires, c.if-n-room.true)))

pub returns-else-n-room : goal.returns-else-n-room
returns-else-n-room c = ap (λ (k : ℕ). leb k c.args.room) c.count_on.ensures
