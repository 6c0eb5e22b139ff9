-- `placements::codes_ok` meets its contract: the count, and the test of each code.
-- Assumes nothing.
use Rattle.std.proofs.Common.{rules, ◌≡◌, ◌≤◌, ◌<◌, ℕ, ◌↔◌, true, length, get_or}
use borrow.Author.Tests.{eq-eqb, ne_eqb}
use Rattle.placements.specs.Calls.{codes_ok}
use Rattle.placements.proofs.Answering.{codes-tested}
use Rattle.placements.proofs.codes_ok.Goals as goal

pub returns-then-codes-channels : goal.returns-then-codes-channels
unfolding codes_ok
returns-then-codes-channels c =
    let codes = c.args.codes.now in
    let e : (c.all.result ≡ true) ↔ ((k : ℕ) → k < length c.args.codes.now → get_or c.args.codes.now k 0 ≤ 3) = search rules in
    rw (eq-eqb (length codes) c.args.channels c.if-codes-channels.true) (codes-tested codes c.all.result e)

pub returns-else-codes-channels : goal.returns-else-codes-channels
unfolding codes_ok
returns-else-codes-channels c = rw (ne_eqb (length c.args.codes.now) c.args.channels c.if-codes-channels.false)
