-- `nets::wiring::all_held` meets its contract: the test of the list's elements is that of its indices.
-- Assumes nothing.
use Rattle.std.proofs.Common.{rules, arith, ◌<◌, ℕ, take, ◌↔◌, ◌≢◌, length, get_or}
use Rattle.std.specs.Prelude.{IsTrue}
use Rattle.nets.proofs.EndTables.{all-held}
use Rattle.nets.proofs.wiring.all_held.Goals as goal

pub returns : goal.returns
returns c =
    let e : IsTrue c.all.result
    ↔ ((k : ℕ) → k < length (take c.args.channels c.args.table.now) → get_or (take c.args.channels c.args.table.now) k 0 ≢ 255) = search rules in
    all-held c.args.table.now c.args.channels (omega arith) c.all.result e
