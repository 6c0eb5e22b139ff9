-- `nets::fields::counts_of` meets its contract. The loop's invariant: the blocks before `b` are counted.
-- Assumes nothing.
use Rattle.std.proofs.Common.{◌≡◌, ℕ, ◌<◌, length, get_or}
use Rattle.nets.specs.Block.{ins, outs}
use Rattle.nets.specs.Net.{block_at}
use Rattle.nets.proofs.fields.counts_of.Given as goal

abbrev pub invariant-loop-b : goal.invariant-loop-b
invariant-loop-b l =
    (length l.all ≡ 64)
    × ((k : ℕ) → k < l.b → ((get_or l.all k (record { inputs = 0; outputs = 0 })).inputs ≡ ins (block_at l.net k)) × ((get_or l.all k (record { inputs = 0; outputs = 0 })).outputs ≡ outs (block_at l.net k)))
