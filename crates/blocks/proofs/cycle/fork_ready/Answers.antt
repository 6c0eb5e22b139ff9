-- `blocks::cycle::fork_ready` meets its contract: all copies are done exactly where the marks with the delivered bits are 2^n - 1.
-- Assumes nothing.
use Rattle.std.proofs.Common.{ℕ, eqb, ap, ◌∙◌}
use Rattle.blocks.proofs.Bits.{all_bits}
use Rattle.blocks.specs.Equations.{done_at}
use Rattle.blocks.proofs.cycle.fork_ready.Goals as goal

pub returns-then-v : goal.returns-then-v
returns-then-v c marks d e =
    rw c.if-v.true (ap (λ (x : ℕ). eqb x c.all_copies.result) e ∙ all_bits (done_at marks d) c.args.n c.all_copies.result c.all_copies.ensures)
