-- `blocks::cycle::gain` meets its contract: bits that are set apart add up.
-- Assumes nothing.
use Rattle.std.proofs.Common.{ℕ, ◌+◌, ap, ◌∙◌}
use Rattle.blocks.proofs.Bits.{gained-sum}
use Rattle.blocks.proofs.cycle.gain.Goals as goal

pub returns : goal.returns
returns c n d l e apart = ap (λ (x : ℕ). c.args.marks + x) e ∙ gained-sum n c.args.marks d l apart
