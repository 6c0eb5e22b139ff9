-- `ports::backward::gone_with` meets its contract: a copy that has gone is not valid, so marks and delivered bits are set apart.
-- Assumes nothing.
use Rattle.std.proofs.Common.{◌≡◌, ◌+◌, arith}
use Rattle.blocks.specs.Folds.{bit, bits}
use Rattle.blocks.specs.Equations.{done_at}
use Rattle.blocks.proofs.Bits.{quiet, gained-sum, bits_small}
use Rattle.ports.specs.Worked.{went_at}
use Rattle.ports.proofs.backward.gone_with.Goals as goal

pub gain-requires : goal.gain-requires
gain-requires c =
    let a = c.args in
    let went = went_at a.first a.at.block.now a.signals.now a.ready.now in
    let sum : a.marks + bits went a.n ≡ bits (done_at a.marks went) a.n =
    gained-sum a.n a.marks went c.requires.marks_bound (λ i h. quiet (bit i a.marks) _ _ (c.requires.gone_quiet i h)) in
    omega (arith, c.went_bits.ensures, sum, bits_small (done_at a.marks went) a.n 8 c.requires.n_bound)
