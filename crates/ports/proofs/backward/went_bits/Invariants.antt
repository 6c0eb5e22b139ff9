-- `ports::backward::went_bits` meets its contract: ports are met from the last to the first; the loop's invariant is that went has the bits from port i on. It stops at 2.
-- Assumes nothing.
use Rattle.std.proofs.Common.{◌≡◌, Bool, ℕ, ◌+◌, ◌-◌, ◌≤◌}
use Rattle.blocks.specs.Folds.{bits}
use Rattle.ports.specs.Worked.{went_at}
use Rattle.ports.proofs.backward.went_bits.Given as goal

-- r has the bits of f below n from bit i on
abbrev pub From : (ℕ → Bool) → ℕ → ℕ → ℕ → Type 0
From f n i r = r ≡ bits (λ k. f (i + k)) (n - i)

abbrev pub invariant-loop-i : goal.invariant-loop-i
invariant-loop-i l = (2 ≤ l.i) × From (went_at l.first l.at.block.now l.signals l.ready) l.n l.i l.went
