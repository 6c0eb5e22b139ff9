-- `ports::backward::went_bits` meets its contract: ports are met from the last to the first; the loop's invariant is that went has the bits from port i on. It stops at 2.
-- Assumes nothing.
use Rattle.std.proofs.Common.{◌≡◌, refl, ◌∙◌, ℕ, ◌+◌, ◌-◌, ◌*◌, ◌≤◌, ◌<◌, Bool, arith}
use Rattle.blocks.specs.Folds.{one}
use Rattle.blocks.proofs.Bits.{bits-none_yet, bits_one_more, bits_all_met, bits_small}
use Rattle.ports.specs.Worked.{went_at}
use Rattle.ports.proofs.backward.went_bits.Invariants.{From}
use Rattle.ports.proofs.backward.went_bits.Goals as goal

from-small : (f : ℕ → Bool) (n i r : ℕ) → n ≤ 8 → 0 < i → From f n i r → r < 128
from-small f n i r l p e = omega (arith, bits_small (λ k. f (i + k)) (n - i) 7 (omega arith))

-- the bits from port 1 on, by those from port 2 on
from_one : (f : ℕ → Bool) (n i went r : ℕ) → i ≡ 2 → 2 ≤ n → From f n i went → r ≡ one (f 1) + went * 2 → From f n 1 r
from_one f n i went r two l e h = h ∙ bits_one_more f n 2 went (f 1) (omega arith) l (rw two at e) refl

pub loop-i-init : goal.loop-i-init
loop-i-init c = (c.requires.le_n, bits-none_yet (went_at c.args.first c.args.at.block.now c.args.signals.now c.args.ready.now) c.args.n)

pub went_from-went-requires-clause-went_bound : goal.went_from-went-requires-clause-went_bound
went_from-went-requires-clause-went_bound c =
    let a = c.args in
    from-small (went_at a.first a.at.block.now a.signals.now a.ready.now) a.n c.loop-i.i c.loop-i.went c.requires.n_bound (omega arith) c.loop-i.invariant.1

pub loop-i-preserved : goal.loop-i-preserved
loop-i-preserved c =
    let a = c.args in (
      omega arith,
      c.went_from-went.ensures
          ∙ bits_one_more (went_at a.first a.at.block.now a.signals.now a.ready.now) a.n c.loop-i.i c.loop-i.went _ (omega arith) c.loop-i.auto.i c.loop-i.invariant.1 refl,
    )

pub went_from-went-requires-2-clause-went_bound : goal.went_from-went-requires-2-clause-went_bound
went_from-went-requires-2-clause-went_bound c =
    let a = c.args in
    from-small (went_at a.first a.at.block.now a.signals.now a.ready.now) a.n c.loop-i.i c.loop-i.went c.requires.n_bound (omega arith) c.loop-i.invariant.1

pub went_from-requires-clause-went_bound : goal.went_from-requires-clause-went_bound
went_from-requires-clause-went_bound c =
    let a = c.args in
    let f : ℕ → Bool = went_at a.first a.at.block.now a.signals.now a.ready.now in
    from-small f a.n 1 c.went_from-went-2.result c.requires.n_bound (omega arith)
    (from_one f a.n c.loop-i.i c.loop-i.went c.went_from-went-2.result (omega arith) c.requires.le_n c.loop-i.invariant.1 c.went_from-went-2.ensures)

pub returns : goal.returns
returns c =
    let a = c.args in
    let f : ℕ → Bool = went_at a.first a.at.block.now a.signals.now a.ready.now in
    c.went_from.ensures
    ∙ bits_one_more f a.n 1 c.went_from-went-2.result (f 0) (omega arith) (omega arith)
    (from_one f a.n c.loop-i.i c.loop-i.went c.went_from-went-2.result (omega arith) c.requires.le_n c.loop-i.invariant.1 c.went_from-went-2.ensures) refl
    ∙ bits_all_met f a.n 0 refl
