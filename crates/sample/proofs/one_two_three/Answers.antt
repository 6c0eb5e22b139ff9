-- `sample::one_two_three` meets its contract. The loop's invariant: the first i words are 1, 2, 3 over and over.
-- Assumes nothing.
use Prim.Native.Nat.{◌+◌, ◌%◌}
use mathlib.Core.Path.{refl}
use native.Mathlib.Omega.{arith}
use lib.ListN.{length-set}
use Rattle.sample.specs.Sample.{sample_words}
use Rattle.cycles.proofs.States.{tab_is}
use Rattle.sample.proofs.Fills.{fill_one}
use Rattle.sample.proofs.one_two_three.Goals as goal

pub loop-i-preserved : goal.loop-i-preserved
loop-i-preserved c =
    let l = c.loop-i in (simp length-set l.invariant.0, fill_one (λ k. k % 3 + 1) l.word-items l.i _ (omega arith) refl l.invariant.1)

pub returns : goal.returns
unfolding sample_words
returns c = let l = c.loop-i in tab_is 96 (λ i. i % 3 + 1) l.word-items l.invariant.0 (λ i h. l.invariant.1 i (omega arith))
