-- `sample::ends_of_three` meets its contract. The loop's invariant: the first k ends are 3, 6, 9 and so on.
-- Assumes nothing.
use Prim.Native.Nat.{◌+◌, ◌*◌}
use mathlib.Core.Path.{refl}
use native.Mathlib.Omega.{arith}
use lib.ListN.{length-set}
use Rattle.sample.specs.Sample.{ends_for}
use Rattle.cycles.proofs.States.{tab_is}
use Rattle.sample.proofs.Fills.{fill_one}
use Rattle.sample.proofs.ends_of_three.Goals as goal

pub loop-k-preserved : goal.loop-k-preserved
loop-k-preserved c =
    let l = c.loop-k in (simp length-set l.invariant.0, fill_one (λ j. 3 * j + 3) l.end-items l.k _ (omega arith) refl l.invariant.1)

pub returns : goal.returns
unfolding ends_for
returns c = let l = c.loop-k in tab_is 32 (λ j. 3 * j + 3) l.end-items l.invariant.0 (λ j h. l.invariant.1 j (omega arith))
