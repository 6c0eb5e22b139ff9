-- `nets::fields::block_zero` meets its contract: ten ports are the zeros where each of them is 0.
-- Assumes nothing.
use mathlib.Core.Path.{◌≡◌, ◌∙◌, ap}
use mathlib.Core.Bool.{Bool, ◌&&◌}
use native.Mathlib.Omega.{arith}
use lib.Dec.{eqb}
use lib.ListN.{length}
use Rattle.nets.specs.Net.{block_zero}
use Rattle.nets.proofs.Chains.{zero-ports}
use Rattle.nets.proofs.fields.block_zero.Goals as goal

pub returns : goal.returns
unfolding block_zero
returns c =
    let b = c.args.b in
    let l : length b.ports ≡ 10 = omega arith in
    c.eq.ensures ∙ ap (λ (t : Bool). eqb b.kind 0 && (eqb b.m 0 && (eqb b.value 0 && t))) (zero-ports b.ports l)
