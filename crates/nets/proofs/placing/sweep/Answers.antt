-- `nets::placing::sweep` meets its contract. The loop's invariant: the blocks before `b` are passed, if nothing was placed.
-- Assumes nothing.
use native.Mathlib.Omega.{arith}
use Rattle.nets.proofs.Nets.{size-high}
use Rattle.nets.proofs.Orders.{sweeping_start, sweeping_step, sweeping_end}
use Rattle.nets.proofs.placing.sweep.Goals as goal

pub overflow_cast-limit : goal.overflow_cast-limit
overflow_cast-limit c = omega (arith, c.requires.placed.total, size-high c.args.net.now c.requires.feeds.fields)

pub loop-b-init : goal.loop-b-init
loop-b-init c = sweeping_start _ _ _ _ c.requires.placed

pub loop-b-preserved : goal.loop-b-preserved
loop-b-preserved c = sweeping_step _ _ _ _ c.loop-b.b _ _ c.loop-b.invariant c.place_block.ensures

pub returns : goal.returns
returns c = sweeping_end _ _ _ _ c.loop-b.b _ (omega arith) c.loop-b.invariant
