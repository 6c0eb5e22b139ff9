-- `nets::placing::order_of` meets its contract. The loop's invariant: the order so far is one; the measure is what is left of the blocks, and falls
-- since a sweep that places none ends the loop.
-- Assumes nothing.
use Prim.Native.Nat.{◌-◌}
use Rattle.nets.specs.Order.{Placed}
use Rattle.nets.proofs.placing.order_of.Given as goal

abbrev pub invariant-loop-order : goal.invariant-loop-order
invariant-loop-order l = Placed l.control l.net l.producer l.order

abbrev pub decreases-loop-order : goal.decreases-loop-order
decreases-loop-order l = l.net.size - l.order.count
