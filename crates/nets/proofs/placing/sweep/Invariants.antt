-- `nets::placing::sweep` meets its contract. The loop's invariant: the blocks before `b` are passed, if nothing was placed.
-- Assumes nothing.
use Rattle.nets.proofs.Orders.{Sweeping}
use Rattle.nets.proofs.placing.sweep.Given as goal

abbrev pub invariant-loop-b : goal.invariant-loop-b
invariant-loop-b l = Sweeping l.control l.net l.producer l.initial.order.count l.b l.order
