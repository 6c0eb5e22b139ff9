-- `nets::placing::order_of` meets its contract. The loop's invariant: the order so far is one; the measure is what is left of the blocks, and falls
-- since a sweep that places none ends the loop.
-- Assumes nothing.
use native.Mathlib.Omega.{arith}
use Rattle.nets.proofs.Nets.{size-high}
use Rattle.nets.proofs.Orders.{progress_start, halted, whole, in_order, free-loop}
use Rattle.nets.proofs.placing.order_of.Goals as goal

pub loop-order-init : goal.loop-order-init
loop-order-init c = progress_start _ _ _ (size-high c.args.net.now c.requires.feeds.fields)

pub overflow_cast-net : goal.overflow_cast-net
overflow_cast-net c = omega (arith, size-high c.args.net.now c.requires.feeds.fields)

pub returns-then-order-before : goal.returns-then-order-before
returns-then-order-before c =
    free-loop c.args.net.now c.args.control c.args.producer.now c.requires.feeds.fields c.requires.feeds.producers
    (halted _ _ _ _ _ c.loop-order-test.true c.if-order-before.true c.sweep.ensures)

pub returns : goal.returns
returns c =
    in_order c.args.net.now c.args.control c.args.producer.now c.requires.feeds.fields c.requires.feeds.producers _
    (whole _ _ _ _ c.loop-order-test.false c.loop-order.invariant)
