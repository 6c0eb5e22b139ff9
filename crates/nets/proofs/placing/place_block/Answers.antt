-- `nets::placing::place_block` meets its contract: the block has a place already, or an input is not fed, or it is placed.
-- Assumes nothing.
use native.Mathlib.Omega.{arith}
use Rattle.nets.proofs.Nets.{size-high}
use Rattle.nets.proofs.Orders.{reads_of, next-yes, stepped-place, stepped-placed, stepped-waits, room-for}
use Rattle.nets.proofs.placing.place_block.Goals as goal
use Rattle.nets.proofs.placing.place_block.Goals.{else-order-b-eq0-via-then-order-b-eq0+else-may_place, else-order-b-eq0-via-else-order-b-eq0}

pub bounds-order-b : goal.bounds-order-b
bounds-order-b c = omega (arith, size-high c.args.net.now c.requires.feeds.fields)

pub overflow_cast-order : goal.overflow_cast-order
overflow_cast-order c = omega (arith, size-high c.args.net.now c.requires.feeds.fields)

pub bounds-order-order : goal.bounds-order-order
bounds-order-order c =
    room-for _ _ _ c.args.order.now c.requires.feeds.fields _ c.requires.placed c.args.b c.requires.b_bound c.if-order-b-eq0.true c.may_place.ensures c.if-may_place.true

pub overflow_cast-order-then-may_place : goal.overflow_cast-order-then-may_place
overflow_cast-order-then-may_place c =
    omega (
      arith,
      room-for _ _ _ c.args.order.now c.requires.feeds.fields _ c.requires.placed c.args.b c.requires.b_bound c.if-order-b-eq0.true c.may_place.ensures c.if-may_place.true,
    )

pub bounds-order-b-then-may_place : goal.bounds-order-b-then-may_place
bounds-order-b-then-may_place c = omega (arith, size-high c.args.net.now c.requires.feeds.fields)

pub returns-then-may_place : goal.returns-then-may_place
returns-then-may_place c =
    let net = c.args.net.now in
    let reads = reads_of net c.args.control c.args.producer.now c.requires.feeds.fields c.requires.feeds.producers c.args.b c.requires.b_bound in
    stepped-place _ _ _ _ _ _ c.requires.placed (size-high net c.requires.feeds.fields) c.requires.b_bound reads
    (next-yes c.args.control net c.args.producer.now c.args.limit c.args.b c.args.order.now.places _ c.if-order-b-eq0.true c.may_place.ensures c.if-may_place.true)

pub returns-else-order-b-eq0 : goal.returns-else-order-b-eq0
returns-else-order-b-eq0 c =
    let net = c.args.net.now in
    let reads = reads_of net c.args.control c.args.producer.now c.requires.feeds.fields c.requires.feeds.producers c.args.b c.requires.b_bound in
    elim c.else-order-b-eq0.branch [
      | else-order-b-eq0-via-then-order-b-eq0+else-may_place w ↦ stepped-waits _ _ _ _ _ _ c.requires.placed _ reads w.if-order-b-eq0.true w.may_place.ensures w.if-may_place.false
      | else-order-b-eq0-via-else-order-b-eq0 w ↦ stepped-placed _ _ _ _ _ _ c.requires.placed w.if-order-b-eq0.false
    ]
