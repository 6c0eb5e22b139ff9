-- `rows::flat::pick` meets its contract: place after place; the loop's invariant is that the list has those of the first i places that do not rest.
-- Assumes nothing.
use Rattle.std.proofs.Common.{◌≡◌, ap, not, arith}
use Rattle.blocks.proofs.Bits.{one_below}
use Rattle.passes.specs.Rows.{blocks_in}
use Rattle.rows.specs.Flat.{rests_by}
use Rattle.rows.proofs.Picks.{picking_none, picking_more, picking_all}
use Rattle.rows.proofs.flat.pick.Goals as goal

pub loop-i-init : goal.loop-i-init
loop-i-init c = (omega arith, picking_none c.args.net.now (rests_by c.args.control) c.args.order.now)

pub loop-i-preserved : goal.loop-i-preserved
loop-i-preserved c =
    let l = c.loop-i in
    let net = c.args.net.now in
    let rests = rests_by c.args.control in
    let order = c.args.order.now in (
      omega (arith, c.put.ensures.count, one_below (not c.rests.result)),
      rw c.put.ensures.list (picking_more net rests order l.i (blocks_in l.picked) l.invariant.1 c.loop-i-test.true (not c.rests.result) (ap not c.rests.ensures)),
    )

pub returns-clause-along : goal.returns-clause-along
returns-clause-along c =
    let l = c.loop-i in
    let net = c.args.net.now in
    let all : l.i ≡ net.size = omega arith in
    picking_all net (rests_by c.args.control) c.args.order.now (blocks_in l.picked) (rw all at l.invariant.1)
