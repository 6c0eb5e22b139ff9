-- `rows::flat::lay_out` meets its contract: what the passes need follows from the promises of the plan.
-- Assumes nothing.
use Rattle.std.proofs.Common.{◌≡◌, ◌<◌, refl, arith}
use Rattle.std.proofs.Math.ListN.{replicate}
use Rattle.nets.proofs.Nets.{size-high, m-ok}
use Rattle.passes.specs.Rows.{kind_no}
use Rattle.rows.proofs.Lists.{sorting_none, sorting_more, sorting_all, kind-small}
use Rattle.rows.proofs.Accepted.{rowed, ahead_of, back-of}
use Rattle.rows.proofs.flat.lay_out.Goals as goal

pub loop-b-init : goal.loop-b-init
loop-b-init c = sorting_none c.args.net.now (record { count = 0; blocks = replicate 64 0 }) refl

pub bounds-net-b : goal.bounds-net-b
bounds-net-b c = omega (arith, size-high c.args.net.now c.requires.fields)

pub bounds-sorted-kind : goal.bounds-sorted-kind
bounds-sorted-kind c = kind-small _ _ (m-ok c.args.net.now c.requires.fields c.loop-b.b c.loop-b-test.true)

pub put-requires : goal.put-requires
put-requires c =
    let net = c.args.net.now in
    let l = c.loop-b in
    let low : kind_no net l.b < 11 = kind-small _ _ (m-ok net c.requires.fields l.b c.loop-b-test.true) in
    omega (arith, size-high net c.requires.fields, l.invariant.few (kind_no net l.b) low)

pub loop-b-preserved : goal.loop-b-preserved
loop-b-preserved c =
    let l = c.loop-b in
    let net = c.args.net.now in
    sorting_more net l.b l.sorted.by_kind c.put.new.self (kind-small _ _ (m-ok net c.requires.fields l.b c.loop-b-test.true)) l.invariant c.put.ensures.count c.put.ensures.list

pub pick-requires-clause-rowed : goal.pick-requires-clause-rowed
pick-requires-clause-rowed c = rowed c.args.net.now c.requires.fields c.requires.joins

pub pick-requires-2-clause-rowed : goal.pick-requires-2-clause-rowed
pick-requires-2-clause-rowed c = rowed c.args.net.now c.requires.fields c.requires.joins

pub invariant_of-result : goal.invariant_of-result
invariant_of-result c =
    record { rowed = rowed c.args.net.now c.requires.fields c.requires.joins; kinds = let all : c.loop-b.b ≡ c.args.net.now.size = omega arith in sorting_all c.args.net.now c.loop-b.sorted.by_kind (size-high c.args.net.now c.requires.fields) (rw all at c.loop-b.invariant); few = (c.pick.ensures.count_bound, c.pick-2.ensures.count_bound) }

pub returns-clause-ordered : goal.returns-clause-ordered
returns-clause-ordered c =
    let p = c.requires in
    record {
      forth = c.pick.ensures.along (ahead_of c.args.net.now p.fields p.joins c.args.plan.now.data p.data_order);
      rear = c.pick-2.ensures.along (back-of c.args.net.now p.fields p.joins c.args.plan.now.control p.control_order);
    }
