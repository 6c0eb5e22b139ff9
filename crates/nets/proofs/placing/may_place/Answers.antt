-- `nets::placing::may_place` meets its contract. The loop's invariant: the inputs before `j` are fed.
-- Assumes nothing.
use mathlib.Core.Path.{sym, ◌∙◌}
use native.Mathlib.Omega.{arith}
use Rattle.blocks.proofs.Folds.{all_none, all_more}
use Rattle.nets.proofs.Nets.{size-high}
use Rattle.nets.proofs.Orders.{fed-is, within_fed, judged_no, judged_yes, read-in}
use Rattle.nets.proofs.placing.may_place.Goals as goal

pub offset_bounds-net-b : goal.offset_bounds-net-b
offset_bounds-net-b c = omega (arith, size-high c.args.net.now c.requires.feeds.fields)

pub bounds-net-b : goal.bounds-net-b
bounds-net-b c = omega (arith, size-high c.args.net.now c.requires.feeds.fields)

pub bounds-counts-b : goal.bounds-counts-b
bounds-counts-b c = omega (arith, size-high c.args.net.now c.requires.feeds.fields)

pub loop-j-init : goal.loop-j-init
loop-j-init c = all_none _

pub bounds-block-j : goal.bounds-block-j
bounds-block-j c =
    (read-in c.args.net.now c.args.control c.args.producer.now c.requires.feeds.fields c.requires.feeds.producers c.args.b c.requires.b_bound _ (c.requires.counted c.args.b c.requires.b_bound).0 c.loop-j.j c.loop-j-test.true).0

pub bounds-producer-block : goal.bounds-producer-block
bounds-producer-block c =
    (read-in c.args.net.now c.args.control c.args.producer.now c.requires.feeds.fields c.requires.feeds.producers c.args.b c.requires.b_bound _ (c.requires.counted c.args.b c.requires.b_bound).0 c.loop-j.j c.loop-j-test.true).1

pub bounds-places-a : goal.bounds-places-a
bounds-places-a c =
    (read-in c.args.net.now c.args.control c.args.producer.now c.requires.feeds.fields c.requires.feeds.producers c.args.b c.requires.b_bound _ (c.requires.counted c.args.b c.requires.b_bound).0 c.loop-j.j c.loop-j-test.true).2

pub bounds-net-a : goal.bounds-net-a
bounds-net-a c =
    (read-in c.args.net.now c.args.control c.args.producer.now c.requires.feeds.fields c.requires.feeds.producers c.args.b c.requires.b_bound _ (c.requires.counted c.args.b c.requires.b_bound).0 c.loop-j.j c.loop-j-test.true).2

pub returns-then-not-fed : goal.returns-then-not-fed
returns-then-not-fed c =
    judged_no _ _ _ _ _ _ c.loop-j.j (omega (arith, (c.requires.counted c.args.b c.requires.b_bound).0)) (sym
    (fed-is c.args.control c.args.net.now c.args.producer.now c.args.limit c.args.b c.args.places.now c.loop-j.j _ _ c.cut.ensures c.fed.ensures) ∙ c.if-not-fed.true)

pub loop-j-preserved : goal.loop-j-preserved
loop-j-preserved c =
    let a = c.args in
    all_more _ c.loop-j.j c.loop-j.invariant
    (within_fed a.control a.net.now a.producer.now a.limit a.b a.places.now c.loop-j.j (sym
    (fed-is a.control a.net.now a.producer.now a.limit a.b a.places.now c.loop-j.j _ _ c.cut.ensures c.fed.ensures) ∙ c.if-not-fed.false))

pub returns : goal.returns
returns c = judged_yes _ _ _ _ _ _ c.loop-j.j (omega (arith, (c.requires.counted c.args.b c.requires.b_bound).0)) c.loop-j.invariant
