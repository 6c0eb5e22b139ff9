-- `signals::ends::ready_sinks` meets its contract: sink after sink; the loop's invariant is that the first are ready as their bits say, and that rest is the mask from the next one's bit on.
-- Assumes nothing.
use Rattle.std.proofs.Common.{◌≡◌, ℕ, ◌<◌, sym, ap, ◌∙◌, refl, arith, length, get_or, below_more, eqb-true}
use Rattle.blocks.specs.Folds.{bit}
use Rattle.blocks.specs.declared.Kind.TheVariants.{Sink}
use Rattle.blocks.proofs.Bits.{bit-zero, bit-rest, rest_half}
use Rattle.ports.specs.Places.{ready_at}
use Rattle.ports.proofs.ByKind.{port_first}
use Rattle.passes.specs.Rows.{block_no, in_no, Listed}
use Rattle.passes.proofs.Listings.{listed_at, listed_once, listed_of}
use Rattle.rows.specs.Ends.{mask_at}
use Rattle.signals.proofs.EndLaws.{sinks_apart, sink-holds, sink-bit}
use Rattle.signals.proofs.ends.ready_sinks.Goals as goal

pub loop-b-preserved : goal.loop-b-preserved
loop-b-preserved c =
    let l = c.loop-b in
    let laid = c.args.laid.now in
    let net = laid.net.now in
    let list = c.of_kind-list.result.now in
    let at : ℕ → ℕ = λ j. get_or list j 0 in
    let k : Listed net 1 list = listed_of net laid.sorted Sink list laid.kinds c.of_kind-list.ensures in
    let here = k.each l.b-index c.loop-b-test.true in
    let put = c.put_ready.ensures in (
      rest_half l.b-index c.args.mask l.rest l.invariant.0,
      below_more (λ j. ready_at c.put_ready.new.ready (in_no net (at j) 0) ≡ bit j c.args.mask) l.b-index
          (λ j lj.
          let low : j < length list = omega (arith, c.loop-b-test.true) in
          let there = k.each j low in
          put.others (in_no net (at j) 0)
          (λ o lo e.
          let z : j ≡ l.b-index = listed_once net 1 list k j l.b-index low c.loop-b-test.true (sinks_apart net laid.rowed (at j) (at l.b-index) there.0 here.0 (eqb-true _ _ there.1)
          (eqb-true _ _ here.1) (e ∙ sym (port_first (block_no net (at l.b-index)) 0 o lo))) in omega arith)
          ∙ l.invariant.1 j lj)
          (put.own 0 (omega arith) ∙ sym (bit-zero l.rest) ∙ ap (bit 0) l.invariant.0 ∙ bit-rest l.b-index c.args.mask),
    )

pub returns : goal.returns
returns c xs offer r X b lb t =
    let l = c.loop-b in
    let laid = c.args.laid.now in
    let net = laid.net.now in
    let list = c.of_kind-list.result.now in
    let k : Listed net 1 list = listed_of net laid.sorted Sink list laid.kinds c.of_kind-list.ensures in
    let p = listed_at net 1 list k b lb t in
    let e = eqb-true _ _ t in
    sink-holds net xs (mask_at net offer c.args.mask) r b e X (ready_at l.ready)
    (ap (λ (x : ℕ). ready_at l.ready (in_no net x 0)) (sym p.1) ∙ l.invariant.1 _ (omega (arith, p.0)) ∙ sym (sink-bit net offer c.args.mask b _ e refl))
