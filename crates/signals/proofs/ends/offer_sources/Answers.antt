-- `signals::ends::offer_sources` meets its contract: source after source; the loop's invariant is that the first k show what they offer, that their ends are numbers of 32 bits, that start is the end before source k, and that rest is the mask from bit k on.
-- Assumes nothing.
use Rattle.std.proofs.Common.{◌≡◌, ℕ, ◌<◌, ◌%◌, ◌^◌, Bool, sym, subst, ap, ap₂, ◌∙◌, refl, arith, eqb, length, get_or, below_more, eqb-true}
use Rattle.std.proofs.Math.Seq.{slice}
use Rattle.blocks.specs.Folds.{bit}
use Rattle.blocks.specs.Equations.{source_out}
use Rattle.blocks.specs.States.{reg_in}
use Rattle.blocks.specs.declared.Kind.TheVariants.{Source}
use Rattle.blocks.specs.declared.Reg.{Reg}
use Rattle.blocks.proofs.Bits.{bit-zero, bit-rest, rest_half}
use Rattle.ports.specs.Places.{sig_at}
use Rattle.ports.proofs.ByKind.{port_first}
use Rattle.passes.specs.Rows.{block_no, in_no, Listed}
use Rattle.passes.proofs.Listings.{listed_at, listed_once, listed_of}
use Rattle.rows.specs.Ends.{read, stream_no, stream_at, mask_at}
use Rattle.signals.proofs.EndLaws.{sources_apart, source-holds, source-bit, end_next}
use Rattle.signals.proofs.ends.offer_sources.Goals as goal

pub loop-k-preserved : goal.loop-k-preserved
loop-k-preserved c =
    let l = c.loop-k in
    let a = c.args in
    let laid = a.laid.now in
    let net = laid.net.now in
    let W = read a.streams.words in
    let E = read a.streams.ends in
    let list = c.of_kind-list.result.now in
    let at : ℕ → ℕ = λ j. get_or list j 0 in
    let q : Listed net 0 list = listed_of net laid.sorted Source list laid.kinds c.of_kind-list.ensures in
    let here = q.each l.k c.loop-k-test.true in
    let e = c.at-end.ensures in
    let put = c.offer_one.ensures in
    let r : ℕ → Reg = reg_in a.state.now in (
      rest_half l.k a.offer l.rest l.invariant.0,
      e ∙ end_next E l.k,
      below_more (λ j. get_or E j 0 < 2 ^ 32) l.k l.invariant.2 (subst (λ (x : ℕ). x < 2 ^ 32) e (omega arith)),
      below_more (λ j. sig_at c.offer_one.new.signals (in_no net (at j) 0) ≡ source_out (stream_no W E j) (r (at j)) (bit j a.offer)) l.k
          (λ j lj.
          let low : j < length list = omega (arith, c.loop-k-test.true) in
          let there = q.each j low in
          put.others (in_no net (at j) 0)
          (λ o lo z.
          let same : j ≡ l.k = listed_once net 0 list q j l.k low c.loop-k-test.true (sources_apart net laid.rowed (at j) (at l.k) there.0 here.0 (eqb-true _ _ there.1) (eqb-true _ _ here.1)
          (z ∙ sym (port_first (block_no net (at l.k)) 0 o lo))) in omega arith)
          ∙ l.invariant.3 j lj)
          (put.own 0 (omega arith)
          ∙ ap (λ (x : Reg). source_out (slice l.start c.at-end.result W) x (eqb (l.rest % 2) 1)) c.reg.ensures
          ∙ ap₂ (λ (x y : ℕ). source_out (slice x y W) (r (at l.k)) (eqb (l.rest % 2) 1)) l.invariant.1 e
          ∙ ap (source_out (stream_no W E l.k) (r (at l.k))) (sym (bit-zero l.rest) ∙ ap (bit 0) l.invariant.0 ∙ bit-rest l.k a.offer)),
    )

pub returns-clause-offered : goal.returns-clause-offered
returns-clause-offered c ready b lb t =
    let l = c.loop-k in
    let a = c.args in
    let laid = a.laid.now in
    let net = laid.net.now in
    let W = read a.streams.words in
    let E = read a.streams.ends in
    let list = c.of_kind-list.result.now in
    let q : Listed net 0 list = listed_of net laid.sorted Source list laid.kinds c.of_kind-list.ensures in
    let r : ℕ → Reg = reg_in a.state.now in
    let p = listed_at net 0 list q b lb t in
    let k = eqb-true _ _ t in
    source-holds net (stream_at net W E) (mask_at net a.offer ready) r b k (sig_at l.signals)
    (ap (λ (x : ℕ). sig_at l.signals (in_no net x 0)) (sym p.1) ∙ l.invariant.3 _ (omega (arith, p.0))
    ∙ ap₂ (λ (x : ℕ) (v : Bool). source_out (stream_at net W E b) (r x) v) p.1 (sym (source-bit net a.offer ready b _ k refl)))
