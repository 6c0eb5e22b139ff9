-- `whemdrosk::run_bytes` meets its contract: length after length, then the run over the numbers.
use mathlib.Core.Path.{◌∙◌}
use native.Mathlib.Omega.{arith}
use Rattle.whemdrosk.proofs.Answers.{over-words, over-ends, over-before, over-15, over-run, fields-small}
use Rattle.whemdrosk.proofs.run_bytes.Goals as goal
use Rattle.whemdrosk.proofs.run_bytes.Goals.{then-words-ne0-via-then-words-ne0, then-words-ne0-via-else-words-ne0+then-ends-ne0}

pub returns-then-words-ne0 : goal.returns-then-words-ne0
returns-then-words-ne0 c =
    let a = c.args in
    elim c.then-words-ne0.branch [
      | then-words-ne0-via-then-words-ne0 w ↦
          let o = over-words a.net a.words.now a.ends.now a.masks.now a.trace.now (λ z. omega (arith, w.if-words-ne0.true, z)) in
          record { value = c.refused.ensures ∙ o.0; trace_after = o.1 }
      | then-words-ne0-via-else-words-ne0+then-ends-ne0 w ↦
          let o = over-ends a.net a.words.now a.ends.now a.masks.now a.trace.now (λ z. omega (arith, w.if-ends-ne0.true, z)) in
          record { value = c.refused.ensures ∙ o.0; trace_after = o.1 }
    ]

pub returns-then-ran-ne0 : goal.returns-then-ran-ne0
returns-then-ran-ne0 c =
    let a = c.args in
    let f = c.fresh-begun in
    let t = c.run_given-ran in
    let w = c.of_bytes-words.ensures in
    let e = c.of_bytes-ends.ensures in
    let m = c.of_bytes-lent.ensures in
    let none = c.whole.ensures.no (λ z. omega (arith, c.if-masks-ne0.true, z)) in
    let value = rw (w.bytes, w.list, e.bytes, e.list, m.bytes, m.list, none) at t.ensures.value in
    let after = rw (w.bytes, w.list, e.bytes, e.list, m.bytes, m.list, none) at t.ensures.trace_after in
    let o = over-before a.net a.words.now a.ends.now a.masks.now a.trace.now
    (omega (arith, c.if-words-ne0.false))
    (omega (arith, c.if-ends-ne0.false))
    f.result f.ensures t.result _
    (λ z. omega (arith, c.if-masks-ne0.true, z)) (value, after) c.if-ran-ne0.true in
    record {
      value = c.packed.ensures ∙ o.0;
      trace_after = o.1;
    }

pub returns-then-masks-ne0 : goal.returns-then-masks-ne0
returns-then-masks-ne0 c =
    let a = c.args in
    let f = c.fresh-begun in
    let t = c.run_given-ran in
    let w = c.of_bytes-words.ensures in
    let e = c.of_bytes-ends.ensures in
    let m = c.of_bytes-lent.ensures in
    let none = c.whole.ensures.no (λ z. omega (arith, c.if-masks-ne0.true, z)) in
    let value = rw (w.bytes, w.list, e.bytes, e.list, m.bytes, m.list, none) at t.ensures.value in
    let after = rw (w.bytes, w.list, e.bytes, e.list, m.bytes, m.list, none) at t.ensures.trace_after in
    let o = over-15 a.net a.words.now a.ends.now a.masks.now a.trace.now
    (omega (arith, c.if-words-ne0.false))
    (omega (arith, c.if-ends-ne0.false))
    f.result f.ensures t.result _
    (λ z. omega (arith, c.if-masks-ne0.true, z)) (value, after) c.if-ran-ne0.false in
    record {
      value = c.refused-then-masks-ne0.ensures ∙ o.0;
      trace_after = o.1;
    }

pub packed-requires-2 : goal.packed-requires-2
packed-requires-2 c =
    let a = c.args in
    let f = c.fresh-begun in
    let t = c.run_given-ran in
    let w = c.of_bytes-words.ensures in
    let e = c.of_bytes-ends.ensures in
    let m = c.of_bytes-lent.ensures in
    let all = c.whole.ensures.yes (omega (arith, c.if-masks-ne0.false)) in
    let value = rw (w.bytes, w.list, e.bytes, e.list, m.bytes, m.list, all) at t.ensures.value in
    let after = rw (w.bytes, w.list, e.bytes, e.list, m.bytes, m.list, all) at t.ensures.trace_after in
    fields-small a.net a.words.now a.ends.now a.masks.now a.trace.now
    (omega (arith, c.if-words-ne0.false))
    (omega (arith, c.if-ends-ne0.false))
    f.result f.ensures t.result _
    (omega (arith, c.if-masks-ne0.false)) (value, after)

pub returns : goal.returns
returns c =
    let a = c.args in
    let f = c.fresh-begun in
    let t = c.run_given-ran in
    let w = c.of_bytes-words.ensures in
    let e = c.of_bytes-ends.ensures in
    let m = c.of_bytes-lent.ensures in
    let all = c.whole.ensures.yes (omega (arith, c.if-masks-ne0.false)) in
    let value = rw (w.bytes, w.list, e.bytes, e.list, m.bytes, m.list, all) at t.ensures.value in
    let after = rw (w.bytes, w.list, e.bytes, e.list, m.bytes, m.list, all) at t.ensures.trace_after in
    let o = over-run a.net a.words.now a.ends.now a.masks.now a.trace.now
    (omega (arith, c.if-words-ne0.false))
    (omega (arith, c.if-ends-ne0.false))
    f.result f.ensures t.result _
    (omega (arith, c.if-masks-ne0.false)) (value, after) in
    record {
      value = c.packed-2.ensures ∙ o.0;
      trace_after = o.1;
    }
