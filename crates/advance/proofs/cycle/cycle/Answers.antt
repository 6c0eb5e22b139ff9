-- `advance::cycle::cycle` meets its contract: the signals, the records, and where they have room the next registers.
-- Assumes nothing.
use Rattle.std.proofs.Common.{ℕ, ◌+◌, ◌*◌, List, ◌++◌, ap, ap₂, ◌∙◌, arith, drop}
use Rattle.rows.specs.Ends.{read, stream_at, mask_at}
use Rattle.trace.specs.Records.{trace_of}
use Rattle.advance.proofs.cycle.cycle.Goals as goal

pub returns-clause-fact : goal.returns-clause-fact
returns-clause-fact c =
    let a = c.args in
    let net = a.laid.now.net.now in
    let r = c.records-k.ensures in
    let g = c.registers.ensures in
    record {
      room = omega (arith, r.number, c.if-out-k.false);
      answer = r.number;
      count_more = ap (λ (k : ℕ). k + 1) g.kept.same_count;
      inside = g.by_index (stream_at net (read a.streams.words) (read a.streams.ends)) (mask_at net a.offer a.mask);
      beyond = g.by_index_2;
      words_long = omega (arith, g.kept.words_long);
      marks-long = omega (arith, g.kept.marks-long);
      filled = c.write_records.ensures ∙ ap₂ (λ (x : List ℕ) (y : ℕ). trace_of x ++ drop (8 * y) a.out.now) r.front r.number;
    }
