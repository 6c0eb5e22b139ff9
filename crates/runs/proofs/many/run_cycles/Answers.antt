-- `runs::many::run_cycles` meets its contract: cycle after cycle; the loop's invariant is that the state is the run's after i cycles, and that the trace has the run's records.
-- Assumes nothing.
use Rattle.std.proofs.Common.{◌≡◌, refl, arith}
use Rattle.nets.proofs.Decided.{accepted_true}
use Rattle.nets.proofs.Nets.{channels-high}
use Rattle.sim.proofs.Answers.{passed}
use Rattle.sim.proofs.Results.{shaped_of}
use Rattle.runs.proofs.GoingLaws.{going_begins, going_more, full_answer, full_trace, answer-done, trace-done}
use Rattle.runs.proofs.many.run_cycles.Goals as goal

pub loop-i-init : goal.loop-i-init
loop-i-init c = going_begins _ _ _ _ _ _ (passed _ _ _ _ c.requires.given.tested).0

pub cycle-went-requires-clause-shaped : goal.cycle-went-requires-clause-shaped
cycle-went-requires-clause-shaped c = shaped_of c.args.laid.now.net.now c.loop-i.state c.args.laid.now.rowed.few c.loop-i.invariant.shape

pub cycle-went-requires-clause-channels_bound : goal.cycle-went-requires-clause-channels_bound
cycle-went-requires-clause-channels_bound c = channels-high _ (accepted_true _ c.requires.net_value).0.fields

pub returns-in-None : goal.returns-in-None
returns-in-None c =
    let a = c.args in
    let l = c.loop-i in
    let fit = (passed _ _ _ _ c.requires.given.tested).1 in
    let G = l.invariant in
    let full = c.in-None.ensures.fact in
    record {
      value = full_answer _ c.requires.net_value _ _ _ _ fit _ _ _ _ _ G (omega (arith, G.counted)) _ _ c.at-offer.ensures c.at-ready.ensures _ _ c.cycle-went.ensures.worked _ c.loop-i-test.true _ _ full _
          refl;
      trace_after = full_trace _ c.requires.net_value _ _ _ _ fit _ _ _ _ _ G (omega (arith, G.counted)) _ _ c.at-offer.ensures c.at-ready.ensures _ _ c.cycle-went.ensures.worked _ c.loop-i-test.true _ _
          full;
    }

pub loop-i-preserved : goal.loop-i-preserved
loop-i-preserved c =
    let G = c.loop-i.invariant in
    let fit = (passed _ _ _ _ c.requires.given.tested).1 in
    going_more _ c.requires.net_value _ _ _ _ fit _ _ _ _ _ G (omega (arith, G.counted)) _ _ c.at-offer.ensures c.at-ready.ensures _ _ c.cycle-went.ensures.worked _ _ _ c.in-Some.ensures.fact

pub returns : goal.returns
returns c =
    let G = c.loop-i.invariant in
    let all : c.loop-i.i ≡ c.args.n = omega arith in
    record {
      value = answer-done _ _ _ _ _ _ _ _ _ _ G _ all _ (rw all refl);
      trace_after = trace-done _ _ _ _ _ _ _ _ _ _ G _ all;
    }
