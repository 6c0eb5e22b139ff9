-- `runs::many::run_given` meets its contract: by the verdict of the net, and by the tests.
-- Assumes nothing.
use Rattle.std.proofs.Common.{refl, ◌∙◌, arith}
use Rattle.trace.specs.Numbers.{given}
use Rattle.nets.proofs.Decided.{planned_accepted, planned_refused}
use Rattle.sim.proofs.Answers.{passed}
use Rattle.sim.proofs.Results.{given_of}
use Rattle.runs.proofs.RefusalLaws.{run-refused, works_by, earns_12}
use Rattle.runs.proofs.many.run_given.Goals as goal

pub returns-in_default : goal.returns-in_default
returns-in_default c =
    let a = c.args in
    let earned = earns_12 a.net a.state (given a.words.bytes.now a.words.list.now) (given a.ends.bytes.now a.ends.list.now) (given a.masks.bytes.now a.masks.list.now) a.trace.now
    (planned_refused _ _ c.in_default.ensures) in
    let stop = run-refused _ _ _ _ _ a.trace.now 12 earned (λ z. omega (arith, z)) in
    record { value = c.refused.ensures ∙ stop.0; trace_after = stop.1 }

pub cycles_of-requires : goal.cycles_of-requires
cycles_of-requires c = rw c.lay_out-laid.ensures.same_net (planned_accepted _ _ c.in-Ok.ensures)

pub run_cycles-requires : goal.run_cycles-requires
run_cycles-requires c =
    let laid = c.lay_out-laid in
    let counted = c.in-Ok-cycles_of.ensures in
    let ok = passed _ _ _ _ counted.tested in
    record {
      net_value = rw laid.ensures.same_net (planned_accepted _ _ c.in-Ok.ensures);
      given = given_of _ _ _ _ laid.result refl laid.ensures.ordered ok.0 ok.1;
      in_range = counted.in_range;
      masks_len = counted.two_each;
    }

pub returns-in-Ok-cycles_of : goal.returns-in-Ok-cycles_of
returns-in-Ok-cycles_of c =
    let same = c.lay_out-laid.ensures.same_net in
    let counted = c.in-Ok-cycles_of.ensures in
    let ran = c.run_cycles.ensures in
    let all = works_by _ _ _ _ _ c.args.trace.now counted.earned _ counted.two_each _ _ ran.value ran.trace_after in
    record { value = rw same at all.0; trace_after = rw same at all.1 }

pub returns-in-Err : goal.returns-in-Err
returns-in-Err c =
    let same = c.lay_out-laid.ensures.same_net in
    let denied = c.in-Err.ensures in
    let stop = run-refused _ _ _ _ _ c.args.trace.now _ denied.earned denied.fails in
    record { value = c.refused-in-Err.ensures ∙ (rw same at stop.0); trace_after = rw same at stop.1 }
