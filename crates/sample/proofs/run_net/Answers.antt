-- `sample::run_net` meets its contract: the words, ends and masks that it gives to `run` are those of the sample run.
-- Assumes nothing.
use mathlib.Core.Path.{sym, ap, ap₂, ◌∙◌}
use native.Mathlib.Omega.{arith}
use lib.ListN.{length, take}
use lib.Seq.{length-take-le}
use Rattle.nets.specs.Net.{kind_count}
use Rattle.sim.specs.declared.Fresh.{Fresh}
use Rattle.sample.proofs.Giving.{few_sources, length-ends, ends-front, run_is, trace_is}
use Rattle.sample.proofs.run_net.Goals as goal

pub slice_bounds-ends-end : goal.slice_bounds-ends-end
slice_bounds-ends-end c =
    omega (arith, c.count_sources-k.ensures, few_sources _ c.requires, ap length c.ends_of_three-ends.ensures, length-ends 32)

pub slice_bounds-run-end-2 : goal.slice_bounds-run-end-2
slice_bounds-run-end-2 c = sym (length-take-le _ _ (omega (arith, c.count_sources-k.ensures, few_sources _ c.requires, ap length c.ends_of_three-ends.ensures, length-ends 32)))

pub returns : goal.returns
returns c =
    let net = c.args.net in
    let state_is = ap (λ (f : Fresh). f.state) c.fresh-fresh.ensures in
    let ends-are = ap₂ take c.count_sources-k.ensures c.ends_of_three-ends.ensures ∙ ends-front (kind_count net 0) 32 (few_sources net c.requires) in
    let words_are = c.one_two_three-words.ensures in
    record {
      value = run_is net _ _ _ state_is words_are ends-are _ _ c.run.ensures.value;
      trace_after = trace_is net _ _ _ state_is words_are ends-are _ _ c.run.ensures.trace_after;
    }
