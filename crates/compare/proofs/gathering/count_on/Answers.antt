-- `compare::gathering::count_on` meets its contract. The loop's invariant: k is the number of the channel's words among the first i records.
-- Assumes nothing.
use Prim.Native.Nat.{◌<◌}
use mathlib.Core.Path.{refl, ap, ◌∙◌}
use native.Mathlib.Omega.{arith}
use borrow.Author.Rules.{rules}
use lib.ListN.{length}
use Rattle.recorded.specs.Recorded.{records_read}
use Rattle.recorded.proofs.Reading.{length_read}
use Rattle.compare.specs.Gather.{words_on}
use Rattle.compare.proofs.Words.{first_all, counted-yes, counted_no}
use Rattle.compare.proofs.gathering.count_on.Goals as goal
use Rattle.compare.proofs.gathering.count_on.Goals.{then-channel_at-channel, else-channel_at-channel}

pub loop-i-init : goal.loop-i-init
unfolding words_on
loop-i-init c = record { few = search rules; number = refl }

pub loop-i-preserved : goal.loop-i-preserved
loop-i-preserved c =
    let given = c.args in
    let rs = records_read given.trace.now in
    let here : c.loop-i.i < length rs = omega (arith, length_read given.trace.now) in
    elim c.if-channel_at-channel.branch [
      | then-channel_at-channel w ↦ record {
        few = omega arith;
        number = w.k-is ∙ counted-yes given.channel rs c.loop-i.i here _ _ refl c.channel_at.ensures
            c.loop-i.k c.loop-i.invariant.number w.if-channel_at-channel.true;
      }
      | else-channel_at-channel w ↦ record {
        few = omega arith;
        number = w.k-is ∙ counted_no given.channel rs c.loop-i.i here _ _ refl c.channel_at.ensures
            c.loop-i.k c.loop-i.invariant.number w.if-channel_at-channel.false;
      }
    ]

pub returns : goal.returns
returns c =
    let given = c.args in
    c.loop-i.invariant.number ∙ ap length (first_all given.channel (records_read given.trace.now) c.loop-i.i (omega (arith, length_read given.trace.now)))
