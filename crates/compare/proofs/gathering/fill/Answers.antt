-- `compare::gathering::fill` meets its contract. The loop's invariant: the channel's words among the first i records, k of them, stand at the front of the list, and what follows is
-- as it was.
-- Assumes nothing.
use Prim.Native.Nat.{ℕ, ◌<◌}
use mathlib.Core.Path.{◌≡◌, refl, ap, ◌∙◌}
use mathlib.Core.List.{List}
use native.Mathlib.Omega.{arith}
use lib.ListN.{length}
use Rattle.recorded.specs.Recorded.{records_read}
use Rattle.recorded.proofs.Reading.{length_read}
use Rattle.compare.specs.Gather.{words_on, put_front}
use Rattle.compare.proofs.Words.{first, first_all, filled_none, filled-place, filled-yes, filled-no}
use Rattle.compare.proofs.gathering.fill.Goals as goal
use Rattle.compare.proofs.gathering.fill.Goals.{then-channel_at-channel, else-channel_at-channel}

pub loop-i-init : goal.loop-i-init
loop-i-init c = filled_none _ _ _

pub bounds-list-k : goal.bounds-list-k
bounds-list-k c =
    let given = c.args in
    let here : c.loop-i.i < length (records_read given.trace.now) = omega (arith, length_read given.trace.now, c.requires.n_value) in
    filled-place given.channel (records_read given.trace.now) c.loop-i.i here _ _ refl
    c.channel_at.ensures given.list.now c.loop-i.list c.loop-i.k c.loop-i.invariant c.requires.channel_in_bounds c.if-channel_at-channel.true

pub overflow_add-k : goal.overflow_add-k
overflow_add-k c = omega (arith, c.loop-i.invariant.few)

pub loop-i-preserved : goal.loop-i-preserved
loop-i-preserved c =
    let given = c.args in
    let rs = records_read given.trace.now in
    let here : c.loop-i.i < length rs = omega (arith, length_read given.trace.now, c.requires.n_value) in
    elim c.if-channel_at-channel.branch [
      | then-channel_at-channel w ↦
          rw (w.list-is, w.k-is)
          (filled-yes given.channel rs c.loop-i.i here _ _ refl c.channel_at.ensures
          given.list.now c.loop-i.list c.loop-i.k c.loop-i.invariant c.requires.channel_in_bounds w.if-channel_at-channel.true _ w.word_at.ensures)
      | else-channel_at-channel w ↦
          rw (w.list-is, w.k-is)
          (filled-no given.channel rs c.loop-i.i here _ _ refl c.channel_at.ensures
          given.list.now c.loop-i.list c.loop-i.k c.loop-i.invariant w.if-channel_at-channel.false)
    ]

pub shape_of-list : goal.shape_of-list
shape_of-list c = c.loop-i.invariant.sized

pub returns : goal.returns
returns c =
    let given = c.args in
    let all : first given.channel (records_read given.trace.now) c.loop-i.i ≡ words_on given.channel (records_read given.trace.now) =
    first_all given.channel (records_read given.trace.now) c.loop-i.i (omega (arith, length_read given.trace.now, c.requires.n_value)) in
    record {
      count = c.loop-i.invariant.number ∙ ap length all;
      front = c.loop-i.invariant.front ∙ ap (λ (words : List ℕ). put_front words given.list.now) all;
    }
