-- `rows::checks::shape_ok` meets its contract: entry after entry; the loop's invariant is that those before b are in shape.
-- Assumes nothing.
use Rattle.std.proofs.Common.{◌≡◌, sym, ◌∙◌, false, arith, leb, le-leb}
use Rattle.std.proofs.lemmas.Bool.{lt-leb}
use Rattle.std.proofs.Math.Bool.{and-false}
use Rattle.blocks.specs.Folds.{all_below}
use Rattle.blocks.proofs.Folds.{all_more, all_fails, all_none, all_less}
use Rattle.cycles.specs.State.{entry_shape, shape_ok}
use Rattle.rows.proofs.checks.shape_ok.Goals as goal

pub returns-then-state-gt-CYCLE_LIMIT : goal.returns-then-state-gt-CYCLE_LIMIT
unfolding shape_ok
returns-then-state-gt-CYCLE_LIMIT c = rw (lt-leb c.args.state.now.count 1048576 c.if-state-gt-CYCLE_LIMIT.true)

pub loop-b-init : goal.loop-b-init
loop-b-init c = all_none _

pub returns-then-not-entry_ok : goal.returns-then-not-entry_ok
unfolding shape_ok
returns-then-not-entry_ok c =
    let state = c.args.state.now in
    let entry = entry_shape c.args.net.now state in
    let no : all_below entry 64 ≡ false = all_fails entry 64 c.loop-b.b (omega arith) (sym c.entry_ok.ensures ∙ c.if-not-entry_ok.true) in
    rw no (sym (and-false (leb state.count 1048576)))

pub loop-b-preserved : goal.loop-b-preserved
loop-b-preserved c = all_more (entry_shape c.args.net.now c.args.state.now) c.loop-b.b c.loop-b.invariant (sym c.entry_ok.ensures ∙ c.if-not-entry_ok.false)

pub returns : goal.returns
unfolding shape_ok
returns c =
    let state = c.args.state.now in
    rw (le-leb state.count 1048576 c.if-state-gt-CYCLE_LIMIT.false, all_less (entry_shape c.args.net.now state) c.loop-b.b 64 (omega arith) c.loop-b.invariant)
