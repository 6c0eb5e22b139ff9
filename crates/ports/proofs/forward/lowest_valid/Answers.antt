-- `ports::forward::lowest_valid` meets its contract: the loop's invariant is that no input before i is valid.
-- Assumes nothing.
use Rattle.std.proofs.Common.{◌≡◌, ℕ, Bool, true, sym, ap, ◌∙◌, arith, add-one}
use Rattle.ports.specs.Places.{sig_at}
use Rattle.ports.specs.Worked.{ins_show}
use Rattle.blocks.specs.Signals.{valid_at}
use Rattle.blocks.specs.Equations.{recorded}
use Rattle.blocks.proofs.Folds.{lowest-none, lowest_found}
use Rattle.ports.proofs.forward.lowest_valid.Goals as goal

pub returns-then-signals-place : goal.returns-then-signals-place
returns-then-signals-place c =
    let block = c.args.at.block.now in
    let signals = c.args.signals.now in
    let l = c.loop-i in
    let f : ℕ → Bool = valid_at (ins_show block (sig_at signals)) in
    let here : f l.i ≡ true = ap (λ (k : ℕ). (sig_at signals k).valid) (sym c.place.ensures.0) ∙ c.if-signals-place.true in
    add-one l.i ∙ ap recorded (sym (lowest_found f block.m l.i (omega arith) here l.invariant))

pub returns : goal.returns
returns c =
    let block = c.args.at.block.now in
    let f : ℕ → Bool = valid_at (ins_show block (sig_at c.args.signals.now)) in
    ap recorded (sym (lowest-none f block.m (λ k h. c.loop-i.invariant k (omega arith))))
