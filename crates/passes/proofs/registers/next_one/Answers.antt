-- `passes::registers::next_one` meets its contract: by the kind, what its function of `ports` ensures.
-- Assumes nothing.
use Rattle.std.proofs.Common.{false, inl, inr}
use Rattle.std.proofs.Math.Option.{none, some}
use Rattle.blocks.specs.declared.Kind.TheVariants.{Source, Fork, Merge, Buffer, FullBuffer}
use Rattle.ports.specs.Places.{sig_at, ready_at}
use Rattle.passes.proofs.Arms.{next_arm}
use Rattle.passes.proofs.registers.next_one.Goals as goal

pub returns-in-Source : goal.returns-in-Source
returns-in-Source c xs =
    let a = c.args in
    next_arm a.kind Source c.in-Source.is a.at.block.now c.requires.kind_is false a.reg xs (sig_at a.signals.now) (ready_at a.ready.now) _ (c.next_source.ensures xs)

pub returns-in-Fork : goal.returns-in-Fork
returns-in-Fork c xs =
    let a = c.args in
    next_arm a.kind Fork c.in-Fork.is a.at.block.now c.requires.kind_is false a.reg xs (sig_at a.signals.now) (ready_at a.ready.now) _ (c.next_fork.ensures)

pub returns-in-Merge : goal.returns-in-Merge
returns-in-Merge c xs =
    let a = c.args in
    next_arm a.kind Merge c.in-Merge.is a.at.block.now c.requires.kind_is false a.reg xs (sig_at a.signals.now) (ready_at a.ready.now) _ (c.next_merge.ensures)

pub returns-in-Buffer : goal.returns-in-Buffer
returns-in-Buffer c xs =
    let a = c.args in
    let block = a.at.block.now in
    let s = sig_at a.signals.now in
    let y = ready_at a.ready.now in
    elim c.in-Buffer.is [
      | inl e ↦ next_arm a.kind Buffer e block c.requires.kind_is false a.reg xs s y _ (c.next_data.ensures none)
      | inr e ↦ next_arm a.kind FullBuffer e block c.requires.kind_is false a.reg xs s y _ (c.next_data.ensures (some block.value))
    ]
