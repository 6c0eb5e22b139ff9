-- `passes::back::backward_one` meets its contract: by the kind, what its function of `ports` ensures.
-- Assumes nothing.
use Rattle.std.proofs.Common.{refl, ap, ◌∙◌, inl, inr}
use Rattle.std.proofs.Math.Option.{none, some}
use Rattle.blocks.specs.Numbers.{kind_number}
use Rattle.blocks.specs.declared.Kind.TheVariants.{Operator, Constant, Fork, Mux, Demux, Merge, Buffer, FullBuffer, Control}
use Rattle.ports.specs.Places.{sig_at}
use Rattle.passes.proofs.Arms.{back_arm}
use Rattle.passes.proofs.back.backward_one.Goals as goal

pub returns-in-Operator : goal.returns-in-Operator
returns-in-Operator c xs mask =
    let a = c.args in
    back_arm a.kind Operator c.in-Operator.is a.at.block.now c.requires.kind_is mask a.reg xs (sig_at a.signals.now) _ _ refl (c.backward_operator.ensures mask a.reg)

pub returns-in-Constant : goal.returns-in-Constant
returns-in-Constant c xs mask =
    let a = c.args in
    back_arm a.kind Constant c.in-Constant.is a.at.block.now c.requires.kind_is mask a.reg xs (sig_at a.signals.now) _ _ refl (c.backward_constant.ensures mask a.reg)

pub returns-in-Fork : goal.returns-in-Fork
returns-in-Fork c xs mask =
    let a = c.args in
    let is = c.requires.kind_is ∙ ap kind_number c.in-Fork.is in
    back_arm a.kind Fork c.in-Fork.is a.at.block.now c.requires.kind_is mask a.reg xs (sig_at a.signals.now) _ _ refl (c.backward_fork.ensures mask a.reg (c.requires.settled.fork is))

pub returns-in-Mux : goal.returns-in-Mux
returns-in-Mux c xs mask =
    let a = c.args in
    back_arm a.kind Mux c.in-Mux.is a.at.block.now c.requires.kind_is mask a.reg xs (sig_at a.signals.now) _ _ refl (c.backward_mux.ensures mask a.reg)

pub returns-in-Demux : goal.returns-in-Demux
returns-in-Demux c xs mask =
    let a = c.args in
    back_arm a.kind Demux c.in-Demux.is a.at.block.now c.requires.kind_is mask a.reg xs (sig_at a.signals.now) _ _ refl (c.backward_demux.ensures mask a.reg)

pub returns-in-Merge : goal.returns-in-Merge
returns-in-Merge c xs mask =
    let a = c.args in
    back_arm a.kind Merge c.in-Merge.is a.at.block.now c.requires.kind_is mask a.reg xs (sig_at a.signals.now) _ _ refl (c.backward_merge.ensures mask)

pub returns-in-Buffer : goal.returns-in-Buffer
returns-in-Buffer c xs mask =
    let a = c.args in
    let s = sig_at a.signals.now in
    let block = a.at.block.now in
    elim c.in-Buffer.is [
      | inl e ↦ back_arm a.kind Buffer e block c.requires.kind_is mask a.reg xs s _ _ refl (c.backward_data.ensures none mask s)
      | inr e ↦ back_arm a.kind FullBuffer e block c.requires.kind_is mask a.reg xs s _ _ refl (c.backward_data.ensures (some block.value) mask s)
    ]

pub returns-in-Control : goal.returns-in-Control
returns-in-Control c xs mask =
    let a = c.args in
    back_arm a.kind Control c.in-Control.is a.at.block.now c.requires.kind_is mask a.reg xs (sig_at a.signals.now) _ _ refl (c.backward_control.ensures mask (sig_at a.signals.now))
