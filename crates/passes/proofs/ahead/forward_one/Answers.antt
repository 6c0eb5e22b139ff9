-- `passes::ahead::forward_one` meets its contract: by the kind, what its function of `ports` ensures.
-- Assumes nothing.
use Rattle.std.proofs.Common.{refl, inl, inr}
use Rattle.std.proofs.Math.Option.{none, some}
use Rattle.passes.proofs.Arms.{ahead_arm}
use Rattle.passes.proofs.ahead.forward_one.Goals as goal

pub returns-in-Operator : goal.returns-in-Operator
returns-in-Operator c xs mask = ahead_arm _ _ c.in-Operator.is _ c.requires.kind_is mask _ xs _ _ refl (c.forward_operator.ensures mask c.args.reg)

pub returns-in-Constant : goal.returns-in-Constant
returns-in-Constant c xs mask = ahead_arm _ _ c.in-Constant.is _ c.requires.kind_is mask _ xs _ _ refl (c.forward_constant.ensures mask c.args.reg)

pub returns-in-Fork : goal.returns-in-Fork
returns-in-Fork c xs mask = ahead_arm _ _ c.in-Fork.is _ c.requires.kind_is mask _ xs _ _ refl (c.forward_fork.ensures mask)

pub returns-in-Mux : goal.returns-in-Mux
returns-in-Mux c xs mask = ahead_arm _ _ c.in-Mux.is _ c.requires.kind_is mask _ xs _ _ refl (c.forward_mux.ensures mask c.args.reg)

pub returns-in-Demux : goal.returns-in-Demux
returns-in-Demux c xs mask = ahead_arm _ _ c.in-Demux.is _ c.requires.kind_is mask _ xs _ _ refl (c.forward_demux.ensures mask c.args.reg)

pub returns-in-Merge : goal.returns-in-Merge
returns-in-Merge c xs mask = ahead_arm _ _ c.in-Merge.is _ c.requires.kind_is mask _ xs _ _ refl (c.forward_merge.ensures mask)

pub returns-in-Control : goal.returns-in-Control
returns-in-Control c xs mask = ahead_arm _ _ c.in-Control.is _ c.requires.kind_is mask _ xs _ _ refl (c.forward_control.ensures mask)

pub returns-in-Buffer : goal.returns-in-Buffer
returns-in-Buffer c xs mask =
    elim c.in-Buffer.is [
      | inl e ↦ ahead_arm _ _ e _ c.requires.kind_is mask _ xs _ _ refl (c.forward_data.ensures none mask)
      | inr e ↦ ahead_arm _ _ e _ c.requires.kind_is mask _ xs _ _ refl (c.forward_data.ensures (some c.args.at.block.now.value) mask)
    ]
