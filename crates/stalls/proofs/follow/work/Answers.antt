-- `stalls::follow::work` meets its contract: the signals are those of the cycle that a step would work, and the chain by them is the net's.
-- Assumes nothing.
use Rattle.std.proofs.Common.{◌∙◌}
use Rattle.rows.specs.Ends.{read}
use Rattle.sim.proofs.Answers.{passed}
use Rattle.stalls.proofs.Netted.{wired_of, chain-is}
use Rattle.stalls.proofs.follow.work.Goals as goal

pub invariant_of-seen : goal.invariant_of-seen
invariant_of-seen c =
    record { wired = wired_of c.args.laid.now.net.now c.args.plan.now c.requires.planned.1 c.args.state.now c.requires.given.shaped }

pub returns : goal.returns
returns c =
    let a = c.args in
    let ok = passed _ _ _ _ c.requires.given.tested in
    c.chain_from.ensures
    ∙ chain-is a.laid.now.net.now a.plan.now c.requires.planned.1 a.state.now c.requires.planned.0 c.requires.given.shaped ok.0 (read a.streams.words) (read a.streams.ends) ok.1 a.offer a.ready
    c.wires.new.signals c.wires.new.ready c.wires.ensures.worked a.channel c.requires.channel_lt_channels
