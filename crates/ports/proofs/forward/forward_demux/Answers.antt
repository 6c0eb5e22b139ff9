-- `ports::forward::forward_demux` meets its contract: output after output is put; the loop's invariant is that the first i are.
-- Assumes nothing.
use Rattle.std.proofs.Common.{arith}
use Rattle.ports.proofs.ByKind.{put_port_more}
use Rattle.ports.proofs.forward.forward_demux.Goals as goal

pub loop-i-preserved : goal.loop-i-preserved
loop-i-preserved c =
    let l = c.loop-i in
    let block = c.args.at.block.now in
    put_port_more block 2 block.m l.i _ _ _ _ c.demux_out.result c.requires.own_outputs (omega arith) l.invariant c.put.ensures c.demux_out.ensures
