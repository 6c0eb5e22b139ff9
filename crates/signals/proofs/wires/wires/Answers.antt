-- `signals::wires::wires` meets its contract: what channels show, then sinks, control buffers, and the blocks that do not rest.
-- Assumes nothing.
use Rattle.blocks.specs.States.{reg_in}
use Rattle.ports.specs.Places.{sig_at, ready_at}
use Rattle.rows.specs.Ends.{read, stream_at, mask_at}
use Rattle.signals.proofs.Settled.{taken_all}
use Rattle.signals.proofs.wires.wires.Goals as goal

pub returns-clause-worked : goal.returns-clause-worked
returns-clause-worked c =
    let a = c.args in
    let net = a.laid.now.net.now in
    let W = read a.streams.words in
    let E = read a.streams.ends in
    let xs = stream_at net W E in
    let mask = mask_at net a.offer a.mask in
    let r = reg_in a.state.now in
    let X = sig_at c.shows.new.signals in
    record {
      showing = c.shows.ensures.showing a.mask;
      taking = taken_all net W E a.offer a.mask r X (ready_at c.ready_sinks.new.ready) (ready_at c.backward_kind.new.ready) (ready_at c.backward.new.ready) (c.ready_sinks.ensures xs a.offer r X) (c.backward_kind.ensures xs mask) (c.backward.ensures xs mask);
    }
