-- `signals::wires::shows` meets its contract: sources, buffers, and the blocks that do not rest, one after the other.
-- Assumes nothing.
use Rattle.std.proofs.Common.{ℕ, ◌<◌, lit<}
use Rattle.blocks.specs.States.{reg_in}
use Rattle.ports.specs.Places.{sig_at}
use Rattle.passes.specs.Pass.{Holds}
use Rattle.passes.specs.Passed.{ahead}
use Rattle.passes.specs.Rows.{in_kind}
use Rattle.rows.specs.Ends.{read, stream_at, mask_at}
use Rattle.signals.proofs.Settled.{shown-all, all_settled}
use Rattle.signals.proofs.wires.shows.Goals as goal

pub returns : goal.returns
returns c =
    let a = c.args in
    let net = a.laid.now.net.now in
    let W = read a.streams.words in
    let E = read a.streams.ends in
    let xs = stream_at net W E in
    let r = reg_in a.state.now in
    let shown : (mask b : ℕ) → b < net.size → Holds (ahead net xs (mask_at net a.offer mask) r b) (sig_at c.forward.new.signals) =
    λ mask. shown-all net W E a.offer mask r (sig_at c.offer_sources.new.signals) (sig_at c.forward_kind.new.signals) (sig_at c.forward_kind-2.new.signals) (sig_at c.forward.new.signals)
    (c.offer_sources.ensures.offered mask) (c.forward_kind.ensures xs (mask_at net a.offer mask)) (c.forward_kind-2.ensures xs (mask_at net a.offer mask)) (c.forward.ensures xs (mask_at net a.offer mask)) in
    record {
      showing = shown;
      all_settled = all_settled net W E a.offer 0 r (in_kind a.laid.now.sorted 0) (a.laid.now.kinds.listed 0 (lit< tt)) c.requires.fitting c.offer_sources.ensures.low_ends c.forward.new.signals (shown 0);
    }
