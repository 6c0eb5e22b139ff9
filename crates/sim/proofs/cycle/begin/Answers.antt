-- `sim::cycle::begin` meets its contract: what the tests leave is what the signals are worked out from.
-- Assumes nothing.
use Rattle.sim.proofs.Answers.{passed}
use Rattle.sim.proofs.Results.{given_of}
use Rattle.sim.proofs.cycle.begin.Goals as goal

pub returns : goal.returns
returns c =
    let laid = c.lay_out-laid in
    let same = laid.ensures.same_net in
    let ok = passed laid.result.net.now _ _ _ c.in_ok-tested.ensures in
    given_of _ _ _ _ laid.result same laid.ensures.ordered (rw same at ok.0) (rw same at ok.1)
