-- `placed::count_added` meets its contract: the sum of what each code adds.
-- Assumes nothing.
use Rattle.std.proofs.Common.{rules, ◌≡◌, ◌∙◌, sum_by}
use Rattle.placed.specs.Placed.{buffers_of}
use Rattle.placed.proofs.Codes.{sum-added}
use Rattle.placed.proofs.count_added.Goals as goal

pub returns : goal.returns
returns c =
    let e : c.sum.result ≡ sum_by buffers_of c.args.codes.now = search rules in
    e ∙ sum-added c.args.codes.now
