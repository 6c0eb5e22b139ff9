-- A difference has its place in both lists, as `compare` says.
-- Assumes nothing.
use Rattle.netdiff.proofs.ends.Goals as goal

pub differing-requires : goal.differing-requires
differing-requires c = (c.in-Differ.ensures.says.0, c.in-Differ.ensures.says.1)
