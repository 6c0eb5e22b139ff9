-- `rows::flat::lay_out` meets its contract: block after block is put into its kind's list; the loop's invariant is that the lists have the first b blocks by kind.
-- Assumes nothing.
use Rattle.rows.proofs.Lists.{Sorting}
use Rattle.rows.proofs.flat.lay_out.Given as goal

abbrev pub invariant-loop-b : goal.invariant-loop-b
invariant-loop-b l = Sorting l.net l.b l.sorted.by_kind
