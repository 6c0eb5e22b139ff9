-- `placements::listed` meets its contract: number after number; the loop's invariant is that the numbers below k that load are kept.
-- Assumes nothing.
use Rattle.placements.specs.Listing.{loads}
use Rattle.placements.proofs.Listings.{Kept}
use Rattle.placements.proofs.listed.Given as goal

abbrev pub invariant-loop-k : goal.invariant-loop-k
invariant-loop-k l = Kept (loads l.net) l.k l.count l.numbers
