-- `placements::numbers::line_of` meets its contract: digit after digit; the loop's invariant is that the line has the digits of the first i codes, and zeros beyond.
-- Assumes nothing.
use mathlib.Core.Path.{◌≡◌}
use lib.ListN.{take}
use Rattle.stored.specs.Form.{padded}
use Rattle.placements.specs.Listing.{codes_of, digits_of}
use Rattle.placements.proofs.numbers.line_of.Given as goal

abbrev pub invariant-loop-i : goal.invariant-loop-i
invariant-loop-i l = l.line ≡ padded 0 7 (digits_of (take l.i (codes_of l.n l.k)))
