-- A list has at most 6 channels (`list-small`, placements/proofs/Listings.antt), so it has at most 4,096 numbers, each of which fits 16 bits.
-- Assumes nothing.
use Rattle.std.proofs.Common.{arith, subst, sym, ◌≡◌, ◌≤◌, List, ℕ}
use Rattle.placements.specs.declared.Listing.{Listing}
use Rattle.placements.specs.Listing.{list_form_of}
use Rattle.placements.specs.Claims.{Small}
use Rattle.placements.proofs.Digits.{power_small}
use Rattle.placements.proofs.Listings.{list-small}
use Rattle.placetry.proofs.print_all.Goals as goal

digits : (form : List ℕ) (l : Listing) → l ≡ list_form_of form → l.channels ≤ 6
digits form l e = (subst Small (sym e) (list-small form)).digits

pub power-count-requires : goal.power-count-requires
power-count-requires g c = digits c.args.form.now c.list_form-list.result c.list_form-list.ensures

pub loop-k-init : goal.loop-k-init
loop-k-init g c =
    let few = digits c.args.form.now c.list_form-list.result c.list_form-list.ensures in
    (few, omega (arith, c.power-count.ensures, power_small _ few))
