-- A list has at most 6 channels, and no more numbers than it has room for (`list-small`, placements/proofs/Listings.antt).
-- Assumes nothing.
use Rattle.std.proofs.Common.{arith, subst, sym, ◌≡◌, List, ℕ}
use Rattle.placements.specs.declared.Listing.{Listing}
use Rattle.placements.specs.Listing.{list_form_of}
use Rattle.placements.specs.Claims.{Small}
use Rattle.placements.proofs.Listings.{list-small}
use Rattle.netplace.proofs.print_list.Goals as goal

small : (form : List ℕ) (l : Listing) → l ≡ list_form_of form → Small l
small form l e = subst Small (sym e) (list-small form)

pub print_lines-requires : goal.print_lines-requires
print_lines-requires g c = (small c.args.form.now c.list_form-list.result c.list_form-list.ensures).digits

pub shared_ref_as_front-listed : goal.shared_ref_as_front-listed
shared_ref_as_front-listed g c =
    let few = small c.args.form.now c.list_form-list.result c.list_form-list.ensures in
    omega (arith, few.few, few.room)
