-- What the private functions answer of base nets: a base net or the refusal that it earns, and a placement or a list over one.
-- Assumes nothing.
use Rattle.std.specs.Prelude.{◌≡◌, ℕ, List, Result, Ok, Err, MatchResult, IfOk}
use Rattle.blocks.specs.declared.Net.{Net}
use Rattle.blocks.specs.declared.Refusal.{Refusal}
use Rattle.blocks.specs.Refusals.{refusal_number}
use Rattle.nets.proofs.Decided.{verdict_of}
use Rattle.stored.specs.Form.{zero_net, Outcome, loaded, denied}
use Rattle.stored.specs.declared.Loading.{Loading}
use Rattle.placements.specs.Calls.{form_number, place_by}
use Rattle.placements.specs.declared.Listing.{Listing}
use Rattle.placements.specs.Listing.{unlisted, list_by}

-- the answer refuses with the number n, or n is 0
abbrev pub Earns : {A : Type 0} → ℕ → Result A Refusal → Type 0
Earns n r = MatchResult r (λ a. n ≡ 0) (λ e. n ≡ refusal_number e)

-- the answer is the net, or it refuses with the number that the net earns
abbrev pub Based : ℕ → Net → Result Net Refusal → Type 0
Based n net r = MatchResult r (λ m. (n ≡ 0) × (m ≡ net)) (λ e. n ≡ refusal_number e)

-- the same of what reading a form found
abbrev pub BasedOn : Outcome → Result Net Refusal → Type 0
BasedOn (denied e) r = IfOk r (λ m. ⊥) × Earns e r
BasedOn (loaded net) r = Based (form_number (verdict_of net)) net r

-- the placement over a base net that passes, or the base's refusal
abbrev pub place_on : Result Net Refusal → List ℕ → Loading
place_on (Ok net) codes = place_by 0 net codes
place_on (Err e) codes = record { refusal = refusal_number e; net = zero_net }

-- the list
abbrev pub list_on : Result Net Refusal → Listing
list_on (Ok net) = list_by 0 net
list_on (Err e) = unlisted (refusal_number e)
