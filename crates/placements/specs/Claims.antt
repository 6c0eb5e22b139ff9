-- What is claimed of the four calls (request 3); proofs/Theorems.antt and proofs/Listings.antt prove each. That placements deliver the same words is claimed in `claims`.
-- Assumes nothing.
use Rattle.std.specs.Prelude.{ℕ, ◌+◌, ◌≤◌, ◌<◌, ◌≡◌, true, ◌≢◌, ◌↔◌, length, get_or, take}
use mathlib.Core.List.{List, Memᴰ}
use Rattle.nets.specs.Verdict.{Joined, VerdictIs, Accepted}
use Rattle.blocks.specs.declared.Net.{Net}
use Rattle.stored.specs.Form.{padded, loaded, parse}
use Rattle.placed.specs.Placed.{placed}
use Rattle.placed.specs.Claims.{Fitting}
use Rattle.placements.specs.Calls.{codes_ok, place_of, place_form_of}
use Rattle.placements.specs.declared.Listing.{Listing}
use Rattle.placements.specs.Listing.{value_of, codes_of, listing, list_form_of, line_of}

-- ## One placement

-- A net value earns 12 exactly where it fails a check before those for loops, whatever the codes; a form never does.
abbrev pub BaseEarns12 : Type 0
BaseEarns12 = (net : Net) (codes : List ℕ) → ((place_of net codes).refusal ≡ 12) ↔ (Joined net → ⊥)

abbrev pub FormNever12 : Type 0
FormNever12 = (f codes : List ℕ) → (place_form_of f codes).refusal ≢ 12

-- what a placement that loads has passed, and the net that it gives
pub record Loads (net : Net) (codes : List ℕ) : Type 0 where
  pub base : Joined net
  pub codes_good : codes_ok net.channels codes ≡ true
  pub fits : Fitting net codes
  pub accepts : VerdictIs (placed net codes) Accepted
  pub gives : (place_of net codes).net ≡ placed net codes

abbrev pub PlacedLoads : Type 0
PlacedLoads = (net : Net) (codes : List ℕ) → (place_of net codes).refusal ≡ 0 → Loads net codes

-- and one that passes all that is not refused
abbrev pub LoadsPlaced : Type 0
LoadsPlaced =
    (net : Net) (codes : List ℕ) → Joined net → codes_ok net.channels codes ≡ true → Fitting net codes → VerdictIs (placed net codes) Accepted
    → (place_of net codes).refusal ≡ 0

-- A form whose net passes is placed as that net is.
abbrev pub FormPlaced : Type 0
FormPlaced = (f : List ℕ) (net : Net) (codes : List ℕ) → parse f ≡ loaded net → Joined net → place_form_of f codes ≡ place_of net codes

-- ## The list

-- "every placement .. whose result loads": of a base net that passes, a placement loads exactly where its number is listed.
abbrev pub ListedExactly : Type 0
ListedExactly =
    (net : Net) (codes : List ℕ) → Joined net → codes_ok net.channels codes ≡ true → ((place_of net codes).refusal ≡ 0) ↔ Memᴰ (value_of codes) (listing net)

-- "and no other": every number in the list is that of codes whose placement loads
abbrev pub ListedOnly : Type 0
ListedOnly =
    (net : Net) (k : ℕ) → Joined net → Memᴰ k (listing net) → (value_of (codes_of net.channels k) ≡ k) × ((place_of net (codes_of net.channels k)).refusal ≡ 0)

-- "each exactly once .. ascending"
abbrev pub Ascends : List ℕ → Type 0
Ascends xs = (i : ℕ) → i + 1 < length xs → get_or xs i 0 < get_or xs (i + 1) 0

abbrev pub ListedAscending : Type 0
ListedAscending = (net : Net) → Ascends (listing net)

-- A list counts at most 4,096 numbers, each of at most 6 digits, and has room for so many.
pub record Small (l : Listing) : Type 0 where
  pub digits : l.channels ≤ 6
  pub few : l.count ≤ 4096
  pub room : length l.numbers ≡ 4096

abbrev pub ListSmall : Type 0
ListSmall = (f : List ℕ) → Small (list_form_of f)

-- Of the seven bytes that `line_of` answers, the first ones, as many as there are digits and one more, are the line.
abbrev pub LineIs : Type 0
LineIs = (channels k : ℕ) → channels ≤ 6 → take (channels + 1) (padded 0 7 (line_of channels k)) ≡ line_of channels k
