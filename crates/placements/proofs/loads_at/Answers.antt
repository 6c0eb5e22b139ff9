-- `placements::loads_at` meets its contract: the codes of k, placed.
-- Assumes nothing.
use mathlib.Core.Path.{◌≡◌, sym, ap, ◌∙◌}
use mathlib.Core.List.{List}
use Prim.Native.Nat.{ℕ, ◌≤◌}
use native.Mathlib.Omega.{arith}
use lib.Dec.{eqb}
use lib.ListN.{take}
use Rattle.stored.specs.Form.{padded}
use Rattle.placements.specs.Calls.{place_number}
use Rattle.placements.specs.Listing.{codes_of}
use Rattle.placements.proofs.Answering.{loads-by}
use Rattle.placements.proofs.Digits.{codes_length}
use Rattle.placements.proofs.Padding.{padded-front}
use Rattle.placements.proofs.loads_at.Goals as goal

-- the front of the array is the codes
front : (n k : ℕ) → n ≤ 6 → (codes : List ℕ) → codes ≡ padded 0 6 (codes_of n k) → take n codes ≡ codes_of n k
front n k few codes are =
    let long = codes_length n k in
    ap (take n) are ∙ ap (λ (m : ℕ). take m (padded 0 6 (codes_of n k))) (sym long) ∙ padded-front 6 (codes_of n k) (omega (arith, long))

pub returns : goal.returns
returns c =
    let a = c.args in
    let n = a.net.channels in
    c.is_ok.ensures.value
    ∙ loads-by a.net (take n c.codes_of-codes.result) c.place_on.result c.place_on.ensures
    ∙ ap (λ (codes : List ℕ). eqb (place_number a.net codes) 0) (front n a.k c.requires.channels_bound c.codes_of-codes.result c.codes_of-codes.ensures)
