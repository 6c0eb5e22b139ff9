-- Lines of digits: how long they are, and that the front of the array that holds one is the line; the room of the arrays of a line and of codes.
-- Assumes nothing.
use Prim.Native.Nat.{ℕ, zero, suc, ◌+◌, ◌≤◌, ◌<◌}
use mathlib.Core.Path.{◌≡◌, refl, sym, ap, ◌∙◌}
use mathlib.Core.List.{List, [], ◌∷◌, ◌++◌}
use native.Mathlib.Omega.{arith}
use lib.ListN.{length, get_or, take, length-append}
use Rattle.stored.specs.Form.{padded}
use Rattle.placements.specs.Listing.{codes_of, digits_of, line_of}
use Rattle.placements.specs.Claims.{LineIs}
use Rattle.placements.proofs.Digits.{codes_length}
use Rattle.placements.proofs.Padding.{padded-front, length-padded}

-- the digits of the first codes, one more
pub digits_more : (l : List ℕ) (i : ℕ) → i < length l → digits_of (take (suc i) l) ≡ digits_of (take i l) ++ (48 + get_or l i 0) ∷ []
digits_more [] i h = absurd (omega arith)
digits_more (k ∷ ks) zero h = refl
digits_more (k ∷ ks) (suc i) h = ap (λ (x : List ℕ). (48 + k) ∷ x) (digits_more ks i (omega arith))

pub digits_long : (l : List ℕ) (i : ℕ) → i ≤ length l → length (digits_of (take i l)) ≡ i
digits_long l zero h = refl
digits_long [] (suc i) h = absurd (omega arith)
digits_long (k ∷ ks) (suc i) h = ap suc (digits_long ks i (omega arith))

digits-length : (l : List ℕ) → length (digits_of l) ≡ length l
digits-length [] = refl
digits-length (k ∷ ks) = ap suc (digits-length ks)

pub line_length : (n k : ℕ) → length (line_of n k) ≡ n + 1
line_length n k = length-append (digits_of (codes_of n k)) (10 ∷ []) ∙ ap (λ (m : ℕ). m + 1) (digits-length (codes_of n k) ∙ codes_length n k)

pub line_is : LineIs
line_is n k few =
    let long = line_length n k in
    ap (λ (m : ℕ). take m (padded 0 7 (line_of n k))) (sym long) ∙ padded-front 7 (line_of n k) (omega (arith, long))

-- ## Room

pub line_room : (n k : ℕ) → n ≤ 6 → length (padded 0 7 (line_of n k)) ≡ 7
line_room n k few = length-padded 7 (line_of n k) (omega (arith, line_length n k))

pub codes_room : (n k : ℕ) → n ≤ 6 → length (padded 0 6 (codes_of n k)) ≡ 6
codes_room n k few = length-padded 6 (codes_of n k) (omega (arith, codes_length n k))
