-- Bits, most significant first (document 01, "The stored form"): the bits of a number, the number that bits make, the bits of a form's bytes, and the field at a bit position.
-- Assumes nothing.
use Rattle.std.specs.Prelude.{ℕ, zero, suc, ◌+◌, ◌*◌, ◌/◌, ◌%◌, ◌^◌, List, [], ◌∷◌, ◌++◌, Bool, true, false, cond, length, get_or, take, drop, leb, eqb, Option, Some, None}

-- a bit as a number
abbrev pub digit : Bool → ℕ
digit true = 1
digit false = 0

abbrev pub odd : ℕ → Bool
odd x = eqb (x % 2) 1

-- the w bits of a number
abbrev pub bits : ℕ → ℕ → List Bool
bits zero v = []
bits (suc w) v = odd (v / 2 ^ w) ∷ bits w (v % 2 ^ w)

-- the number that a list of bits makes
abbrev pub number : List Bool → ℕ
number [] = 0
number (b ∷ l) = digit b * 2 ^ length l + number l

-- the bits of a form's bytes
abbrev pub bits_of : List ℕ → List Bool
bits_of [] = []
bits_of (b ∷ f) = bits 8 b ++ bits_of f

-- bit k of a byte
abbrev pub bit_at : ℕ → ℕ → ℕ
bit_at b k = digit (get_or (bits 8 b) k false)

-- the number that the w bits from bit at on make, none where the bytes end within them
unfoldable pub field_at : List ℕ → ℕ → ℕ → Option ℕ
field_at f at w = cond (leb (at + w) (8 * length f)) (Some (number (take w (drop at (bits_of f))))) None
