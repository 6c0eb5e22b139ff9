-- The placements of a net that load, as numbers: the codes read in base 4 with channel 0 leading (request 3), and what `list` and `list_form` answer.
-- Assumes nothing.
use Rattle.std.specs.Prelude.{ℕ, zero, suc, ◌+◌, ◌*◌, ◌/◌, ◌%◌, ◌^◌, Bool, cond, List, [], ◌∷◌, ◌++◌, leb, eqb, length, replicate}
use Rattle.blocks.specs.declared.Net.{Net}
use Rattle.nets.proofs.Decided.{verdict_of}
use Rattle.stored.specs.Form.{padded, Outcome, loaded, denied, parse}
use Rattle.placements.specs.Calls.{form_number, value_number, place_number}
use Rattle.placements.specs.declared.Listing.{Listing}

-- the codes as a number
abbrev pub value_of : List ℕ → ℕ
value_of [] = 0
value_of (k ∷ ks) = k * 4 ^ length ks + value_of ks

-- the last n digits of a number as codes
abbrev pub codes_of : ℕ → ℕ → List ℕ
codes_of zero k = []
codes_of (suc n) k = (k / 4 ^ n) % 4 ∷ codes_of n k

-- the numbers below n that pass, ascending
unfoldable pub kept : (ℕ → Bool) → ℕ → List ℕ
kept f zero = []
kept f (suc n) = kept f n ++ cond (f n) (n ∷ []) []

-- the placement with number k loads, where the base net passes
abbrev pub loads : Net → ℕ → Bool
loads net k = eqb (place_number net (codes_of net.channels k)) 0

-- "every placement .. whose result loads, each exactly once and no other, read as a number in base 4 with channel 0 leading, ascending"
unfoldable pub listing : Net → List ℕ
listing net = kept (loads net) (4 ^ net.channels)

-- ## The answers

-- 4,096 numbers, 0 beyond the count; the number of channels says how many digits each has
abbrev pub listed : ℕ → List ℕ → Listing
listed channels ks = record { refusal = 0; channels = channels; count = length ks; numbers = padded 0 4096 ks }

-- a refused list has nothing
abbrev pub unlisted : ℕ → Listing
unlisted e = record { refusal = e; channels = 0; count = 0; numbers = replicate 4096 0 }

-- "20 when the lister is given over 6 channels .. after the base net", which earns the number base
unfoldable pub list_by : ℕ → Net → Listing
list_by base net = cond (eqb base 0) (cond (leb net.channels 6) (listed net.channels (listing net)) (unlisted 20)) (unlisted base)

-- over what reading a form found
abbrev pub list_read : Outcome → Listing
list_read (denied e) = unlisted e
list_read (loaded net) = list_by (form_number (verdict_of net)) net

abbrev pub list_of : Net → Listing
list_of net = list_by (value_number (verdict_of net)) net

abbrev pub list_form_of : List ℕ → Listing
list_form_of f = list_read (parse f)

-- ## A line

-- "it prints the codes as digits, a line each": the digit 0 is byte 48, and byte 10 ends the line
abbrev pub digits_of : List ℕ → List ℕ
digits_of [] = []
digits_of (k ∷ ks) = (48 + k) ∷ digits_of ks

abbrev pub line_of : ℕ → ℕ → List ℕ
line_of channels k = digits_of (codes_of channels k) ++ 10 ∷ []
