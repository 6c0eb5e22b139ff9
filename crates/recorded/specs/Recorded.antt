-- A trace read back (document 01, "Runs and the trace"): each 8 bytes, most significant first, are a 64-bit record of cycle count 25 bits, channel 7, word 32.
-- Assumes nothing.
use Rattle.std.specs.Prelude.{ℕ, ◌+◌, ◌*◌, ◌/◌, ◌%◌, ◌^◌, Bool, List, [], ◌∷◌, eqb}
use Rattle.trace.specs.Numbers.{numbers_of}

-- the 64-bit numbers that 32-bit numbers make, two to one, upper half first; a last one alone makes none
unfoldable pub paired : List ℕ → List ℕ
paired (a ∷ b ∷ l) = (a * 2 ^ 32 + b) ∷ paired l
paired (a ∷ []) = []
paired [] = []

-- the records that bytes make, one after another; a rest of fewer than 8 bytes makes none
abbrev pub records_read : List ℕ → List ℕ
records_read bytes = paired (numbers_of bytes)

-- the fields of a record
abbrev pub cycle_of : ℕ → ℕ
cycle_of r = r / 2 ^ 39

abbrev pub channel_of : ℕ → ℕ
channel_of r = r / 2 ^ 32 % 128

abbrev pub word_of : ℕ → ℕ
word_of r = r % 2 ^ 32

-- a record of channel c
abbrev pub on : ℕ → ℕ → Bool
on c r = eqb (channel_of r) c
