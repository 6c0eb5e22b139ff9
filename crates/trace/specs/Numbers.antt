-- Numbers in bytes (document 01, "Runs and the trace"): streams, ends and masks as bytes, 4 to a number, most significant first.
-- Assumes nothing.
use Rattle.std.specs.Prelude.{ℕ, ◌+◌, ◌*◌, List, [], ◌∷◌, ◌++◌}

-- the number that 4 bytes make
abbrev pub four_bytes : ℕ → ℕ → ℕ → ℕ → ℕ
four_bytes a b c d = ((a * 256 + b) * 256 + c) * 256 + d

-- the numbers that bytes make, one after another; a rest of fewer than 4 bytes makes none
unfoldable pub numbers_of : List ℕ → List ℕ
numbers_of (a ∷ b ∷ c ∷ d ∷ l) = four_bytes a b c d ∷ numbers_of l
numbers_of (a ∷ b ∷ c ∷ []) = []
numbers_of (a ∷ b ∷ []) = []
numbers_of (a ∷ []) = []
numbers_of [] = []

-- numbers that are given as bytes and then as a list: callers give one of the two and leave the other empty
abbrev pub given : List ℕ → List ℕ → List ℕ
given bytes list = numbers_of bytes ++ list
