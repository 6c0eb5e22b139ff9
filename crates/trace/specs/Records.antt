-- Records of a run (document 01, "Runs and the trace"): each delivery is a 64-bit record of cycle count 25 bits, channel 7, word 32; a cycle's records are in
-- ascending order of channels, and a record is 8 bytes, most significant first.
-- Assumes nothing.
use Rattle.std.specs.Prelude.{ℕ, zero, suc, ◌+◌, ◌*◌, ◌/◌, ◌%◌, ◌^◌, ◌≤◌, ◌≡◌, Bool, false, cond, ◌&&◌, List, [], ◌∷◌, ◌++◌, length, get_or, take}
use Rattle.blocks.specs.declared.Sig.{Sig}

-- the record of a word that channel c delivers in the cycle after `count`
abbrev pub record_of : ℕ → ℕ → ℕ → ℕ
record_of count c w = count * 2 ^ 39 + c * 2 ^ 32 + w

-- the records of a cycle: one for each channel below n that delivers
unfoldable pub records_below : ℕ → (ℕ → Bool) → (ℕ → ℕ) → ℕ → List ℕ
records_below count moves word zero = []
records_below count moves word (suc c) = records_below count moves word c ++ cond (moves c) (record_of count c (word c) ∷ []) []

-- the same where the signals are in arrays: a channel delivers when it is valid and ready
abbrev pub sig_in : List Sig → ℕ → Sig
sig_in signals c = get_or signals c (record { valid = false; word = 0 })

abbrev pub records_of : ℕ → List Sig → List Bool → ℕ → List ℕ
records_of count signals ready n = records_below count (λ c. (sig_in signals c).valid && get_or ready c false) (λ c. (sig_in signals c).word) n

-- the 8 bytes of a record
unfoldable pub bytes_of : ℕ → List ℕ
bytes_of r =
    r / 2 ^ 56 % 256 ∷ r / 2 ^ 48 % 256 ∷ r / 2 ^ 40 % 256 ∷ r / 2 ^ 32 % 256 ∷ r / 2 ^ 24 % 256 ∷ r / 2 ^ 16 % 256 ∷ r / 2 ^ 8 % 256 ∷ r % 256 ∷ []

-- the bytes of records, one record after another
unfoldable pub trace_of : List ℕ → List ℕ
trace_of [] = []
trace_of (r ∷ rs) = bytes_of r ++ trace_of rs

-- the records L of channels below n are the first r entries of an array of 128
pub record Listed (L : List ℕ) (n r : ℕ) (list : List ℕ) : Type 0 where
  pub number : r ≡ length L
  pub front : take r list ≡ L
  pub few : r ≤ n
  pub sized : length list ≡ 128
