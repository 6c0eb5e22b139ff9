-- What is claimed of a placed net (request 3); proofs/Theorems.antt proves each.
-- Assumes nothing.
use Rattle.std.specs.Prelude.{ℕ, ◌+◌, ◌≤◌, ◌≡◌, ◌⊎◌, List, length, replicate}
use Rattle.nets.specs.Verdict.{number_of, Joined}
use Rattle.blocks.specs.declared.Net.{Net}
use Rattle.nets.proofs.Decided.{verdict_of}
use Rattle.placed.specs.Placed.{placed, added}

-- each buffer is a block more and a channel more
abbrev pub SizesAre : Type 0
SizesAre = (net : Net) (codes : List ℕ) → ((placed net codes).size ≡ net.size + added codes) × ((placed net codes).channels ≡ net.channels + added codes)

-- one code for each channel, and room for all buffers (refusals 18 and 19; what a code above 3 would add is of no account)
pub record Fitting (net : Net) (codes : List ℕ) : Type 0 where
  pub each : length codes ≡ net.channels
  pub blocks_fit : net.size + added codes ≤ 64
  pub channels_fit : net.channels + added codes ≤ 128

-- "The base net is checked for all but its loops": then the placed net passes the same checks, and only its loops are left to judge.
abbrev pub StaysJoined : Type 0
StaysJoined = (net : Net) (codes : List ℕ) → Joined net → Fitting net codes → Joined (placed net codes)

abbrev pub OnlyLoopsLeft : Type 0
OnlyLoopsLeft =
    (net : Net) (codes : List ℕ) → Joined net → Fitting net codes
    → let n = number_of (verdict_of (placed net codes)) in (n ≡ 0) ⊎ ((n ≡ 10) ⊎ (n ≡ 11))

-- Codes that are all 0 place nothing.
abbrev pub NonePlaced : Type 0
NonePlaced = (net : Net) (n : ℕ) → placed net (replicate n 0) ≡ net
