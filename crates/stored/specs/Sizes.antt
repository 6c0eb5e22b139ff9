-- What every value of the calls' types has, since the types have it: a `&[u8]` holds bytes; a `Net` has 64 blocks, each with 10 ports and a value of 32 bits.
-- No contract needs to say it. A theorem over the definitions does, whose lists and numbers have no bound.
-- Assumes nothing.
use Rattle.std.specs.Prelude.{◌≡◌, List, [], ◌∷◌, ℕ, ◌^◌, ◌<◌, length}
use Rattle.blocks.specs.declared.Block.{Block}
use Rattle.blocks.specs.declared.Net.{Net}

-- each element of a list has a property
abbrev pub All : {A : Type 0} → (A → Type 0) → List A → Type 0
All P [] = Unit {0}
All P (a ∷ xs) = P a × All P xs

abbrev pub AreBytes : List ℕ → Type 0
AreBytes = All (λ b. b < 256)

pub record SizedBlock (b : Block) : Type 0 where
  pub value : b.value < 2 ^ 32
  pub ports : length b.ports ≡ 10

pub record Sized (n : Net) : Type 0 where
  pub blocks : length n.blocks ≡ 64
  pub each : All SizedBlock n.blocks
