-- Signals by place, and the places of a block's ports: port i of a block is at the place that the block's entry i names.
-- Assumes nothing.
use Rattle.std.specs.Prelude.{ℕ, ◌<◌, ◌≡◌, Bool, false, List, get_or}
use Rattle.blocks.specs.declared.Block.{Block}
use Rattle.blocks.specs.declared.Sig.{Sig}

-- what place c shows, and whether it is ready
abbrev pub sig_at : List Sig → ℕ → Sig
sig_at signals c = get_or signals c (record { valid = false; word = 0 })

abbrev pub ready_at : List Bool → ℕ → Bool
ready_at ready c = get_or ready c false

abbrev pub port_at : Block → ℕ → ℕ
port_at block i = get_or block.ports i 0

-- the block's ten entries name places below 128
pub record Ported (block : Block) : Type 0 where
  pub small : (i : ℕ) → i < 10 → port_at block i < 128

-- the first n ports are at different places
abbrev pub Apart : (ℕ → ℕ) → ℕ → Type 0
Apart to n = (i j : ℕ) → i < n → j < n → to i ≡ to j → i ≡ j

-- the first n ports have put what `what` says onto their places, and the other places are as before
pub record Put {A : Type 0} (to : ℕ → ℕ) (what : ℕ → A) (n : ℕ) (before after : ℕ → A) : Type 0 where
  pub own : (j : ℕ) → j < n → after (to j) ≡ what j
  pub others : (c : ℕ) → ((j : ℕ) → j < n → c ≡ to j → ⊥) → after c ≡ before c
