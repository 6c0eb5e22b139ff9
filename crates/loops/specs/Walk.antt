-- Walks along channels from block to block, and loops: document 01, "Blocks and ports": "A loop is a closed walk along channels from block to block; one
-- block joined to itself is a loop."
-- Assumes nothing.
use Rattle.std.specs.Prelude.{◌≡◌, List, [], ◌∷◌, ◌⊎◌, ℕ}

-- the channels of the list lead from block a to block b; S c a b says that channel c leads from a to b
abbrev pub Walk : (ℕ → ℕ → ℕ → Type 0) → ℕ → List ℕ → ℕ → Type 0
Walk S a [] b = a ≡ b
Walk S a (c ∷ cs) b = (x : ℕ) × S c a x × Walk S x cs b

-- a loop: a walk along at least one channel that ends at the block where it begins
pub record Loop (S : ℕ → ℕ → ℕ → Type 0) : Type 0 where
  pub start : ℕ
  pub first : ℕ
  pub rest : List ℕ
  pub closed : Walk S start (first ∷ rest) start

-- block x is on the walk: one of its channels leaves x
abbrev pub On : (S : ℕ → ℕ → ℕ → Type 0) (cs : List ℕ) (a b : ℕ) → Walk S a cs b → ℕ → Type 0
On S [] a b w x = ⊥
On S (c ∷ cs) a b w x = (x ≡ a) ⊎ On S cs w.0 b w.2 x

-- a loop on which every block has the property P
pub record LoopOf (S : ℕ → ℕ → ℕ → Type 0) (P : ℕ → Type 0) : Type 0 where
  pub loop : Loop S
  pub all : (x : ℕ) → On S (loop.first ∷ loop.rest) loop.start loop.start loop.closed x → P x
