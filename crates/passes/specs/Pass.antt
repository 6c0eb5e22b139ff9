-- A pass over a net works out something for every channel, block by block along an order: valid and word forward, ready backward. This page says what a pass
-- is, with no block in it: each block puts what it says onto channels, and what it says depends on channels that it asks.
-- Assumes nothing.
use Rattle.std.specs.Prelude.{◌≡◌, Bool, true, false, ◌⊎◌, ℕ, ◌<◌}
use Rattle.ports.specs.Places.{Put}

-- what a block does in a pass: its port o puts onto channel `to o`, its port p asks channel `from p`
pub record Site (A : Type 0) : Type 0 where
  pub puts : ℕ
  pub to : ℕ → ℕ
  pub asks : ℕ
  pub from : ℕ → ℕ
  pub says : (ℕ → A) → ℕ → A

-- the equation of a block: each channel that it puts onto shows what it says of the channels at its other ports
abbrev pub Holds : {A : Type 0} → Site A → (ℕ → A) → Type 0
Holds s f = (o : ℕ) → o < s.puts → f (s.to o) ≡ s.says (λ p. f (s.from p)) o

-- what it says depends on the ports that it asks, and on no other
abbrev pub Local : {A : Type 0} → Site A → Type 0
Local {A} s = (x y : ℕ → A) → ((p : ℕ) → p < s.asks → x p ≡ y p) → (o : ℕ) → o < s.puts → s.says x o ≡ s.says y o

-- one block is worked out, or left alone where `skip` says so
pub record Turned {A : Type 0} (s : Site A) (skip : Bool) (before after : ℕ → A) : Type 0 where
  pub works : skip ≡ false → Put s.to (s.says (λ p. before (s.from p))) s.puts before after
  pub rests : skip ≡ true → (c : ℕ) → after c ≡ before c

-- n blocks: no two ports put onto one channel
abbrev pub Single : {A : Type 0} → (ℕ → Site A) → ℕ → Type 0
Single site n =
    (a b o p : ℕ) → a < n → b < n → o < (site a).puts → p < (site b).puts → (site a).to o ≡ (site b).to p → (a ≡ b) × (o ≡ p)

-- count blocks in turn, those of n that `Mine` names: each has one place, and what it asks is put by blocks before it
pub record InTurn {A : Type 0} (site : ℕ → Site A) (n : ℕ) (Mine : ℕ → Type 0) (count : ℕ) (at : ℕ → ℕ) : Type 0 where
  pub place : ℕ → ℕ
  pub listed : (k : ℕ) → k < count → (at k < n) × Mine (at k) × (place (at k) ≡ k)
  pub stands : (b : ℕ) → b < n → Mine b → (place b < count) × (at (place b) ≡ b)
  pub before : (a b o p : ℕ) → a < n → b < n → Mine a → Mine b → o < (site a).puts → p < (site b).asks → (site b).from p ≡ (site a).to o → place a < place b

-- before turn i: the blocks that were done before the pass, and those with a place before i, have their equation
abbrev pub Going : {A : Type 0} → (ℕ → Site A) → ℕ → (ℕ → Type 0) → (ℕ → Type 0) → (ℕ → ℕ) → ℕ → (ℕ → A) → Type 0
Going site n Done Mine place i f = (b : ℕ) → b < n → Done b ⊎ (Mine b × (place b < i)) → Holds (site b) f
