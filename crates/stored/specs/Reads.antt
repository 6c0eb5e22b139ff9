-- What the functions of the loader answer for what a taker finds.
-- Assumes nothing.
use Rattle.std.specs.Prelude.{◌≡◌, ℕ, ◌*◌, ◌≤◌, List, length, drop, Result, MatchResult}
use Rattle.reader.specs.Bits.{bits_of}
use Rattle.reader.specs.declared.Field.{Field}
use Rattle.blocks.specs.Refusals.{refusal_number}
use Rattle.blocks.specs.declared.Block.{Block}
use Rattle.blocks.specs.declared.Net.{Net}
use Rattle.blocks.specs.declared.Refusal.{Refusal}
use Rattle.stored.specs.Form.{Taken, got, refused, and_then, padded, zero_net, Outcome, loaded, denied}
use Rattle.stored.specs.declared.Loading.{Loading}
use Rattle.stored.specs.declared.BlockRead.{BlockRead}

-- a taker took a value of a form's bits, and left those from a position on
pub record Took {A : Type 0} (f : List ℕ) (t : Taken A) (a : A) (end : ℕ) : Type 0 where
  pub taken : t ≡ got a (drop end (bits_of f))
  pub inside : end ≤ 8 * length f

-- the answer is the value that a taker takes, which ends at a position, or why the taker refuses
abbrev pub Takes : {A : Type 0} → List ℕ → Taken A → ℕ → Result A Refusal → Type 0
Takes f t end r = MatchResult r (λ a. Took f t a end) (λ e. t ≡ refused (refusal_number e))

-- the same of an answer that has the position
abbrev pub TakesField : List ℕ → Taken ℕ → Result Field Refusal → Type 0
TakesField f t r = MatchResult r (λ p. Took f t p.value p.end) (λ e. t ≡ refused (refusal_number e))

abbrev pub TakesBlock : List ℕ → Taken Block → Result BlockRead Refusal → Type 0
TakesBlock f t r = MatchResult r (λ p. Took f t p.block p.end) (λ e. t ≡ refused (refusal_number e))

-- ports as a block has them, the rest of its ten 0
unfoldable pub padded_ports : Taken (List ℕ) → Taken (List ℕ)
padded_ports t = and_then t (λ xs r. got (padded 0 10 xs) r)

-- the answer is the net that a form holds, or why the form is refused
abbrev pub Finds : Outcome → Result Net Refusal → Type 0
Finds o r = MatchResult r (λ n. o ≡ loaded n) (λ e. o ≡ denied (refusal_number e))

unfoldable pub net_answer : Outcome → Loading
net_answer (loaded n) = record { refusal = 0; net = n }
net_answer (denied e) = record { refusal = e; net = zero_net }
