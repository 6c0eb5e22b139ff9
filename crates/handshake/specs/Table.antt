-- A channel, cycle by cycle, as the standard's section 5 draws it: a table with the rows data, valid and ready, and a column for each cycle.
-- Assumes nothing.
use Rattle.std.specs.Prelude.{ℕ, ◌≤◌, ◌<◌, ◌≡◌, Bool, true, false, cond, not, ◌&&◌, eqb}
use mathlib.Core.List.{List, [], ◌∷◌, ◌++◌, Memᴰ}
use Rattle.std.proofs.Math.Option.{some}
use Rattle.std.proofs.Math.ListN.{get_elem?}
use Rattle.blocks.specs.declared.Net.{Net}
use Rattle.cycles.specs.Streams.{ends_fit}
use Rattle.cycles.specs.Cycle.{Signals, signals_of}
use Rattle.cycles.specs.State.{regs_of}
use Rattle.blocks.specs.declared.State.{State}
use Rattle.queue.specs.Delivered.{Input, step_on}

pub record Column : Type 0 where
  pub word : ℕ
  pub valid : Bool
  pub ready : Bool

abbrev pub column_of : Signals → ℕ → Column
column_of g c = record { word = (g.shows c).word; valid = (g.shows c).valid; ready = g.ready c }

-- what channel c shows in a cycle from state s
abbrev pub column_at : Net → State → Input → ℕ → Column
column_at net s n c = column_of (signals_of net n.words n.ends n.offer n.ready (regs_of s)) c

-- Steps one after another from state s: a column for each that is not refused.
abbrev pub table_from : Bool → Net → State → List Input → ℕ → List Column
table_from ok net s [] c = []
table_from ok net s (n ∷ ns) c = cond (eqb (step_on ok net s n).refusal 0) (column_at net s n c ∷ []) [] ++ table_from ok net (step_on ok net s n).state ns c

-- all over one set of streams, but for steps whose ends earn 14
abbrev pub Over : Net → List ℕ → List ℕ → List Input → Type 0
Over net words ends ns = (n : Input) → Memᴰ n ns → ends_fit net n.words n.ends ≡ true → (n.words ≡ words) × (n.ends ≡ ends)

-- "token-transfer cycles"
abbrev pub delivers : Column → Bool
delivers k = k.valid && k.ready

-- "observing the data values on a port in cycles where both valid and ready were true"
abbrev pub observed : List Column → List ℕ
observed [] = []
observed (k ∷ ks) = cond (delivers k) (k.word ∷ []) [] ++ observed ks

-- "once valid has been asserted, it must stay asserted until the next cycle in which ready is asserted", with the same word: where column p is valid and no column
-- from p on and before q delivers, column q, whether it delivers or not, is valid with the word of column p.
abbrev pub StaysUntilReady : List Column → Type 0
StaysUntilReady t =
    (p q : ℕ) (a b : Column) → p ≤ q → get_elem? t p ≡ some a → get_elem? t q ≡ some b → a.valid ≡ true
    → ((k : ℕ) (d : Column) → p ≤ k → k < q → get_elem? t k ≡ some d → delivers d ≡ false)
    → (b.valid ≡ true) × (b.word ≡ a.word)

-- the words in the columns in which a word is offered first: valid, where no word waits from the column before
abbrev pub offered_first : Bool → List Column → List ℕ
offered_first waits [] = []
offered_first waits (k ∷ ks) = cond (k.valid && not waits) (k.word ∷ []) [] ++ offered_first (k.valid && not k.ready) ks

-- the word, if any, that waits after the last column; w: the one that waits before the first
abbrev pub still_offered : List ℕ → List Column → List ℕ
still_offered w [] = w
still_offered w (k ∷ ks) = still_offered (cond (k.valid && not k.ready) (k.word ∷ []) []) ks

-- A table follows the protocol, where ws are the words delivered.
pub record Protocol (t : List Column) (ws : List ℕ) : Type 0 where
  -- a word once offered stays, the same, until it is taken
  pub stays : StaysUntilReady t
  -- what is observed in the token-transfer cycles are the words delivered
  pub observes : observed t ≡ ws
  -- the words offered, each once, are the words delivered, then the one that still waits
  pub offers : offered_first false t ≡ ws ++ still_offered [] t
