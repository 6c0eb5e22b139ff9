-- One block's firing in the queue machine (document 01, "The queue machine"): what it takes from its inputs and puts on its outputs.
-- Assumes nothing.
use Rattle.std.specs.Prelude.{ℕ, zero, suc, cond, List, [], ◌∷◌, ◌==◌}
use Rattle.std.proofs.Math.Option.{Option, none, some}
use Rattle.std.proofs.Math.ListN.{get_elem?}
use Rattle.blocks.specs.Kinds.{Kind, source, sink, operator, constant, fork, mux, demux, merge, buffer, control, unused}
use Rattle.blocks.specs.Words.{operate, reach, merge_input}

-- first o, then f of what it holds
infixl 20 ◌then◌
abbrev pub ◌then◌ : {A B : Type 0} → Option A → (A → Option B) → Option B
none then f = none
(some a) then f = f a

-- what one firing does: words taken from each input, words put on each output
pub record Turn : Type 0 where
  pub takes : ℕ → ℕ
  pub gives : ℕ → List ℕ

-- one word from every input, and w on every output
abbrev pub each : ℕ → Turn
each w = record { takes = λ i. 1; gives = λ j. w ∷ [] }

-- one word from every input, and nothing put
abbrev pub swallow : Turn
swallow = record { takes = λ i. 1; gives = λ j. [] }

-- one word from the select and from data input s, which is input suc s, and w on the output
abbrev pub picks : ℕ → ℕ → ℕ
picks s zero = 1
picks s (suc i) = cond (i == s) 1 0

abbrev pub choose : ℕ → ℕ → Turn
choose s w = record { takes = picks s; gives = λ j. w ∷ [] }

-- one word from every input, and w on output s
abbrev pub send : ℕ → ℕ → Turn
send s w = record { takes = λ i. 1; gives = λ j. cond (j == s) (w ∷ []) [] }

-- one word from input s; w on the data side, which is output 0, and s on the report side
abbrev pub sides : ℕ → ℕ → ℕ → List ℕ
sides s w zero = w ∷ []
sides s w (suc j) = s ∷ []

abbrev pub join : ℕ → ℕ → Turn
join s w = record { takes = λ i. picks s (suc i); gives = sides s w }

-- Firing number k of a block, from the first words f of its inputs' queues; none where it can't fire. A merge is a mux that takes choice k of its list, where a mux
-- takes a word from its select; a choice that names no input can't fire.
abbrev pub turn : Kind → ℕ → (ℕ → Option ℕ) → Option Turn
turn (source xs) k f = get_elem? xs k then λ w. some (each w)
turn sink k f = f 0 then λ w. some swallow
turn (operator o) k f = f 0 then λ a. f 1 then λ b. some (each (operate o a b))
turn (constant o c) k f = f 0 then λ a. some (each (operate o a c))
turn (fork m) k f = f 0 then λ a. some (each a)
turn (mux m) k f = f 0 then λ s. reach m s then λ t. f (suc t) then λ a. some (choose t a)
turn (demux m) k f = f 0 then λ s. reach m s then λ t. f 1 then λ a. some (send t a)
turn (merge m cs) k f = get_elem? cs k then λ s. merge_input m s then f then λ a. some (join s a)
turn (buffer o) k f = f 0 then λ a. some (each a)
turn control k f = f 0 then λ a. some (each a)
turn unused k f = none

-- the words that a block has put on its output at the start
abbrev pub first : Kind → List ℕ
first (source xs) = []
first sink = []
first (operator o) = []
first (constant o c) = []
first (fork m) = []
first (mux m) = []
first (demux m) = []
first (merge m cs) = []
first (buffer none) = []
first (buffer (some w)) = w ∷ []
first control = []
first unused = []
