-- The history of one block, of any kind, over given lists of words at its inputs: how many words of each input `k` of its firings take, and which words they put on
-- each output (document 001, equation 3: an actor fires, produces, and advances past the tokens that it consumed); and how a block of the circuit stands beside it.
-- Assumes nothing.
use Rattle.std.specs.Prelude.{ℕ, zero, suc, ◌+◌, ◌<◌, ◌≡◌, cond, List, [], ◌∷◌, ◌++◌, length}
use Rattle.std.proofs.Math.Option.{Option, none, some}
use Rattle.std.proofs.Math.ListN.{get_elem?}
use Rattle.blocks.specs.Folds.{one, bit}
use Rattle.blocks.specs.Kinds.{Kind, source, sink, operator, constant, fork, mux, demux, merge, buffer, control, unused}
use Rattle.blocks.specs.Ports.{n_in, n_out}
use Rattle.blocks.specs.Signals.{full}
use Rattle.blocks.specs.Firing.{Turn, turn, first}
use Rattle.blocks.specs.declared.Reg.{Reg}

abbrev pub takes_of : Option Turn → ℕ → ℕ
takes_of none i = 0
takes_of (some t) i = t.takes i

abbrev pub gives_of : Option Turn → ℕ → List ℕ
gives_of none j = []
gives_of (some t) j = t.gives j

-- The words at the front of the inputs, where `p` words of each have been taken.
abbrev pub front : (ℕ → List ℕ) → (ℕ → ℕ) → ℕ → Option ℕ
front ins p i = get_elem? (ins i) (p i)

-- How many words of input `i` are taken after `k` firings.
abbrev pub pos : Kind → (ℕ → List ℕ) → ℕ → ℕ → ℕ
pos K ins zero i = 0
pos K ins (suc k) i = pos K ins k i + takes_of (turn K k (front ins (pos K ins k))) i

-- Firing number `k`, over the input lists.
abbrev pub turn_at : Kind → (ℕ → List ℕ) → ℕ → Option Turn
turn_at K ins k = turn K k (front ins (pos K ins k))

-- Which words stand on output `j` after `k` firings.
abbrev pub got : Kind → (ℕ → List ℕ) → ℕ → ℕ → List ℕ
got K ins zero j = first K
got K ins (suc k) j = got K ins k j ++ gives_of (turn_at K ins k) j

-- ## A block of the circuit

-- the word that a buffer holds, if any
abbrev pub holds : Reg → List ℕ
holds r = cond (full r) (r.word ∷ []) []

-- The words that a block has taken in and not yet given out: none, but for a full buffer's.
abbrev pub inside : Kind → Reg → List ℕ
inside (source xs) r = []
inside sink r = []
inside (operator o) r = []
inside (constant o v) r = []
inside (fork m) r = []
inside (mux m) r = []
inside (demux m) r = []
inside (merge m cs) r = []
inside (buffer o) r = holds r
inside control r = holds r
inside unused r = []

-- How many words have left at output `j` of a word that has not been taken in: none, but for a copy of a fork, or a side of a merge, that has gone.
abbrev pub early : Kind → Reg → ℕ → ℕ
early (source xs) r j = 0
early sink r j = 0
early (operator o) r j = 0
early (constant o v) r j = 0
early (fork m) r j = one (bit j r.marks)
early (mux m) r j = 0
early (demux m) r j = 0
early (merge m cs) r j = one (bit j r.marks)
early (buffer o) r j = 0
early control r j = 0
early unused r j = 0

-- A block with registers `r`, at whose inputs the words `ins` and at whose outputs the words `outs` have been delivered, has done whole firings: they take just the
-- words at its inputs, and all that they give has left at its outputs, but for the word that a buffer holds; and nothing more has left, but for early copies and sides.
pub record WholeFirings (K : Kind) (r : Reg) (ins outs : ℕ → List ℕ) : Type 0 where
  pub firings : ℕ
  pub takes_all : (i : ℕ) → i < n_in K → pos K ins firings i ≡ length (ins i)
  pub gives_all : (j : ℕ) → j < n_out K → (ahead : List ℕ) × (length ahead ≡ early K r j) × (outs j ++ inside K r ≡ got K ins firings j ++ ahead)
