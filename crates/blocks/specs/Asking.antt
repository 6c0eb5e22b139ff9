-- Whom a block that is asked hands the question on to, port by port, with no wiring (change request 9, from "A block hands the question" on). The rule is the same for
-- both questions, asking for a missing word and asking for missing readiness.
-- r: the block's registers. x: what its inputs show. v, y: whether its outputs are valid and ready.
-- Assumes nothing.
use Rattle.std.specs.Prelude.{ℕ, zero, suc, Bool, true, not, ◌&&◌, nat_eq}
use Rattle.std.proofs.Math.Option.{Option, none, some}
use Rattle.blocks.specs.Folds.{lowest}
use Rattle.blocks.specs.Kinds.{Kind, source, sink, operator, constant, fork, mux, demux, merge, buffer, control, unused}
use Rattle.blocks.specs.Ports.{n_in, n_out}
use Rattle.blocks.specs.Words.{reach}
use Rattle.blocks.specs.Signals.{named}
use Rattle.blocks.specs.Equations.{winner}
use Rattle.blocks.specs.declared.Sig.{Sig}
use Rattle.blocks.specs.declared.Reg.{Reg}

-- "a mux needs its select and the selected input, a merge its winner"; every other kind needs all its inputs. A merge without a winner needs none.
abbrev pub needs : Kind → Reg → (ℕ → Sig) → ℕ → Bool
needs (source xs) r x i = true
needs sink r x i = true
needs (operator o) r x i = true
needs (constant o c) r x i = true
needs (fork m) r x i = true
needs (mux m) r x zero = true
needs (mux m) r x (suc i) = named (reach m (x 0).word) (nat_eq i)
needs (demux m) r x i = true
needs (merge m cs) r x i = named (winner m x r.word) (nat_eq i)
needs (buffer o) r x i = true
needs control r x i = true
needs unused r x i = true

-- "a demux looks only at its selected output"; every other kind looks at all its outputs
abbrev pub looks : Kind → (ℕ → Sig) → ℕ → Bool
looks (source xs) x j = true
looks sink x j = true
looks (operator o) x j = true
looks (constant o c) x j = true
looks (fork m) x j = true
looks (mux m) x j = true
looks (demux m) x j = named (reach m (x 0).word) (nat_eq j)
looks (merge m cs) x j = true
looks (buffer o) x j = true
looks control x j = true
looks unused x j = true

-- an input "that it needs and that lacks V"
abbrev pub lacks : Kind → Reg → (ℕ → Sig) → ℕ → Bool
lacks K r x i = needs K r x i && not (x i).valid

-- an output that it looks at and "that is V but not R"
abbrev pub holds_up : Kind → (ℕ → Sig) → (ℕ → Bool) → (ℕ → Bool) → ℕ → Bool
holds_up K x v y j = looks K x j && (v j && not (y j))

-- To whom the question is handed on: the channel at an input, that at an output, or nobody.
pub data Handed : Type 0 where
  to_input : ℕ → Handed
  to_output : ℕ → Handed
  to_nobody : Handed

abbrev pub input_else : Option ℕ → Handed → Handed
input_else (some i) h = to_input i
input_else none h = h

abbrev pub output_else : Option ℕ → Handed → Handed
output_else (some j) h = to_output j
output_else none h = h

-- "A block hands the question to its first input, in port order, that it needs and that lacks V." "If none lacks V, it hands it to its first output that is V but not
-- R." Else no rule names a further channel.
unfoldable pub handed : Kind → Reg → (ℕ → Sig) → (ℕ → Bool) → (ℕ → Bool) → Handed
handed K r x v y = input_else (lowest (lacks K r x) (n_in K)) (output_else (lowest (holds_up K x v y) (n_out K)) to_nobody)
