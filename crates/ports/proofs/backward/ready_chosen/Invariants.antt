-- `ports::backward::ready_chosen` meets its contract: port after port is put; the loop's invariant is that with the two before it the first i are.
-- Assumes nothing.
use Rattle.std.proofs.Common.{ℕ, ◌+◌, Bool, ◌&&◌, eqb}
use Rattle.blocks.specs.declared.Block.{Block}
use Rattle.ports.specs.Places.{ready_at, port_at, Put}
use Rattle.ports.proofs.backward.ready_chosen.Given as goal

-- the first i of the inputs from port `first` on have been put
abbrev pub InputsPut : Block → ℕ → Bool → ℕ → ℕ → (ℕ → Bool) → (ℕ → Bool) → Type 0
InputsPut block first go chosen i before after = Put (λ j. port_at block (first + j)) (λ j. go && eqb j chosen) i before after

abbrev pub invariant-loop-i : goal.invariant-loop-i
invariant-loop-i l =
    (f : ℕ → Bool) → InputsPut l.at.block.now l.first l.go l.chosen 2 f (ready_at l.initial.ready) → InputsPut l.at.block.now l.first l.go l.chosen l.i f (ready_at l.ready)
