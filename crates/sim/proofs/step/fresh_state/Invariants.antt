-- `sim::step::fresh_state`: the registers of the blocks before b are fresh, and the others zero.
-- Assumes nothing.
use Rattle.std.proofs.Common.{◌≡◌, true, ℕ, ◌<◌, ◌&&◌, cond, ltb, length, get_or}
use Rattle.blocks.specs.Equations.{fresh_reg}
use Rattle.cycles.specs.State.{plain_kind}
use Rattle.sim.proofs.step.fresh_state.Given as goal

abbrev pub invariant-loop-b : goal.invariant-loop-b
invariant-loop-b l =
    (l.state.count ≡ 0) × (length l.state.words ≡ 64) × (length l.state.marks ≡ 64)
    × ((k : ℕ) → k < 64 → get_or l.state.words k 0 ≡ cond (ltb k l.b && true) (fresh_reg (plain_kind l.net k)).word 0)
    × ((k : ℕ) → k < 64 → get_or l.state.marks k 0 ≡ cond (ltb k l.b && true) (fresh_reg (plain_kind l.net k)).marks 0)
