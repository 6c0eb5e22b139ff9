-- `signals::wires::moves_of` meets its contract: channel after channel; the loop's invariant is that those before c are done and the others zero.
-- Assumes nothing.
use Rattle.std.proofs.Common.{◌≡◌, ℕ, ◌<◌, cond, ◌&&◌, ltb, length, get_or}
use Rattle.ports.specs.Places.{sig_at, ready_at}
use Rattle.signals.proofs.wires.moves_of.Given as goal

abbrev pub invariant-loop-c : goal.invariant-loop-c
invariant-loop-c l =
    (length l.delivered ≡ 128) × (length l.words ≡ 128)
    × ((k : ℕ) → k < 128 → get_or l.delivered k 0 ≡ cond (ltb k l.c && ((sig_at l.signals k).valid && ready_at l.ready k)) 1 0)
    × ((k : ℕ) → k < 128 → get_or l.words k 0 ≡ cond (ltb k l.c && ((sig_at l.signals k).valid && ready_at l.ready k)) (sig_at l.signals k).word 0)
