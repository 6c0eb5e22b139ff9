-- `ports::forward::lowest_valid` meets its contract: the loop's invariant is that no input before i is valid.
-- Assumes nothing.
use Rattle.std.proofs.Common.{◌≡◌, ℕ, ◌<◌, false}
use Rattle.ports.specs.Places.{sig_at, port_at}
use Rattle.ports.proofs.forward.lowest_valid.Given as goal

abbrev pub invariant-loop-i : goal.invariant-loop-i
invariant-loop-i l = (k : ℕ) → k < l.i → (sig_at l.signals (port_at l.at.block.now k)).valid ≡ false
