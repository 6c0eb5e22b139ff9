-- `ports::forward::forward_fork` meets its contract: copy after copy is put; the loop's invariant is that the first i are, and that rest is the marks from bit i on.
-- Assumes nothing.
use Rattle.std.proofs.Common.{◌≡◌, ◌/◌, ◌^◌}
use Rattle.ports.proofs.Copies.{CopiesPut}
use Rattle.ports.specs.Places.{sig_at}
use Rattle.ports.proofs.forward.forward_fork.Given as goal

abbrev pub invariant-loop-i : goal.invariant-loop-i
invariant-loop-i l = (l.rest ≡ l.fn.reg.marks / 2 ^ l.i) × CopiesPut l.at.block.now l.fn.reg.marks l.a l.i (sig_at l.fn.signals) (sig_at l.signals)
