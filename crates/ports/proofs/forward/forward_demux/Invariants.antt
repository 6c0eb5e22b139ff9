-- `ports::forward::forward_demux` meets its contract: output after output is put; the loop's invariant is that the first i are.
-- Assumes nothing.
use Rattle.std.proofs.Common.{◌+◌, eqb}
use Rattle.ports.specs.Places.{sig_at, port_at, Put}
use Rattle.blocks.specs.Equations.{demux_out}
use Rattle.ports.proofs.forward.forward_demux.Given as goal

abbrev pub invariant-loop-i : goal.invariant-loop-i
invariant-loop-i l = Put (λ j. port_at l.at.block.now (2 + j)) (λ j. demux_out l.s l.a (eqb j l.t)) l.i (sig_at l.initial.signals) (sig_at l.signals)
