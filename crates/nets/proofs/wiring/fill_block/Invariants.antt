-- `nets::wiring::fill_block` meets its contract. The loop's invariant: the ports on the side before `j` are entered.
-- Assumes nothing.
use Rattle.nets.proofs.EndTables.{Filling}
use Rattle.nets.proofs.wiring.fill_block.Given as goal

abbrev pub invariant-loop-j : goal.invariant-loop-j
invariant-loop-j l = Filling l.net l.side l.table l.i l.j
