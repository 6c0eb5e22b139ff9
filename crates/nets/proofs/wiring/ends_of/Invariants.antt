-- `nets::wiring::ends_of` meets its contract. The loop's invariant: the blocks before `i` are entered.
-- Assumes nothing.
use Prim.Native.Nat.{◌*◌}
use Rattle.nets.specs.Ends.{Entries}
use Rattle.nets.proofs.wiring.ends_of.Given as goal

abbrev pub invariant-loop-i : goal.invariant-loop-i
invariant-loop-i l = Entries l.net l.side l.table (l.i * 10)
