-- `stored::read::read_ports` meets its contract. The loop's invariant: the array holds the ports taken so far, padded with zeros, and the taker of all
-- ports gives them in front of what it gives from the position on.
-- Assumes nothing.
use Rattle.std.proofs.Common.{◌≡◌, ℕ, ◌+◌, ◌-◌, ◌*◌, ◌≤◌, List, length, drop}
use Rattle.reader.specs.Bits.{bits_of}
use Rattle.stored.specs.Form.{take_many, take_port, padded}
use Rattle.stored.proofs.Many.{prepend}
use Rattle.stored.proofs.read.read_ports.Given as goal

abbrev pub invariant-loop-i : goal.invariant-loop-i
invariant-loop-i l =
    (l.start + 7 * l.i ≤ 8 * length l.form)
    × ((xs : List ℕ) × (length xs ≡ l.i) × (l.ports ≡ padded 0 10 xs)
    × (take_many (take_port l.channels) l.count (drop l.start (bits_of l.form)) ≡ prepend xs (take_many (take_port l.channels) (l.count - l.i) (drop (l.start + 7 * l.i) (bits_of l.form)))))
