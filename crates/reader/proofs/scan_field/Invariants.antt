-- `reader::scan_field` meets its contract. The loop's invariant: the value is the number of the bits passed, which the form has.
-- Assumes nothing.
use Prim.Native.Nat.{◌-◌, ◌*◌, ◌<◌, ◌≤◌}
use mathlib.Core.Path.{◌≡◌}
use lib.ListN.{length, take, drop}
use Rattle.reader.specs.Bits.{number, bits_of}
use Rattle.reader.proofs.scan_field.Given as goal

abbrev pub invariant-loop-i : goal.invariant-loop-i
invariant-loop-i l =
    (l.at < l.i → l.i ≤ 8 * length l.form) × (l.value ≡ number (take (l.i - l.at) (drop l.at (bits_of l.form))))
