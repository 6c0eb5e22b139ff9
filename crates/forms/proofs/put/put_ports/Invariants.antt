-- `forms::put::put_ports` meets its contract. The loop's invariant: the bits of the first i ports are written over the buffer's bits, and the buffer's length
-- is kept.
-- Assumes nothing.
use mathlib.Core.Path.{◌≡◌}
use mathlib.Core.List.{[]}
use lib.ListN.{length, take}
use Rattle.reader.specs.Bits.{bits_of}
use Rattle.forms.specs.Over.{over}
use Rattle.stored.specs.Form.{put_field, put_many}
use Rattle.forms.proofs.put.put_ports.Given as goal

abbrev pub invariant-loop-i : goal.invariant-loop-i
invariant-loop-i l =
    (length l.buf ≡ length l.initial.buf) × (bits_of l.buf ≡ over (bits_of l.initial.buf) l.start (put_many (put_field 7) (take l.i l.ports) []))
