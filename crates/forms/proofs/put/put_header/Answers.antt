-- `forms::put::put_header` meets its contract: four fields, one behind the other.
-- Assumes nothing.
use Prim.Native.Nat.{◌≤◌}
use native.Mathlib.Omega.{arith}
use mathlib.Core.Path.{refl, ◌∙◌, ap}
use mathlib.Core.List.{List}
use mathlib.Core.Bool.{Bool}
use lib.ListN.{length}
use Rattle.reader.specs.Bits.{bits, bits_of}
use Rattle.reader.proofs.Bits.{length_bits_of}
use Rattle.forms.specs.Over.{over}
use Rattle.forms.proofs.Writes.{over-four}
use Rattle.forms.proofs.put.put_header.Goals as goal

pub returns : goal.returns
returns c =
    let a = c.args in
    let two = c.put_field-2.ensures ∙ ap (λ (x : List Bool). over x 4 (bits 12 0)) c.put_field.ensures in
    let three = c.put_field-3.ensures ∙ ap (λ (x : List Bool). over x 16 (bits 8 a.size)) two in
    let room : 24 ≤ length (bits_of a.buf.now) = rw length_bits_of (omega (arith, c.requires)) in
    c.put_field-4.ensures
    ∙ ap (λ (x : List Bool). over x 24 (bits 8 a.channels)) three
    ∙ over-four (bits_of a.buf.now) 0 4 16 24 (bits 4 1) (bits 12 0) (bits 8 a.size) (bits 8 a.channels) refl refl refl room
