-- `forms::put::put_block` meets its contract: the bits of kind and m, and behind them what follows m.
-- Assumes nothing.
use Prim.Native.Nat.{◌+◌, ◌≤◌}
use native.Mathlib.Omega.{arith}
use mathlib.Core.Path.{◌∙◌, ap}
use mathlib.Core.List.{List, []}
use mathlib.Core.Bool.{Bool}
use lib.ListN.{length}
use borrow.Author.Rules.{rules}
use Rattle.reader.specs.Bits.{bits, bits_of}
use Rattle.reader.proofs.Bits.{length_bits_of}
use Rattle.stored.specs.Form.{put_valued}
use Rattle.forms.specs.Over.{over}
use Rattle.forms.proofs.Writes.{bits-block, over-block}
use Rattle.forms.proofs.put.put_block.Goals as goal

pub put_field-requires : goal.put_field-requires
put_field-requires c = (omega (arith, bits-block c.args.b), search rules, search rules)

pub put_field-requires-2 : goal.put_field-requires-2
put_field-requires-2 c = (omega (arith, bits-block c.args.b, c.put_field.auto.buf), search rules, search rules)

pub put_valued-requires : goal.put_valued-requires
put_valued-requires c =
    (omega (arith, bits-block c.args.b, c.put_field.auto.buf, c.put_field-2.auto.buf), search rules)

pub returns : goal.returns
returns c =
    let a = c.args in
    let b = c.args.b in
    let room : a.at + 8 ≤ length (bits_of a.buf.now) = rw length_bits_of (omega (arith, bits-block b, c.requires)) in
    let two = c.put_field-2.ensures ∙ ap (λ (x : List Bool). over x (a.at + 4) (bits 4 b.m)) c.put_field.ensures in
    c.put_valued.ensures ∙ ap (λ (x : List Bool). over x (a.at + 8) (put_valued b [])) two ∙ over-block (bits_of a.buf.now) a.at b room
