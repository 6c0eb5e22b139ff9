-- `forms::put::put_field` meets its contract. The loop's invariant: the first k bits of the field are written over the buffer's bits, and the buffer's length
-- is kept.
-- Assumes nothing.
use Prim.Native.Nat.{◌+◌, ◌-◌, ◌/◌, ◌%◌, ◌^◌, ◌<◌}
use native.Mathlib.Omega.{arith}
use mathlib.Core.Path.{◌≡◌, ◌∙◌, ap}
use mathlib.Core.Bool.{Bool}
use mathlib.Core.List.{List}
use lib.ListN.{length, set}
use borrow.Author.Rules.{rules}
use Rattle.reader.specs.Bits.{odd, bits, bits_of}
use Rattle.reader.proofs.Bits.{length-bits, length_bits_of}
use Rattle.forms.proofs.Storing.{put_more, put_all}
use Rattle.forms.proofs.put.put_field.Goals as goal

pub loop-k-preserved : goal.loop-k-preserved
loop-k-preserved c =
    let a = c.args in
    let l = c.loop-k in
    let p = c.put_bit in
    let inside : a.at + l.k < length (bits_of a.buf.now) = rw length_bits_of (omega arith) in (
      p.auto.buf ∙ l.invariant.0,
      p.ensures
          ∙ ap (λ (b : List Bool). set b (a.at + l.k) (odd (a.value / 2 ^ (a.width - 1 - l.k) % 2))) l.invariant.1
          ∙ put_more (bits_of a.buf.now) a.at a.width a.value l.k inside (search rules),
    )

pub returns : goal.returns
returns c =
    let a = c.args in
    let l = c.loop-k in
    let n : l.k ≡ length (bits a.width a.value) = rw length-bits (omega arith) in
    l.invariant.1 ∙ put_all (bits_of a.buf.now) a.at (bits a.width a.value) l.k n
