-- `forms::put::put_ports` meets its contract. The loop's invariant: the bits of the first i ports are written over the buffer's bits, and the buffer's length
-- is kept.
-- Assumes nothing.
use Prim.Native.Nat.{◌+◌, ◌*◌, ◌≤◌}
use native.Mathlib.Omega.{arith}
use mathlib.Core.Path.{refl, ◌∙◌, ap}
use mathlib.Core.List.{List}
use mathlib.Core.Bool.{Bool}
use lib.ListN.{length, get_or}
use borrow.Author.Rules.{rules}
use Rattle.reader.specs.Bits.{bits, bits_of}
use Rattle.reader.proofs.Bits.{length_bits_of}
use Rattle.forms.specs.Over.{over}
use Rattle.stored.specs.Form.{put_many}
use Rattle.forms.proofs.Writes.{over_nil, ports_more}
use Rattle.forms.proofs.put.put_ports.Goals as goal

pub loop-i-init : goal.loop-i-init
unfolding put_many
loop-i-init c =
    (refl, over_nil (bits_of c.args.buf.now) c.args.start)

pub loop-i-preserved : goal.loop-i-preserved
loop-i-preserved c =
    let a = c.args in
    let l = c.loop-i in
    let p = c.put_field in
    let inside : a.start + 7 * l.i + 7 ≤ length (bits_of a.buf.now) = rw length_bits_of (omega arith) in (
      p.auto.buf ∙ l.invariant.0,
      p.ensures
          ∙ ap (λ (b : List Bool). over b (a.start + 7 * l.i) (bits 7 (get_or a.ports.now l.i 0))) l.invariant.1
          ∙ ports_more (bits_of a.buf.now) a.start a.ports.now l.i (search rules) inside,
    )
