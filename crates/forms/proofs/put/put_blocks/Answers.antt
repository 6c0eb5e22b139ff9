-- `forms::put::put_blocks` meets its contract. The loop's invariant: the blocks passed are written over the buffer's bits from bit 32 on, up to the
-- position, and the buffer's length is kept.
-- Assumes nothing.
use Prim.Native.Nat.{ℕ, ◌<◌, ◌≤◌}
use native.Mathlib.Omega.{arith}
use mathlib.Core.Path.{◌≡◌, refl, ◌∙◌, ap}
use mathlib.Core.List.{List, []}
use mathlib.Core.Bool.{Bool}
use lib.ListN.{length}
use borrow.Author.Rules.{rules}
use Rattle.reader.specs.Bits.{bits_of}
use Rattle.reader.proofs.Bits.{length_bits_of}
use Rattle.stored.specs.Form.{put_many, put_block, encode}
use Rattle.forms.specs.Over.{over}
use Rattle.forms.proofs.Writes.{over_nil, up_to, bits_most, met, many-met, turn-bits, turn-room, turn-over}
use Rattle.forms.proofs.put.put_blocks.Goals as goal

pub loop-b-init : goal.loop-b-init
unfolding put_many
loop-b-init c = (refl, search rules, refl, over_nil (bits_of c.args.buf.now) 32)

pub put_block-requires : goal.put_block-requires
put_block-requires c =
    let l = c.loop-b in
    let long : c.args.net.size ≤ length c.args.net.blocks = omega (arith, c.requires.0) in
    let p = c.requires in
    (omega (arith, turn-room c.args.net long l.b-index (omega (arith, many-met c.args.net long)), p.1, l.invariant), omega (arith, many-met c.args.net long, p.0, l.invariant))

pub overflow_add-at : goal.overflow_add-at
overflow_add-at c = omega (arith, c.block_bits-at.ensures, bits_most (met c.args.net c.loop-b.b-index), many-met c.args.net (omega (arith, c.requires.0)), c.requires.0, c.loop-b.invariant)

pub loop-b-preserved : goal.loop-b-preserved
loop-b-preserved c =
    let a = c.args in
    let long : a.net.size ≤ length a.net.blocks = omega (arith, c.requires.0) in
    let l = c.loop-b in
    let w = c.put_block in
    let b = met a.net l.b-index in
    let inside : l.b-index < a.net.size = omega (arith, many-met a.net long) in
    let room : length (encode a.net) ≤ length (bits_of a.buf.now) = rw length_bits_of c.requires.1 in (
      omega (arith, c.block_bits-at.ensures, turn-bits a.net long l.b-index inside, l.invariant),
      omega (arith, c.block_bits-at.ensures, bits_most b, l.invariant),
      w.auto.buf ∙ l.invariant.2,
      w.ensures
          ∙ ap (λ (x : List Bool). over x l.at (put_block b [])) l.invariant.3
          ∙ ap (λ (k : ℕ). over (over (bits_of a.buf.now) 32 (up_to a.net.blocks l.b-index)) k (put_block b [])) l.invariant.0
          ∙ turn-over a.net long l.b-index inside (bits_of a.buf.now) room,
    )

pub returns : goal.returns
returns c =
    let a = c.args in
    let l = c.loop-b in
    let e : l.b-index ≡ a.net.size = omega (arith, many-met a.net (omega (arith, c.requires.0))) in
    l.invariant.3 ∙ ap (λ (k : ℕ). over (bits_of a.buf.now) 32 (up_to a.net.blocks k)) e
