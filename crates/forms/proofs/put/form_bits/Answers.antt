-- `forms::put::form_bits` meets its contract. The loop's invariant: the bits are the header's and those of the blocks passed, at most 110 a block.
-- Assumes nothing.
use Prim.Native.Nat.{ℕ, ◌+◌, ◌≤◌}
use native.Mathlib.Omega.{arith}
use mathlib.Core.Path.{◌≡◌, refl, sym, ◌∙◌, ap}
use lib.ListN.{length}
use borrow.Author.Rules.{rules}
use Rattle.stored.specs.Form.{put_many}
use Rattle.forms.proofs.Writes.{up_to, bits_most, encode-bits, met, many-met, turn-bits}
use Rattle.forms.proofs.put.form_bits.Goals as goal

pub loop-b-init : goal.loop-b-init
unfolding put_many
loop-b-init c = (refl, search rules)

pub overflow_add-bits : goal.overflow_add-bits
overflow_add-bits c = omega (arith, c.block_bits-bits.ensures, bits_most (met c.args.net c.loop-b.b-index), many-met c.args.net (omega (arith, c.requires)), c.requires)

pub loop-b-preserved : goal.loop-b-preserved
loop-b-preserved c =
    let n = c.args.net in
    let long : n.size ≤ length n.blocks = omega (arith, c.requires) in
    let l = c.loop-b in (
      omega (arith, c.block_bits-bits.ensures, turn-bits n long l.b-index (omega (arith, many-met n long))),
      omega (arith, c.block_bits-bits.ensures, bits_most (met n l.b-index)),
    )

pub returns : goal.returns
returns c =
    let n = c.args.net in
    let l = c.loop-b in
    let e : l.b-index ≡ n.size = omega (arith, many-met n (omega (arith, c.requires))) in
    l.invariant.0 ∙ ap (λ (k : ℕ). 32 + length (up_to n.blocks k)) e ∙ sym (encode-bits n)
