-- `stored::read::read_blocks` meets its contract. The loop's invariant: the array holds the blocks taken so far, padded with zero blocks, and the taker of
-- all blocks gives them in front of what it gives from the position on, which is at most 110 bits a block.
-- Assumes nothing.
use Rattle.std.proofs.Common.{ℕ, ◌+◌, ◌-◌, List, [], ◌∷◌, ◌++◌, drop, arith, rules, refl, sym, ap, ◌∙◌, length-append}
use lib.ListN.{set}
use Rattle.std.proofs.lemmas.Result.{err_from_is_err_and}
use Rattle.reader.specs.Bits.{bits_of}
use Rattle.blocks.specs.declared.Block.{Block}
use Rattle.stored.specs.Form.{take_block, padded, zero_block}
use Rattle.stored.proofs.Many.{set-padded, many_start, many_turn, many_stop, many_end}
use Rattle.stored.proofs.Loads.{blocks_refused, blocks_loaded, blocks_followed}
use Rattle.stored.proofs.read.read_blocks.Goals as goal

pub loop-i-init : goal.loop-i-init
unfolding padded
loop-i-init c =
    let a = c.args in (search rules, search rules, ([], refl, refl, many_start (take_block a.channels) a.count (drop 32 (bits_of a.form.now))))

pub returns-in_err-read : goal.returns-in_err-read
returns-in_err-read c =
    let a = c.args in
    let l = c.loop-i in
    let p = err_from_is_err_and c.from_residual.result c.from_residual.ensures.1 in
    let whole = l.invariant.2.3 ∙ many_stop (take_block a.channels) l.invariant.2.0 (a.count - l.i) (a.count - (l.i + 1)) _ _ (omega arith) c.in_err-read.ensures.taken in
    rw (p.1, p.2) (blocks_refused _ _ _ _ whole)

pub loop-i-preserved : goal.loop-i-preserved
loop-i-preserved c =
    let a = c.args in
    let l = c.loop-i in
    let b = c.in_ok-read.read.block in
    let t = c.in_ok-read.ensures in (
      omega (arith, t.near),
      t.taken.inside,
      (
        l.invariant.2.0 ++ (b ∷ []),
        length-append l.invariant.2.0 (b ∷ []) ∙ ap (λ (n : ℕ). n + 1) l.invariant.2.1,
        ap (λ (bs : List Block). set bs l.i b) l.invariant.2.2 ∙ set-padded zero_block 64 l.invariant.2.0 l.i b l.invariant.2.1 (search rules),
        l.invariant.2.3
            ∙ many_turn (take_block a.channels) l.invariant.2.0 (a.count - l.i) (a.count - (l.i + 1)) _ b _ (omega arith) t.taken.taken,
      ),
    )

pub returns-then-blank_from : goal.returns-then-blank_from
returns-then-blank_from c =
    let a = c.args in
    let l = c.loop-i in
    let whole = l.invariant.2.3 ∙ many_end (take_block a.channels) l.invariant.2.0 (a.count - l.i) _ (omega arith) in
    rw l.invariant.2.2 (blocks_loaded _ _ _ l.invariant.2.0 _ whole (sym c.blank_from.ensures ∙ c.if-blank_from.true))

pub returns-else-blank_from : goal.returns-else-blank_from
returns-else-blank_from c =
    let a = c.args in
    let l = c.loop-i in
    let whole = l.invariant.2.3 ∙ many_end (take_block a.channels) l.invariant.2.0 (a.count - l.i) _ (omega arith) in
    blocks_followed _ _ _ l.invariant.2.0 _ whole (sym c.blank_from.ensures ∙ c.if-blank_from.false)
