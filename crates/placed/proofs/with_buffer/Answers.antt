-- `placed::with_buffer` meets its contract: block after block; the loop's invariant is that the first i blocks are moved and the rest are zero. The new buffer
-- then takes its place.
-- Assumes nothing.
use mathlib.Core.Path.{◌≡◌, refl, sym, ap, ◌∙◌, subst}
use Prim.Native.Nat.{ℕ, ◌+◌, ◌≤◌, ◌<◌}
use native.Mathlib.Omega.{arith}
use mathlib.Core.List.{List}
use lib.Dec.{eqb, ltb}
use borrow.Author.Count.{below_more, below_none}
use borrow.Author.Tests.{eqb-true, eqb-false, ltb-true, ltb-false}
use lib.ListN.{get_or, set, replicate, length-set, get_or-replicate}
use lib.Seq.{get_or-set_same, get_or-set_other, ext_get_or}
use Rattle.blocks.specs.Numbers.{kind_number}
use Rattle.blocks.proofs.Options.{test}
use Rattle.nets.specs.Block.{no_block}
use Rattle.nets.specs.Net.{block_at}
use Rattle.nets.specs.Verdict.{Joined}
use Rattle.blocks.specs.declared.Block.{Block}
use Rattle.blocks.specs.declared.Net.{Net}
use Rattle.cycles.specs.State.{tab}
use Rattle.cycles.proofs.States.{length-tab, get_d_tab}
use Rattle.placed.specs.Placed.{buffer_from, input_moved, entry_of}
use Rattle.placed.proofs.Moved.{zero_moved}
use Rattle.placed.proofs.Splitting.{block-beyond}
use Rattle.placed.proofs.with_buffer.Invariants.{Moving}
use Rattle.placed.proofs.with_buffer.Goals as goal

module _ (net : Net) (c : ℕ) where
  none_moved : (b : Block) → b ≡ buffer_from 0 0 0 → Moving net c 0 (replicate 64 b)
  none_moved b e = record { long = refl; moved = below_none _; rest = λ k l h. get_or-replicate 64 k b no_block h ∙ e }

  one_moved : (i : ℕ) (blocks : List Block) (v : Block) → i < 64 → v ≡ input_moved c net.channels (block_at net i) → Moving net c i blocks → Moving net c (i + 1) (set blocks i v)
  one_moved i blocks v h e m =
      record {
        long = length-set blocks i v ∙ m.long;
        moved =
            below_more (λ k. get_or (set blocks i v) k no_block ≡ input_moved c net.channels (block_at net k)) i
            (λ k l. get_or-set_other blocks i k v no_block (λ z. omega arith) ∙ m.moved k l) (get_or-set_same blocks i v no_block (omega (arith, m.long)) ∙ e);
        rest = λ k l q. get_or-set_other blocks i k v no_block (λ z. omega arith) ∙ m.rest k (omega arith) q;
      }

-- all blocks moved, and the new one in its place
module _ (net : Net) (c kind : ℕ) (j : Joined net) (room : net.size < 64) (l : List Block) (m : Moving net c net.size l) (v : Block) (is : v ≡ buffer_from kind c net.channels) where
  old : (k : ℕ) → k < 64 → get_or l k no_block ≡ input_moved c net.channels (block_at net k)
  old k q =
      test (ltb k net.size) (λ e. m.moved k (ltb-true k net.size e))
      (λ e.
      let late : net.size ≤ k = ltb-false k net.size e in
      m.rest k late q ∙ sym (zero_moved c net.channels (block_at net k) (block-beyond net j.fields k late q)))

  at : (k : ℕ) → k < 64 → get_or (set l net.size v) k no_block ≡ entry_of net c kind k
  at k q =
      test (eqb k net.size)
      (λ e. let z : k ≡ net.size = eqb-true k net.size e in rw (e, z) (get_or-set_same l net.size v no_block (omega (arith, m.long)) ∙ is))
      (λ e. rw e (get_or-set_other l net.size k v no_block (eqb-false k net.size e) ∙ old k q))

  filled : set l net.size v ≡ tab 64 (entry_of net c kind)
  filled =
      ext_get_or no_block (set l net.size v) (tab 64 (entry_of net c kind)) (length-set l net.size v ∙ m.long ∙ sym (length-tab 64 (entry_of net c kind)))
      (λ k h. let q : k < 64 = omega (arith, length-set l net.size v, m.long) in at k q ∙ sym (get_d_tab 64 (entry_of net c kind) no_block k q))

pub loop-i-init : goal.loop-i-init
loop-i-init c = none_moved c.args.net c.args.c _ refl

pub loop-i-preserved : goal.loop-i-preserved
loop-i-preserved c =
    let a = c.args in
    let l = c.loop-i in
    one_moved a.net a.c l.i l.blocks c.input_moved.result (omega arith) c.input_moved.ensures l.invariant

pub returns : goal.returns
returns c =
    let net = c.args.net in
    let l = c.loop-i in
    let all : l.i ≡ net.size = omega arith in
    let all_moved = subst (λ (i : ℕ). Moving net c.args.c i l.blocks) all l.invariant in
    ap (λ (blocks : List Block). record { size = net.size + 1; channels = net.channels + 1; blocks = blocks })
    (filled net c.args.c (kind_number c.args.kind) c.requires.joined c.requires.size_bound.0 l.blocks all_moved c.buffer.result c.buffer.ensures)
