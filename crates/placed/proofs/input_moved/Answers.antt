-- `placed::input_moved` meets its contract: a block that does not name the channel is as it was; of another, port after port, and the loop's invariant is that the first j ports
-- are moved.
-- Assumes nothing.
use mathlib.Core.Path.{◌≡◌, refl, sym, ap, ◌∙◌}
use Prim.Native.Nat.{ℕ, ◌+◌, ◌<◌}
use native.Mathlib.Omega.{arith}
use mathlib.Core.Bool.{cond, ◌&&◌}
use mathlib.Core.List.{List}
use lib.Dec.{eqb, ltb}
use borrow.Author.Count.{below_more, below_none}
use lib.ListN.{get_or, length, set, length-set}
use lib.Seq.{get_or-set_same, get_or-set_other}
use Rattle.nets.specs.Block.{ins, on_side}
use Rattle.blocks.specs.declared.Block.{Block}
use Rattle.cycles.proofs.States.{tab_is}
use Rattle.placed.specs.Placed.{port_moved}
use Rattle.placed.proofs.Moved.{same_block}
use Rattle.placed.proofs.input_moved.Invariants.{Moving}
use Rattle.placed.proofs.input_moved.Goals as goal

one_moved : (b : Block) (c d n j v : ℕ) (ports : List ℕ) → n ≡ ins b → j < 10 → Moving b c d j ports
    → v ≡ cond (ltb j n && eqb (get_or ports j 0) c) d (get_or ports j 0) → Moving b c d (j + 1) (set ports j v)
unfolding on_side
one_moved b c d n j v ports is h m e =
    let same : v ≡ port_moved c d b j =
    e ∙ ap (λ (p : ℕ). cond (ltb j n && eqb p c) d p) (m.rest j (omega arith)) ∙ ap (λ (k : ℕ). cond (ltb j k && eqb (get_or b.ports j 0) c) d (get_or b.ports j 0)) is in
    record {
      long = length-set ports j v ∙ m.long;
      moved =
          below_more (λ k. get_or (set ports j v) k 0 ≡ port_moved c d b k) j (λ k l. get_or-set_other ports j k v 0 (λ z. omega arith) ∙ m.moved k l)
          (get_or-set_same ports j v 0 (omega (arith, m.long)) ∙ same);
      rest = λ k l. get_or-set_other ports j k v 0 (λ z. omega arith) ∙ m.rest k (omega arith);
    }

pub returns-then-not-contains : goal.returns-then-not-contains
returns-then-not-contains c =
    let a = c.args in
    let ten : length a.b.ports ≡ 10 = omega arith in
    same_block a.c a.d a.b ten (sym c.contains.ensures.value ∙ c.if-not-contains.true)

pub loop-j-init : goal.loop-j-init
loop-j-init c = record { long = omega arith; moved = below_none _; rest = λ k h. refl }

pub loop-j-preserved : goal.loop-j-preserved
loop-j-preserved c =
    one_moved c.args.b c.args.c c.args.d c.counts-n.result.inputs c.loop-j.j c.port_moved.result c.loop-j.port-items c.counts-n.ensures.inputs c.loop-j-test.true
    c.loop-j.invariant c.port_moved.ensures

pub returns : goal.returns
returns c =
    let l = c.loop-j in
    let a = c.args in
    ap (λ (ports : List ℕ). record { kind = a.b.kind; m = a.b.m; value = a.b.value; ports = ports })
    (tab_is 10 (port_moved a.c a.d a.b) l.port-items l.invariant.long (λ k h. l.invariant.moved k (omega arith)))
