-- `nets::wiring::ends_of` meets its contract. The loop's invariant: the blocks before `i` are entered.
-- Assumes nothing.
use mathlib.Core.Path.{◌≡◌, sym, ◌∙◌, subst}
use Prim.Native.Nat.{ℕ, ◌*◌}
use native.Mathlib.Omega.{arith}
use Rattle.nets.specs.Ends.{Entries}
use Rattle.nets.proofs.Nets.{channels-high}
use Rattle.nets.proofs.EndTables.{entries_start}
use Rattle.nets.proofs.Wirings.{filled_next, ends-clash, ends-whole, ends-vacant}
use Rattle.nets.proofs.wiring.ends_of.Goals as goal

pub loop-i-init : goal.loop-i-init
loop-i-init c = entries_start _ _

pub returns-then-not-fill_block : goal.returns-then-not-fill_block
returns-then-not-fill_block c = ends-clash c.args.net.now c.requires.fields c.args.side c.loop-i.i _ _ (omega arith) c.if-not-fill_block.true c.fill_block.ensures

pub loop-i-preserved : goal.loop-i-preserved
loop-i-preserved c = filled_next c.args.net.now c.requires.fields c.args.side c.loop-i.i _ _ c.if-not-fill_block.false c.fill_block.ensures

pub all_held-requires : goal.all_held-requires
all_held-requires c = channels-high c.args.net.now c.requires.fields

pub returns-then-all_held : goal.returns-then-all_held
returns-then-all_held c =
    let e : c.loop-i.i ≡ c.args.net.now.size = omega arith in
    ends-whole c.args.net.now c.requires.fields c.args.side c.loop-i.table
    (subst (λ (n : ℕ). Entries c.args.net.now c.args.side c.loop-i.table (n * 10)) e c.loop-i.invariant) (sym c.all_held.ensures ∙ c.if-all_held.true)

pub returns-else-all_held : goal.returns-else-all_held
returns-else-all_held c =
    let e : c.loop-i.i ≡ c.args.net.now.size = omega arith in
    ends-vacant c.args.net.now c.requires.fields c.args.side c.loop-i.table
    (subst (λ (n : ℕ). Entries c.args.net.now c.args.side c.loop-i.table (n * 10)) e c.loop-i.invariant) (sym c.all_held.ensures ∙ c.if-all_held.false)
