-- `nets::wiring::fill_block` meets its contract. The loop's invariant: the ports on the side before `j` are entered.
-- Assumes nothing.
use Rattle.std.proofs.Common.{◌≡◌, ◌∙◌, ap, ap₂, arith, ℕ, ◌+◌, Bool, cond, List, get_or}
use Rattle.blocks.specs.declared.Net.{Net}
use Rattle.blocks.specs.declared.Ports.{Ports}
use Rattle.nets.specs.Block.{ins, outs}
use Rattle.nets.specs.Net.{block_at}
use Rattle.nets.specs.Ends.{last_on}
use Rattle.nets.proofs.Nets.{size-high}
use Rattle.nets.proofs.EndTables.{filling-start, filling_step, filling-clash, filling-end, side-port}
use Rattle.nets.proofs.wiring.fill_block.Goals as goal

-- the first port beyond a side, by the counts
last-on : (net : Net) (counts : List Ports) (side : Bool) (i k : ℕ) → let p : Ports = get_or counts i (record { inputs = 0; outputs = 0 }) in
    k ≡ cond side (p.inputs + p.outputs) p.inputs → (p.inputs ≡ ins (block_at net i)) × (p.outputs ≡ outs (block_at net i)) → k ≡ last_on (block_at net i) side
last-on net counts side i k e same = e ∙ ap₂ (λ (x y : ℕ). cond side (x + y) x) same.0 same.1

pub bounds-counts-i : goal.bounds-counts-i
bounds-counts-i c = omega (arith, size-high c.args.net.now c.requires.fields)

pub offset_bounds-net-i : goal.offset_bounds-net-i
offset_bounds-net-i c = omega (arith, size-high c.args.net.now c.requires.fields)

pub bounds-net-i : goal.bounds-net-i
bounds-net-i c = omega (arith, size-high c.args.net.now c.requires.fields)

pub loop-j-init : goal.loop-j-init
loop-j-init c =
    filling-start _ _ _ c.requires.fields c.requires.i_bound _ _ (c.ports_on-first.ensures.first ∙ ap (λ (n : ℕ). cond c.args.side n 0) (c.requires.counted c.args.i c.requires.i_bound).0) c.told-table c.requires.entries

pub bounds-block-j : goal.bounds-block-j
bounds-block-j c =
    (side-port c.args.net.now c.args.side c.args.i c.requires.fields c.requires.i_bound c.loop-j.j (omega (arith, last-on c.args.net.now c.args.counts.now c.args.side c.args.i _ c.ports_on-first.ensures.last (c.requires.counted c.args.i c.requires.i_bound)))).0

pub bounds-table-c : goal.bounds-table-c
bounds-table-c c =
    (side-port c.args.net.now c.args.side c.args.i c.requires.fields c.requires.i_bound c.loop-j.j (omega (arith, last-on c.args.net.now c.args.counts.now c.args.side c.args.i _ c.ports_on-first.ensures.last (c.requires.counted c.args.i c.requires.i_bound)))).1

pub returns-then-table-c : goal.returns-then-table-c
returns-then-table-c c =
    filling-clash _ _ _ c.requires.fields c.requires.i_bound c.loop-j.table c.loop-j.j (omega (arith, last-on c.args.net.now c.args.counts.now c.args.side c.args.i _ c.ports_on-first.ensures.last (c.requires.counted c.args.i c.requires.i_bound))) c.if-table-c.true c.loop-j.invariant

pub loop-j-preserved : goal.loop-j-preserved
loop-j-preserved c =
    filling_step _ _ _ c.requires.fields c.requires.i_bound c.loop-j.table c.loop-j.j (omega (arith, last-on c.args.net.now c.args.counts.now c.args.side c.args.i _ c.ports_on-first.ensures.last (c.requires.counted c.args.i c.requires.i_bound))) c.if-table-c.false c.loop-j.invariant

pub returns : goal.returns
returns c =
    filling-end _ _ _ c.requires.fields c.requires.i_bound c.loop-j.table c.loop-j.j (omega (arith, last-on c.args.net.now c.args.counts.now c.args.side c.args.i _ c.ports_on-first.ensures.last (c.requires.counted c.args.i c.requires.i_bound))) c.loop-j.invariant
