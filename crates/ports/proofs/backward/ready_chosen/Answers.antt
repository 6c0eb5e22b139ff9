-- `ports::backward::ready_chosen` meets its contract: port after port is put; the loop's invariant is that with the two before it the first i are.
-- Assumes nothing.
use Rattle.std.proofs.Common.{◌≡◌, refl, ℕ, ◌+◌, ◌≤◌, ◌<◌, Bool, ◌&&◌, eqb, arith}
use Rattle.blocks.specs.declared.Block.{Block}
use Rattle.ports.proofs.ByKind.{put_port_more}
use Rattle.ports.proofs.Puts.{put_none}
use Rattle.ports.specs.Places.{ready_at, port_at, Apart, Put}
use Rattle.ports.proofs.backward.ready_chosen.Invariants.{InputsPut}
use Rattle.ports.proofs.backward.ready_chosen.Goals as goal

-- one input more
input_more : (block : Block) (first : ℕ) (go : Bool) (chosen n i : ℕ) (f g h : ℕ → Bool) → Apart (λ j. port_at block (first + j)) n → i < n
    → InputsPut block first go chosen i f g → Put (λ j. port_at block (first + i + j)) (λ j. go && eqb i chosen) 1 g h → InputsPut block first go chosen (i + 1) f h
input_more block first go chosen n i f g h apart l p q =
    put_port_more block first n i (λ j. go && eqb j chosen) f g h (go && eqb i chosen) apart l p q refl

pub loop-i-preserved : goal.loop-i-preserved
loop-i-preserved c f p =
    let a = c.args in
    input_more a.at.block.now a.first a.go a.chosen a.n c.loop-i.i f _ _ c.requires.apart (omega arith) (c.loop-i.invariant f p) c.ready_if_chosen-in-loop-i.ensures

pub returns : goal.returns
returns c =
    let a = c.args in
    let apart = c.requires.apart in
    let least : 2 ≤ a.n = c.requires.le_n in
    let all : c.loop-i.i ≡ a.n = omega arith in
    let more = input_more a.at.block.now a.first a.go a.chosen a.n in
    let two : InputsPut a.at.block.now a.first a.go a.chosen 2 (ready_at a.ready.now) _ =
    more 1 _ _ _ apart (omega arith) (more 0 _ _ _ apart (omega arith) (put_none _ _ _) c.ready_if_chosen.ensures) c.ready_if_chosen-2.ensures in
    rw all at (c.loop-i.invariant _ two)
