-- `passes::registers::registers` meets its contract: kind after kind.
-- Assumes nothing.
use Rattle.std.proofs.Common.{refl}
use Rattle.blocks.specs.States.{reg_in}
use Rattle.ports.specs.Places.{sig_at, ready_at}
use Rattle.passes.proofs.Stages.{none_done, with_kind, went-none, went_more, went_all}
use Rattle.passes.proofs.registers.registers.Goals as goal

pub returns-clause-by_index : goal.returns-clause-by_index
returns-clause-by_index c =
    let a = c.args in
    let X = sig_at a.signals.now in
    let Y = ready_at a.ready.now in
    let r₀ = reg_in a.state.now in
    let more = went_more a.net.now X Y r₀ in
    let w0 = went-none a.net.now X Y r₀ in
    let w1 = more none_done 0 _ _ refl w0 c.next_kind.ensures.by_index_2 c.next_kind.ensures.by_index_3 in
    let w2 = more (with_kind 0 none_done) 4 _ _ refl w1 c.next_kind-2.ensures.by_index_2 c.next_kind-2.ensures.by_index_3 in
    let w3 = more (with_kind 4 (with_kind 0 none_done)) 7 _ _ refl w2 c.next_kind-3.ensures.by_index_2 c.next_kind-3.ensures.by_index_3 in
    let w4 = more (with_kind 7 (with_kind 4 (with_kind 0 none_done))) 8 _ _ refl w3 c.next_kind-4.ensures.by_index_2 c.next_kind-4.ensures.by_index_3 in
    let w5 = more (with_kind 8 (with_kind 7 (with_kind 4 (with_kind 0 none_done)))) 9 _ _ refl w4 c.next_kind-5.ensures.by_index_2 c.next_kind-5.ensures.by_index_3 in
    let w6 = more (with_kind 9 (with_kind 8 (with_kind 7 (with_kind 4 (with_kind 0 none_done))))) 10 _ _ refl w5 c.next_kind-6.ensures.by_index_2 c.next_kind-6.ensures.by_index_3 in
    went_all a.net.now X Y r₀ c.requires.rowed _ w6
