-- `passes::registers::next_kind` meets its contract: one of the kind after the other; the loop's invariant is that the first of the kind have their next registers, and
-- the other blocks have theirs still.
-- Assumes nothing.
use Rattle.std.proofs.Common.{◌≡◌, sym, ap, subst, ◌∙◌, ℕ, ◌<◌, get_or, below_more, arith}
use Rattle.blocks.specs.Folds.{count_below}
use Rattle.blocks.specs.Numbers.{kind_number}
use Rattle.blocks.specs.States.{reg_in}
use Rattle.blocks.specs.declared.Reg.{Reg}
use Rattle.ports.specs.Places.{sig_at, ready_at}
use Rattle.ports.specs.Worked.{next_here}
use Rattle.passes.specs.Rows.{block_no, kind_with, is_kind_no, Listed}
use Rattle.passes.specs.Passed.{next_no}
use Rattle.passes.proofs.Listings.{listed_at, listed_once, listed_of}
use Rattle.passes.proofs.Sites.{next_here_lem}
use Rattle.passes.proofs.registers.next_kind.Goals as goal

pub loop-b-preserved : goal.loop-b-preserved
loop-b-preserved c =
    let l = c.loop-b in
    let a = c.args in
    let list = c.of_kind-list.result.now in
    let listed : Listed a.net.now (kind_number a.kind) list = listed_of a.net.now a.sorted.now a.kind list c.requires.kinds c.of_kind-list.ensures in
    let b : ℕ = get_or list l.b-index 0 in
    let block = block_no a.net.now b in
    let s = sig_at a.signals.now in
    let y = ready_at a.ready.now in
    let r = reg_in a.state.now in
    let fresh : (k : ℕ) → k < l.b-index → get_or list k 0 ≡ b → ⊥ =
    λ k h e. let z : k ≡ l.b-index = listed_once a.net.now _ list listed k l.b-index (omega arith) (omega arith) e in omega arith in
    record {
      went = λ xs mask. below_more (λ k. reg_in c.set_reg.new.self (get_or list k 0) ≡ next_no a.net.now xs mask r s y (get_or list k 0)) l.b-index
          (λ k h. c.set_reg.ensures.others (get_or list k 0) (fresh k h) ∙ l.invariant.went xs mask k h)
          (c.set_reg.ensures.here ∙ c.next_one-next.ensures (xs b) ∙ ap (λ (q : Reg). next_here (kind_with block (xs b)) q block s y) (c.reg.ensures ∙ l.invariant.stays b fresh)
          ∙ next_here_lem a.net.now xs mask r c.requires.rowed b (listed.each l.b-index (omega arith)).0 s y);
      stays = λ q h. c.set_reg.ensures.others q (λ e. h l.b-index (omega arith) (sym e)) ∙ l.invariant.stays q (λ k g. h k (omega arith));
      kept = record {
        same_count = c.set_reg.ensures.kept.same_count ∙ l.invariant.kept.same_count;
        words_long = c.set_reg.ensures.kept.words_long ∙ l.invariant.kept.words_long;
        marks-long = c.set_reg.ensures.kept.marks-long ∙ l.invariant.kept.marks-long;
      };
    }

pub returns-clause-by_index_2 : goal.returns-clause-by_index_2
returns-clause-by_index_2 c xs mask b lb t =
    let a = c.args in
    let listed = listed_of a.net.now a.sorted.now a.kind _ c.requires.kinds c.of_kind-list.ensures in
    let p = listed_at a.net.now (kind_number a.kind) c.of_kind-list.result.now listed b lb t in
    subst (λ (x : ℕ). reg_in c.loop-b.state x ≡ next_no a.net.now xs mask (reg_in a.state.now) (sig_at a.signals.now) (ready_at a.ready.now) x) p.1
    (c.loop-b.invariant.went xs mask (count_below (is_kind_no a.net.now (kind_number a.kind)) b) (omega (arith, p.0)))
