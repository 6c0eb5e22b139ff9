-- Registers stepped kind after kind: those of the kinds that are done are the next ones, the others are still as they were.
-- Assumes nothing.
use mathlib.Core.Path.{◌≡◌, refl, sym, ap, subst, ◌∙◌}
use mathlib.Core.Bool.{Bool, true, false, ◌||◌}
use mathlib.Core.Logic.{◌⊎◌, inl, inr}
use mathlib.Core.List.{List}
use Prim.Native.Nat.{ℕ, ◌<◌}
use borrow.Author.Tests.{eqb-true, eq-eqb}
use lib.Dec.{eqb}
use Rattle.blocks.specs.Equations.{next_of}
use Rattle.blocks.specs.declared.Net.{Net}
use Rattle.blocks.specs.declared.Sig.{Sig}
use Rattle.blocks.specs.declared.State.{State}
use Rattle.blocks.specs.declared.Reg.{Reg}
use Rattle.blocks.proofs.Folds.{which, clash, or_1, or_2, or_other}
use Rattle.passes.specs.Rows.{block_no, kind_no, m_no, kind_in, in_no, out_no, is_kind_no, FitReg, Rowed, Shaped}
use Rattle.blocks.specs.States.{reg_in}
use Rattle.passes.specs.Passed.{next_no, Settled, Stepping, AllSettled}
use Rattle.passes.proofs.Sites.{next_here_lem}
use Rattle.passes.proofs.Arms.{next_left}

-- no kind is done
abbrev pub none_done : ℕ → Bool
none_done k = false

-- one kind more is done
abbrev pub with_kind : ℕ → (ℕ → Bool) → ℕ → Bool
with_kind kind done k = eqb k kind || done k

-- the kinds with registers
abbrev pub six : ℕ → Bool
six = with_kind 10 (with_kind 9 (with_kind 8 (with_kind 7 (with_kind 4 (with_kind 0 none_done)))))

module _ (net : Net) (X : ℕ → Sig) (Y : ℕ → Bool) (r₀ : ℕ → Reg) where
  pub record Went (done : ℕ → Bool) (r : ℕ → Reg) : Type 0 where
    pub went : (xs : ℕ → List ℕ) (mask : ℕ → Bool) (b : ℕ) → b < net.size → done (kind_no net b) ≡ true → r b ≡ next_no net xs mask r₀ X Y b
    pub stays : (b : ℕ) → (b < net.size → done (kind_no net b) ≡ false) → r b ≡ r₀ b

  pub went-none : Went none_done r₀
  went-none = record { went = λ xs mask b lb t. clash t refl; stays = λ b h. refl }

  pub went_more : (done : ℕ → Bool) (kind : ℕ) (r r' : ℕ → Reg) → done kind ≡ false → Went done r
      → ((xs : ℕ → List ℕ) (mask : ℕ → Bool) (b : ℕ) → b < net.size → is_kind_no net kind b ≡ true → r' b ≡ next_no net xs mask r X Y b)
      → ((b : ℕ) → (b < net.size → is_kind_no net kind b ≡ false) → r' b ≡ r b) → Went (with_kind kind done) r'
  went_more done kind r r' z h next same =
      record {
        went = λ xs mask b lb t. by xs mask b lb t (which (is_kind_no net kind b));
        stays =
            λ b q. same b (λ lb. or_1 (is_kind_no net kind b) (done (kind_no net b)) (q lb)) ∙ h.stays b (λ lb. or_2 (is_kind_no net kind b) (done (kind_no net b)) (q lb));
      }
    where
      by : (xs : ℕ → List ℕ) (mask : ℕ → Bool) (b : ℕ) → b < net.size → with_kind kind done (kind_no net b) ≡ true
          → (is_kind_no net kind b ≡ true) ⊎ (is_kind_no net kind b ≡ false) → r' b ≡ next_no net xs mask r₀ X Y b
      by xs mask b lb t (inl e) =
          next xs mask b lb e
          ∙ ap (λ (q : Reg). next_of (kind_in net xs b) q (λ i. X (in_no net b i)) (λ i. Y (in_no net b i)) (λ j. (X (out_no net b j)).valid) (λ j. Y (out_no net b j)))
          (h.stays b (λ l. subst (λ (k : ℕ). done k ≡ false) (sym (eqb-true (kind_no net b) kind e)) z))
      by xs mask b lb t (inr e) = same b (λ l. e) ∙ h.went xs mask b lb (or_other (is_kind_no net kind b) (done (kind_no net b)) t e)

  -- after the six kinds every block has its next registers
  pub went_all : Rowed net → (r : ℕ → Reg) → Went six r → (xs : ℕ → List ℕ) (mask : ℕ → Bool) (b : ℕ) → b < net.size → r b ≡ next_no net xs mask r₀ X Y b
  went_all w r h xs mask b lb = by (which (six (kind_no net b)))
    where
      by : (six (kind_no net b) ≡ true) ⊎ (six (kind_no net b) ≡ false) → r b ≡ next_no net xs mask r₀ X Y b
      by (inl t) = h.went xs mask b lb t
      by (inr f) =
          let f9 = or_2 (eqb (kind_no net b) 10) (with_kind 9 (with_kind 8 (with_kind 7 (with_kind 4 (with_kind 0 none_done)))) (kind_no net b)) f in
          let f8 = or_2 (eqb (kind_no net b) 9) (with_kind 8 (with_kind 7 (with_kind 4 (with_kind 0 none_done))) (kind_no net b)) f9 in
          let f7 = or_2 (eqb (kind_no net b) 8) (with_kind 7 (with_kind 4 (with_kind 0 none_done)) (kind_no net b)) f8 in
          let f4 = or_2 (eqb (kind_no net b) 7) (with_kind 4 (with_kind 0 none_done) (kind_no net b)) f7 in
          let f0 = or_2 (eqb (kind_no net b) 4) (with_kind 0 none_done (kind_no net b)) f4 in
          h.stays b (λ l. f)
          ∙ next_left (block_no net b) (m_no net b) (block_no net b).value (r₀ b) (xs b) X Y (kind_no net b)
          (λ z. clash (eq-eqb (kind_no net b) 0 z) (or_1 (eqb (kind_no net b) 0) false f0)) (λ z. clash (eq-eqb (kind_no net b) 4 z) (or_1 (eqb (kind_no net b) 4) (with_kind 0 none_done (kind_no net b)) f4))
          (λ z. clash (eq-eqb (kind_no net b) 7 z) (or_1 (eqb (kind_no net b) 7) (with_kind 4 (with_kind 0 none_done) (kind_no net b)) f7))
          (λ z. clash (eq-eqb (kind_no net b) 8 z) (or_1 (eqb (kind_no net b) 8) (with_kind 7 (with_kind 4 (with_kind 0 none_done)) (kind_no net b)) f8))
          (λ z. clash (eq-eqb (kind_no net b) 9 z) (or_1 (eqb (kind_no net b) 9) (with_kind 8 (with_kind 7 (with_kind 4 (with_kind 0 none_done))) (kind_no net b)) f9))
          (λ z. clash (eq-eqb (kind_no net b) 10 z) (or_1 (eqb (kind_no net b) 10) (with_kind 9 (with_kind 8 (with_kind 7 (with_kind 4 (with_kind 0 none_done)))) (kind_no net b)) f))
          ∙ next_here_lem net xs mask r₀ w b lb X Y

-- what the step of a kind that is not done needs is there still
pub stepping_kept : (net : Net) (X : ℕ → Sig) (Y : ℕ → Bool) (state₀ state : State) (signals : List Sig) (done : ℕ → Bool) (kind : ℕ) → done kind ≡ false
    → Went net X Y (reg_in state₀) done (reg_in state) → Shaped net state₀ → AllSettled net (reg_in state₀) signals → (b : ℕ) → b < net.size → is_kind_no net kind b ≡ true
    → Stepping net b state signals
stepping_kept net X Y state₀ state signals done kind z h shaped settled b lb t =
    let e : reg_in state b ≡ reg_in state₀ b = h.stays b (λ l. subst (λ (k : ℕ). done k ≡ false) (sym (eqb-true (kind_no net b) kind t)) z) in
    record {
      shape = subst (FitReg (block_no net b)) (sym e) (shaped b lb);
      settled = subst (λ (r : Reg). Settled (block_no net b) r signals) (sym e) (settled b lb);
    }
