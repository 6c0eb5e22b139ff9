-- Whom a block hands the question on to, by numbers and by kind: the code's numbers are the definition's ports.
-- Assumes nothing.
use Rattle.std.proofs.Common.{◌≡◌, refl, sym, ap, ap₂, ◌∙◌, ℕ, zero, suc, ◌+◌, ◌-◌, Bool, true, false, not, ◌&&◌, ◌||◌, List, [], eqb, Some, None, arith}
use Rattle.std.proofs.Math.Option.{Option, none, some}
use lib.Dec.{eqb-suc-zero}
use Rattle.blocks.specs.Folds.{lowest}
use Rattle.blocks.specs.Kinds.{Kind, kind_of}
use Rattle.blocks.specs.Ports.{m_ok, inputs_of, outputs_of, ports_of, counts_of, n_in, n_out}
use Rattle.blocks.specs.Words.{reach}
use Rattle.blocks.specs.Signals.{named}
use Rattle.blocks.specs.Equations.{winner}
use Rattle.blocks.specs.Asking.{needs, looks, lacks, holds_up, to_nobody, input_else, output_else, handed}
use Rattle.blocks.specs.declared.Block.{Block}
use Rattle.blocks.specs.declared.Ports.{Ports}
use Rattle.blocks.specs.declared.Sig.{Sig}
use Rattle.blocks.specs.declared.Reg.{Reg}
use Rattle.blocks.proofs.Folds.{clash}
use Rattle.blocks.proofs.Local.{lowest_same}
use Rattle.blocks.proofs.Numbers.{by_kind, beyond, no_kind, ins_agree, outs_agree}
use Rattle.blocks.proofs.Counts.{counted}
use Rattle.ports.specs.Places.{sig_at, ready_at, port_at}
use Rattle.ports.specs.Worked.{ins_show}
use Rattle.passes.specs.Rows.{kind_with}
use Rattle.asking.specs.Questions.{goes_to}
use Rattle.asking.specs.Rows.{told, is_told, chosen_no, needs_no, looks_no, takes_it, handed_by, handed_no}

-- a test of the port that is named, by the code's answer
told-named : (i : ℕ) (o : Option ℕ) → is_told (told o) i ≡ named o (eqb i)
told-named i none = refl
told-named i (some t) = refl

-- ## By kind

module _ (m value held marks : ℕ) (x : ℕ → Sig) where
  abbrev reg : Reg
  reg = record { word = held; marks = marks }

  -- the inputs of a mux: its select, and data input i as input i + 1
  select_in : (i : ℕ) → (eqb i 0 || is_told (told (reach m (x 0).word)) (i - 1)) ≡ needs (kind_of 5 m value []) reg x i
  select_in zero = refl
  select_in (suc i) =
      let z : suc i - 1 ≡ i = omega arith in
      ap₂ ◌||◌ (eqb-suc-zero i) (ap (is_told (told (reach m (x 0).word))) z ∙ told-named i (reach m (x 0).word))

  needs_same : (k : ℕ) → m_ok k m ≡ true → (i : ℕ) → needs_no k (told (chosen_no k m held x)) i ≡ needs (kind_of k m value []) reg x i
  needs_same =
      by_kind (λ k. m_ok k m ≡ true → (i : ℕ) → needs_no k (told (chosen_no k m held x)) i ≡ needs (kind_of k m value []) reg x i)
      (λ e i. refl) (λ e i. refl) (λ e i. refl) (λ e i. refl) (λ e i. refl) (λ e i. select_in i) (λ e i. refl) (λ e i. told-named i (winner m x held))
      (λ e i. refl) (λ e i. refl) (λ e i. refl) (λ k e i. clash e (no_kind (beyond k) m (omega arith)))

  looks_same : (k : ℕ) → m_ok k m ≡ true → (j : ℕ) → looks_no k (told (chosen_no k m held x)) j ≡ looks (kind_of k m value []) x j
  looks_same =
      by_kind (λ k. m_ok k m ≡ true → (j : ℕ) → looks_no k (told (chosen_no k m held x)) j ≡ looks (kind_of k m value []) x j)
      (λ e i. refl) (λ e i. refl) (λ e i. refl) (λ e i. refl) (λ e i. refl) (λ e i. refl) (λ e i. told-named i (reach m (x 0).word)) (λ e i. refl)
      (λ e i. refl) (λ e i. refl) (λ e i. refl) (λ k e i. clash e (no_kind (beyond k) m (omega arith)))

-- the first ports by number are those of the block's kind
module _ (b held marks : ℕ) (block : Block) (signals : List Sig) (ready : List Bool) (ok : m_ok block.kind block.m ≡ true) where
  abbrev K : Kind
  K = kind_with block []

  abbrev x : ℕ → Sig
  x = ins_show block (sig_at signals)

  abbrev v : ℕ → Bool
  v j = (sig_at signals (port_at block (inputs_of block.kind block.m + j))).valid

  abbrev y : ℕ → Bool
  y j = ready_at ready (port_at block (inputs_of block.kind block.m + j))

  abbrev r : Reg
  r = reg block.m block.value held marks x

  first_in : lowest (takes_it true (told (chosen_no block.kind block.m held x)) 0 block signals ready) (inputs_of block.kind block.m) ≡ lowest (lacks K r x) (n_in K)
  first_in =
      lowest_same (inputs_of block.kind block.m) (takes_it true (told (chosen_no block.kind block.m held x)) 0 block signals ready) (lacks K r x)
      (λ i h.
      let z : 0 + i ≡ i = omega arith in
      ap (λ (q : ℕ). needs_no block.kind (told (chosen_no block.kind block.m held x)) i && not (sig_at signals (port_at block q)).valid) z
      ∙ ap (λ (t : Bool). t && not (x i).valid) (needs_same block.m block.value held marks x block.kind ok i))
      ∙ ap (lowest (lacks K r x)) (sym (ins_agree block.m block.value [] block.kind ok))

  first_out : lowest (takes_it false (told (chosen_no block.kind block.m held x)) (inputs_of block.kind block.m) block signals ready) (outputs_of block.kind block.m)
      ≡ lowest (holds_up K x v y) (n_out K)
  first_out =
      lowest_same (outputs_of block.kind block.m) (takes_it false (told (chosen_no block.kind block.m held x)) (inputs_of block.kind block.m) block signals ready) (holds_up K x v y)
      (λ j h. ap (λ (t : Bool). t && (v j && not (y j))) (looks_same block.m block.value held marks x block.kind ok j))
      ∙ ap (lowest (holds_up K x v y)) (sym (outs_agree block.m block.value [] block.kind ok))

  pub hands_same : handed_by b (counts_of block.kind block.m) (told (chosen_no block.kind block.m held x)) block signals ready ≡ handed_no b block r (sig_at signals) (ready_at ready)
  unfolding handed
  hands_same =
      ap₂ (λ (o p : Option ℕ). goes_to (port_at block) (λ j. port_at block (inputs_of block.kind block.m + j)) b (input_else o (output_else p to_nobody))) first_in first_out

-- the port counts that the code is given
pub counts_are : (k m : ℕ) → m_ok k m ≡ true → (p : Ports) → ports_of k m ≡ Some p → p ≡ counts_of k m
counts_are k m ok p e = let z = counted k m ok in cc

pub never_none : (k m : ℕ) → m_ok k m ≡ true → ports_of k m ≡ None → ⊥
never_none k m ok e = let z = counted k m ok in cc
