-- One block in a pass, by its kind's number: each arm of the code's `match` at the kind that it found.
-- Assumes nothing.
use Rattle.std.proofs.Common.{◌≡◌, refl, sym, ap, subst, ◌∙◌, Bool, true, false, cond, ◌&&◌, ◌||◌, List, [], ℕ, ◌+◌, ◌-◌, ◌^◌, ◌≤◌, ◌<◌, eqb, leb, ltb, ne_eqb, leb-true, ltb-true, arith, lit<}
use Rattle.blocks.specs.Kinds.{kind_of}
use Rattle.blocks.specs.Numbers.{kind_number}
use Rattle.blocks.specs.Ports.{m_ok, inputs_of, outputs_of}
use Rattle.blocks.specs.Equations.{out_of, ready_of}
use Rattle.blocks.specs.Shape.{fork_reg, merge_reg, in_shape}
use Rattle.blocks.specs.declared.Block.{Block}
use Rattle.blocks.specs.declared.Kind.{Kind}
use Rattle.blocks.specs.declared.Kind.TheVariants.{Source, Sink, Operator, Constant, Fork, Mux, Demux, Merge, Buffer, FullBuffer, Control}
use Rattle.blocks.specs.declared.Sig.{Sig}
use Rattle.blocks.specs.declared.Reg.{Reg}
use Rattle.blocks.proofs.Folds.{clash, and_1, and_2, or_1}
use Rattle.blocks.proofs.Numbers.{by_kind, no_kind}
use Rattle.ports.specs.Places.{port_at, Put}
use Rattle.ports.specs.Worked.{next_here}
use Rattle.passes.specs.Rows.{kind_with, rests_ahead, rests_back}
use Rattle.passes.specs.Pass.{Turned}
use Rattle.passes.specs.Passed.{ahead_at, back_at}

-- ## Kinds by number

-- there are eleven kinds
pub kind_low : (kind : Kind) → kind_number kind < 11
kind_low Source = lit< tt
kind_low Sink = lit< tt
kind_low Operator = lit< tt
kind_low Constant = lit< tt
kind_low Fork = lit< tt
kind_low Mux = lit< tt
kind_low Demux = lit< tt
kind_low Merge = lit< tt
kind_low Buffer = lit< tt
kind_low FullBuffer = lit< tt
kind_low Control = lit< tt

-- a block in its ranges has a kind
pub in_use : (k m : ℕ) → m_ok k m ≡ true → 10 < k → ⊥
in_use k m e h = clash e (no_kind k m h)

-- ## What the fields' ranges say

-- forks, muxes, demuxes and merges have an m of at least 2: at one of their numbers k the rule of m reads so
pub m_two : (k kind m : ℕ) → kind ≡ k → m_ok k m ≡ (leb 2 m && leb m 8) → m_ok kind m ≡ true → 2 ≤ m
m_two k kind m e rule h = leb-true 2 m (and_1 (leb 2 m) (leb m 8) (sym rule ∙ subst (λ (x : ℕ). m_ok x m ≡ true) e h))

-- the registers of a merge: a winner of at most m, and marks below 4
pub merge-fits : (k m : ℕ) (r : Reg) → k ≡ 7 → in_shape (kind_of k m 0 []) r ≡ true → (r.word ≤ m) × (r.marks < 4)
merge-fits k m r e s =
    let t : merge_reg m r ≡ true = subst (λ (x : ℕ). in_shape (kind_of x m 0 []) r ≡ true) e s in
    let both : (leb r.word m && leb r.marks 2) ≡ true = and_1 (leb r.word m && leb r.marks 2) (cond (eqb r.word 0) (eqb r.marks 0) true) t in (
      leb-true r.word m (and_1 (leb r.word m) (leb r.marks 2) both),
      omega (arith, leb-true r.marks 2 (and_2 (leb r.word m) (leb r.marks 2) both)),
    )

-- the marks of a fork: below 2^m
pub fork-fits : (k m : ℕ) (r : Reg) → k ≡ 4 → in_shape (kind_of k m 0 []) r ≡ true → r.marks < 2 ^ m
fork-fits k m r e s =
    let t : fork_reg m r ≡ true = subst (λ (x : ℕ). in_shape (kind_of x m 0 []) r ≡ true) e s in
    let l : r.marks < 2 ^ m - 1 = ltb-true r.marks (2 ^ m - 1) (and_2 (eqb r.word 0) (ltb r.marks (2 ^ m - 1)) t) in
    omega arith

-- ## Blocks that do not rest

pub turns_back : (k : ℕ) → rests_back k ≡ false → leb k 1 ≡ false
turns_back k e = or_1 (leb k 1) (eqb k 10) e

pub turns_on : (k : ℕ) → rests_ahead k ≡ false → eqb k 0 ≡ false
turns_on k e = ne_eqb k 0 (λ z. clash (subst (λ (x : ℕ). leb x 1 ≡ true) (sym z) refl) (or_1 (leb k 1) (eqb k 8 || eqb k 9) e))

-- ## The arms

-- the block with another kind's number
abbrev as_kind : Block → ℕ → Block
as_kind block k = record { kind = k; m = block.m; value = block.value; ports = block.ports }

-- `kind` was found to be `found`.
module _ (kind found : Kind) (same : kind ≡ found) (block : Block) (is : block.kind ≡ kind_number kind) (mask : Bool) (r : Reg) (xs : List ℕ) where
  abbrev k : ℕ
  k = kind_number found

  e : block.kind ≡ k
  e = is ∙ ap kind_number same

  pub ahead_arm : (f g : ℕ → Sig) → eqb k 0 ≡ false
      → Put (λ j. port_at block (inputs_of k block.m + j)) (out_of (kind_of k block.m block.value xs) mask r (λ p. f (port_at block p))) (outputs_of k block.m) f g
      → Turned (ahead_at block (kind_with block xs) mask r) (eqb block.kind 0) f g
  ahead_arm f g z p =
      subst (λ (x : ℕ). Turned (ahead_at (as_kind block x) (kind_with (as_kind block x) xs) mask r) (eqb x 0) f g) (sym e) (record { works = λ s. p; rests = λ s. clash s z })

  pub back_arm : (X : ℕ → Sig) (f g : ℕ → Bool) → leb k 1 ≡ false
      → Put (port_at block)
      (ready_of (kind_of k block.m block.value xs) mask r (λ i. X (port_at block i)) (λ j. (X (port_at block (inputs_of k block.m + j))).valid)
      (λ j. f (port_at block (inputs_of k block.m + j)))) (inputs_of k block.m) f g
      → Turned (back_at block (kind_with block xs) mask r X) (leb block.kind 1) f g
  back_arm X f g z p =
      subst (λ (x : ℕ). Turned (back_at (as_kind block x) (kind_with (as_kind block x) xs) mask r X) (leb x 1) f g) (sym e) (record { works = λ s. p; rests = λ s. clash s z })

  pub next_arm : (X : ℕ → Sig) (Y : ℕ → Bool) (next : Reg) → next ≡ next_here (kind_of k block.m block.value xs) r block X Y → next ≡ next_here (kind_with block xs) r block X Y
  next_arm X Y next h = h ∙ ap (λ (x : ℕ). next_here (kind_of x block.m block.value xs) r block X Y) (sym e)

-- ## The registers

-- the kinds whose registers no rule names
pub next_left : (block : Block) (m value : ℕ) (r : Reg) (xs : List ℕ) (X : ℕ → Sig) (Y : ℕ → Bool) (k : ℕ) → (k ≡ 0 → ⊥) → (k ≡ 4 → ⊥) → (k ≡ 7 → ⊥) → (k ≡ 8 → ⊥) → (k ≡ 9 → ⊥)
    → (k ≡ 10 → ⊥) → r ≡ next_here (kind_of k m value xs) r block X Y
next_left block m value r xs X Y =
    by_kind (λ k. (k ≡ 0 → ⊥) → (k ≡ 4 → ⊥) → (k ≡ 7 → ⊥) → (k ≡ 8 → ⊥) → (k ≡ 9 → ⊥) → (k ≡ 10 → ⊥) → r ≡ next_here (kind_of k m value xs) r block X Y)
    (λ a b c d e f. absurd (a refl)) (λ a b c d e f. refl) (λ a b c d e f. refl) (λ a b c d e f. refl) (λ a b c d e f. absurd (b refl)) (λ a b c d e f. refl)
    (λ a b c d e f. refl) (λ a b c d e f. absurd (c refl)) (λ a b c d e f. absurd (d refl)) (λ a b c d e f. absurd (e refl)) (λ a b c d e f. absurd (f refl))
    (λ k a b c d e f. refl)
