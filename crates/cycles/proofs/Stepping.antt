-- The questions of a cycle over a view whose blocks have ranks: where the ranks fall along the questions, the answers satisfy every block's equations, and any
-- signals that satisfy them are the answers. The ranks of an accepted net stand in Solution.
-- Assumes nothing.
use Prim.Native.Nat.{ℕ, zero, suc, ◌<◌}
use mathlib.Core.Path.{◌≡◌, sym, ap, ◌∙◌}
use mathlib.Core.Bool.{Bool, true}
use native.Mathlib.Omega.{arith}
use Rattle.blocks.specs.Ports.{n_in, n_out}
use Rattle.blocks.specs.Equations.{out_of, ready_of}
use Rattle.blocks.specs.declared.Sig.{Sig}
use Rattle.blocks.specs.declared.Reg.{Reg}
use Rattle.blocks.proofs.Local.{waits, leans, out_local, ready_local, ready_reads}
use Rattle.cycles.specs.Wires.{View}
use Rattle.cycles.specs.Cycle.{Signals, ask, ask_ready, signals}
use Rattle.cycles.specs.Solved.{Solves}
use Rattle.cycles.proofs.Wiring.{Wired}

-- The ranks of the blocks: one falls from a block to those whose words it waits for, one to those whose readiness it leans on.
pub record Ranked (v : View) (w : Wired v) (f : ℕ) : Type 0 where
  pub forward : ℕ → ℕ
  pub falls : (b i : ℕ) → b < v.blocks → waits (v.kind b) ≡ true → i < n_in (v.kind b) → forward (w.producer (v.inp b i)) < forward b
  pub low : (b : ℕ) → b < v.blocks → forward b < f
  pub backward : ℕ → ℕ
  pub drops : (b j : ℕ) → b < v.blocks → leans (v.kind b) ≡ true → j < n_out (v.kind b) → backward (w.consumer (v.out b j)) < backward b
  pub short : (b : ℕ) → b < v.blocks → backward b < f

module _ (v : View) (w : Wired v) (mask : ℕ → Bool) (r : ℕ → Reg) (f : ℕ) (k : Ranked v w (suc f)) where
  abbrev asked : ℕ → ℕ → Sig
  asked = ask v w.producer w.out_port w.consumer w.in_port mask r

  abbrev taken : (ℕ → Sig) → ℕ → ℕ → Bool
  taken = ask_ready v w.producer w.out_port w.consumer w.in_port mask r

  -- ## What a channel shows

  -- more questions change no answer
  ask_enough : (n h c : ℕ) → c < v.channels → k.forward (w.producer c) < n → k.forward (w.producer c) < h → asked n c ≡ asked h c
  ask_enough zero h c q a b = absurd (omega arith)
  ask_enough (suc n) zero c q a b = absurd (omega arith)
  ask_enough (suc n) (suc h) c q a b =
      let p : ℕ = w.producer c in
      let hp : p < v.blocks = (w.leaves c q).0 in
      out_local (v.kind p) (mask p) (r p) (λ i. asked n (v.inp p i)) (λ i. asked h (v.inp p i))
      (λ wt i hi. let less : k.forward (w.producer (v.inp p i)) < k.forward p = k.falls p i hp wt hi in
      ask_enough n h (v.inp p i) (w.inp_range p i hp hi) (omega arith) (omega arith)) (w.out_port c)

  -- any signals that every block works out of its inputs are these answers
  ask_unique : (X : ℕ → Sig) → ((b j : ℕ) → b < v.blocks → j < n_out (v.kind b) → X (v.out b j) ≡ out_of (v.kind b) (mask b) (r b) (λ i. X (v.inp b i)) j)
      → (n c : ℕ) → c < v.channels → k.forward (w.producer c) < n → X c ≡ asked n c
  ask_unique X each zero c q a = absurd (omega arith)
  ask_unique X each (suc n) c q a =
      let p : ℕ = w.producer c in
      let l = w.leaves c q in
      ap X (sym l.2)
      ∙ each p (w.out_port c) l.0 l.1
      ∙ out_local (v.kind p) (mask p) (r p) (λ i. X (v.inp p i)) (λ i. asked n (v.inp p i))
      (λ wt i hi. let less : k.forward (w.producer (v.inp p i)) < k.forward p = k.falls p i l.0 wt hi in
      ask_unique X each n (v.inp p i) (w.inp_range p i l.0 hi) (omega arith)) (w.out_port c)

  -- so what is shown at an output is what its block works out of what is shown at its inputs
  ask_solved : (b j : ℕ) → b < v.blocks → j < n_out (v.kind b)
      → asked (suc f) (v.out b j) ≡ out_of (v.kind b) (mask b) (r b) (λ i. asked (suc f) (v.inp b i)) j
  ask_solved b j hb hj =
      rw ((w.leaves-only b j hb hj).0, (w.leaves-only b j hb hj).1)
      (out_local (v.kind b) (mask b) (r b) (λ i. asked f (v.inp b i)) (λ i. asked (suc f) (v.inp b i))
      (λ wt i hi. let less : k.forward (w.producer (v.inp b i)) < k.forward b = k.falls b i hb wt hi in
      let l : k.forward b < suc f = k.low b hb in
      ask_enough f (suc f) (v.inp b i) (w.inp_range b i hb hi) (omega arith) (omega arith)) j)

  -- ## Whether it is ready, where the channels show x

  module _ (x : ℕ → Sig) where
    -- the readiness at the inputs of block p, where that of the channels is y
    abbrev says : ℕ → (ℕ → Bool) → ℕ → Bool
    says p y i = ready_of (v.kind p) (mask p) (r p) (λ i. x (v.inp p i)) (λ j. (x (v.out p j)).valid) (λ j. y (v.out p j)) i

    -- it depends on the channels that p leans on
    leaning : (p : ℕ) (y z : ℕ → Bool) → (leans (v.kind p) ≡ true → (j : ℕ) → j < n_out (v.kind p) → y (v.out p j) ≡ z (v.out p j)) → (i : ℕ) → says p y i ≡ says p z i
    leaning p y z h i =
        ready_local (v.kind p) (mask p) (r p) (λ i. x (v.inp p i)) (λ j. (x (v.out p j)).valid) (λ j. y (v.out p j)) (λ j. z (v.out p j)) h i

    take-enough : (n h c : ℕ) → c < v.channels → k.backward (w.consumer c) < n → k.backward (w.consumer c) < h → taken x n c ≡ taken x h c
    take-enough zero h c q a b = absurd (omega arith)
    take-enough (suc n) zero c q a b = absurd (omega arith)
    take-enough (suc n) (suc h) c q a b =
        let p : ℕ = w.consumer c in
        let hp : p < v.blocks = (w.enters c q).0 in
        leaning p (taken x n) (taken x h)
        (λ ln j hj. let less : k.backward (w.consumer (v.out p j)) < k.backward p = k.drops p j hp ln hj in
        take-enough n h (v.out p j) (w.out_range p j hp hj) (omega arith) (omega arith)) (w.in_port c)

    take-unique : (Y : ℕ → Bool) → ((b i : ℕ) → b < v.blocks → i < n_in (v.kind b) → Y (v.inp b i) ≡ says b Y i)
        → (n c : ℕ) → c < v.channels → k.backward (w.consumer c) < n → Y c ≡ taken x n c
    take-unique Y each zero c q a = absurd (omega arith)
    take-unique Y each (suc n) c q a =
        let p : ℕ = w.consumer c in
        let l = w.enters c q in
        ap Y (sym l.2)
        ∙ each p (w.in_port c) l.0 l.1
        ∙ leaning p Y (taken x n)
        (λ ln j hj. let less : k.backward (w.consumer (v.out p j)) < k.backward p = k.drops p j l.0 ln hj in
        take-unique Y each n (v.out p j) (w.out_range p j l.0 hj) (omega arith)) (w.in_port c)

    take-solved : (b i : ℕ) → b < v.blocks → i < n_in (v.kind b) → taken x (suc f) (v.inp b i) ≡ says b (taken x (suc f)) i
    take-solved b i hb hi =
        rw ((w.enters-only b i hb hi).0, (w.enters-only b i hb hi).1)
        (leaning b (taken x f) (taken x (suc f))
        (λ ln j hj. let less : k.backward (w.consumer (v.out b j)) < k.backward b = k.drops b j hb ln hj in
        let l : k.backward b < suc f = k.short b hb in
        take-enough f (suc f) (v.out b j) (w.out_range b j hb hj) (omega arith) (omega arith)) i)

  -- ## Both

  abbrev answers : Signals
  answers = signals v w.producer w.out_port w.consumer w.in_port mask r (suc f)

  pub cycle_solves : Solves v mask r answers.shows answers.ready
  unfolding signals
  cycle_solves = record { showing = ask_solved; taking = take-solved (asked (suc f)) }

  pub cycle_unique : (X : ℕ → Sig) (Y : ℕ → Bool) → Solves v mask r X Y → (c : ℕ) → c < v.channels → (X c ≡ answers.shows c) × (Y c ≡ answers.ready c)
  unfolding signals
  cycle_unique X Y s c hc = (same c hc, take-unique (asked (suc f)) Y each (suc f) c hc (k.short (w.consumer c) (w.enters c hc).0))
    where
      same : (c : ℕ) → c < v.channels → X c ≡ asked (suc f) c
      same c hc = ask_unique X s.showing (suc f) c hc (k.low (w.producer c) (w.leaves c hc).0)

      each : (b i : ℕ) → b < v.blocks → i < n_in (v.kind b) → Y (v.inp b i) ≡ says (asked (suc f)) b Y i
      each b i hb hi =
          s.taking b i hb hi
          ∙ ready_reads (v.kind b) (mask b) (r b) (λ i. X (v.inp b i)) (λ i. asked (suc f) (v.inp b i)) (λ j. (X (v.out b j)).valid) (λ j. (asked (suc f) (v.out b j)).valid)
          (λ j. Y (v.out b j)) (λ i hi. same (v.inp b i) (w.inp_range b i hb hi)) (λ j hj. ap (λ (z : Sig). z.valid) (same (v.out b j) (w.out_range b j hb hj))) i
