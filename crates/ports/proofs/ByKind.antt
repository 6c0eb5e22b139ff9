-- From what is put onto a block's ports to what it is for the block to be worked out.
-- Assumes nothing.
use Prim.Native.Nat.{ℕ, zero, suc, ◌+◌, ◌<◌}
use mathlib.Core.Path.{◌≡◌, refl, sym, ap, ◌∙◌, subst}
use mathlib.Core.Bool.{Bool}
use native.Mathlib.Omega.{arith}
use Rattle.blocks.specs.Kinds.{Kind}
use Rattle.blocks.specs.Ports.{n_in, n_out}
use Rattle.blocks.specs.Equations.{out_of, ready_of}
use Rattle.blocks.specs.declared.Block.{Block}
use Rattle.blocks.specs.declared.Sig.{Sig}
use Rattle.blocks.specs.declared.Reg.{Reg}
use Rattle.ports.specs.Places.{port_at, Apart, Put}
use Rattle.ports.specs.Worked.{out_at, ins_show, outs_valid, outs_ready, Forward, Backward}
use Rattle.ports.proofs.Puts.{put_as, put_more, put_join}

-- port i and the first of the ports from i on are one
pub port_first : (block : Block) (i j : ℕ) → j < 1 → port_at block i ≡ port_at block (i + j)
port_first block i j h = let e : i ≡ i + j = omega arith in ap (port_at block) e

zero-below : (P : ℕ → Type 0) → P 0 → (j : ℕ) → j < 1 → P j
zero-below P p zero h = p
zero-below P p (suc j) h = absurd (omega arith)

-- a block with one output
pub one_output : (K : Kind) (mask : Bool) (r : Reg) (block : Block) (f g : ℕ → Sig) (s : Sig) → n_out K ≡ 1
    → Put (λ j. port_at block (n_in K + j)) (λ j. s) 1 f g → s ≡ out_of K mask r (ins_show block f) 0 → Forward K mask r block f g
one_output K mask r block f g s one p e =
    subst (λ (n : ℕ). Put (out_at K block) (out_of K mask r (ins_show block f)) n f g) (sym one)
    (put_as (out_at K block) (out_at K block) (λ j. s) (out_of K mask r (ins_show block f)) 1 f g (λ j h. refl)
    (zero-below (λ j. s ≡ out_of K mask r (ins_show block f) j) e) p)

-- readiness at the ports from 0 on
from_zero : (block : Block) (j : ℕ) → port_at block (0 + j) ≡ port_at block j
from_zero block j = let e : 0 + j ≡ j = omega arith in ap (port_at block) e

module _ (K : Kind) (mask : Bool) (r : Reg) (block : Block) (shows : ℕ → Sig) (f : ℕ → Bool) where
  abbrev says : ℕ → Bool
  says = ready_of K mask r (ins_show block shows) (outs_valid K block shows) (outs_ready K block f)

  pub all_inputs : (what : ℕ → Bool) (g : ℕ → Bool) (n : ℕ) → n_in K ≡ n → Put (λ j. port_at block (0 + j)) what n f g → ((i : ℕ) → i < n → what i ≡ says i)
      → Backward K mask r block shows f g
  all_inputs what g n e p h =
      subst (λ (k : ℕ). Put (port_at block) says k f g) (sym e)
      (put_as (λ j. port_at block (0 + j)) (port_at block) what says n f g (λ j l. from_zero block j) h p)

  -- a block with one input
  pub one_input : (t : Bool) (g : ℕ → Bool) → n_in K ≡ 1 → Put (λ j. port_at block (0 + j)) (λ j. t) 1 f g → t ≡ says 0 → Backward K mask r block shows f g
  one_input t g e p h = all_inputs (λ j. t) g 1 e p (zero-below (λ j. t ≡ says j) h)

  -- a first input, then n more
  pub first_and_more : (t : Bool) (what : ℕ → Bool) (n : ℕ) (g h : ℕ → Bool) → n_in K ≡ n + 1 → Apart (port_at block) (n + 1)
      → Put (λ j. port_at block (0 + j)) (λ j. t) 1 f g → Put (λ j. port_at block (1 + j)) what n g h → t ≡ says 0
      → ((i : ℕ) → i < n → what i ≡ says (suc i)) → Backward K mask r block shows f h
  first_and_more t what n g h e apart p q t0 hw =
      let c : n + 1 ≡ 1 + n = omega arith in
      subst (λ (k : ℕ). Put (port_at block) says k f h) (sym (e ∙ c))
      (put_join (port_at block) says 1 n f g h (subst (Apart (port_at block)) c apart)
      (put_as (λ j. port_at block (0 + j)) (port_at block) (λ j. t) says 1 f g (λ j l. from_zero block j) (zero-below (λ j. t ≡ says j) t0) p)
      (put_as (λ j. port_at block (1 + j)) (λ j. port_at block (1 + j)) what (λ j. says (1 + j)) n g h (λ j l. refl)
      (λ j l. hw j l ∙ ap says (let z : suc j ≡ 1 + j = omega arith in z)) q))

-- one port more, of ports that stand one after the other and are at different places
pub put_port_more : {A : Type 0} (block : Block) (first n i : ℕ) (what : ℕ → A) (f g h : ℕ → A) (s : A) → Apart (λ j. port_at block (first + j)) n → i < n
    → Put (λ j. port_at block (first + j)) what i f g → Put (λ j. port_at block (first + i + j)) (λ j. s) 1 g h → s ≡ what i
    → Put (λ j. port_at block (first + j)) what (i + 1) f h
put_port_more block first n i what f g h s apart l p q e =
    put_more (λ j. port_at block (first + j)) what i f g h
    (λ j lj z. let same : j ≡ i = apart j i (omega arith) l z in omega arith) p
    (put_as (λ j. port_at block (first + i + j)) (λ j. port_at block (first + i)) (λ j. s) (λ j. what i) 1 g h (λ j lj. sym (port_first block (first + i) j lj)) (λ j lj. e) q)
