-- Where every channel leaves one port and enters one port, two blocks have no port on one channel, and neither have two ports of one block.
-- Assumes nothing.
use Prim.Native.Nat.{ℕ, suc, ◌<◌}
use mathlib.Core.Path.{◌≡◌, refl, sym, ◌∙◌, ap}
use mathlib.Core.Bool.{Bool, true, false}
use mathlib.Core.Logic.{◌≢◌, ◌⊎◌, inl, inr}
use native.Mathlib.Omega.{arith}
use borrow.Author.Tests.{eqb-true, eqb-false}
use lib.Dec.{eqb}
use Rattle.blocks.specs.Ports.{n_in, n_out}
use Rattle.cycles.specs.Wires.{View}
use Rattle.cycles.proofs.Wiring.{Wired}

-- the last index, or an earlier one
pub last_or : (i n : ℕ) → i < suc n → (i ≡ n) ⊎ (i < n)
last_or i n h = go (eqb i n) refl
  where
    go : (t : Bool) → eqb i n ≡ t → (i ≡ n) ⊎ (i < n)
    go true e = inl (eqb-true i n e)
    go false e = let ne : i ≢ n = eqb-false i n e in inr (omega arith)

module _ (v : View) (w : Wired v) where
  out-block : (b j c : ℕ) → b < v.blocks → j < n_out (v.kind b) → v.out b j ≡ c → w.producer c ≡ b
  out-block b j c hb hj e = ap w.producer (sym e) ∙ (w.leaves-only b j hb hj).0

  inp-block : (b i c : ℕ) → b < v.blocks → i < n_in (v.kind b) → v.inp b i ≡ c → w.consumer c ≡ b
  inp-block b i c hb hi e = ap w.consumer (sym e) ∙ (w.enters-only b i hb hi).0

  -- of two blocks at least one has no port on channel c
  pub outputs_apart : (b x c : ℕ) → b < v.blocks → x < v.blocks → b ≢ x
      → ((j : ℕ) → j < n_out (v.kind b) → v.out b j ≢ c) ⊎ ((j : ℕ) → j < n_out (v.kind x) → v.out x j ≢ c)
  outputs_apart b x c hb hx ne = go (eqb (w.producer c) b) refl
    where
      go : (t : Bool) → eqb (w.producer c) b ≡ t
          → ((j : ℕ) → j < n_out (v.kind b) → v.out b j ≢ c) ⊎ ((j : ℕ) → j < n_out (v.kind x) → v.out x j ≢ c)
      go true q = inr (λ j hj e. ne (sym (eqb-true (w.producer c) b q) ∙ out-block x j c hx hj e))
      go false q = inl (λ j hj e. eqb-false (w.producer c) b q (out-block b j c hb hj e))

  pub inputs_apart : (b x c : ℕ) → b < v.blocks → x < v.blocks → b ≢ x
      → ((i : ℕ) → i < n_in (v.kind b) → v.inp b i ≢ c) ⊎ ((i : ℕ) → i < n_in (v.kind x) → v.inp x i ≢ c)
  inputs_apart b x c hb hx ne = go (eqb (w.consumer c) b) refl
    where
      go : (t : Bool) → eqb (w.consumer c) b ≡ t
          → ((i : ℕ) → i < n_in (v.kind b) → v.inp b i ≢ c) ⊎ ((i : ℕ) → i < n_in (v.kind x) → v.inp x i ≢ c)
      go true q = inr (λ i hi e. ne (sym (eqb-true (w.consumer c) b q) ∙ inp-block x i c hx hi e))
      go false q = inl (λ i hi e. eqb-false (w.consumer c) b q (inp-block b i c hb hi e))

  -- two ports of one block are on different channels
  pub output_alone : (b j k : ℕ) → b < v.blocks → j < n_out (v.kind b) → k < n_out (v.kind b) → v.out b j ≡ v.out b k → j ≡ k
  output_alone b j k hb hj hk e = sym (w.leaves-only b j hb hj).1 ∙ ap w.out_port e ∙ (w.leaves-only b k hb hk).1

  pub input_alone : (b i k : ℕ) → b < v.blocks → i < n_in (v.kind b) → k < n_in (v.kind b) → v.inp b i ≡ v.inp b k → i ≡ k
  input_alone b i k hb hi hk e = sym (w.enters-only b i hb hi).1 ∙ ap w.in_port e ∙ (w.enters-only b k hb hk).1
