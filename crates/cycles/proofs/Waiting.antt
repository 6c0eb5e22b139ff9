-- Which blocks wait in a cycle, by document 01's numbers: what waits for its inputs is no data buffer, and what waits for its outputs to be ready is no control buffer.
-- Assumes nothing.
use Prim.Native.Nat.{ℕ}
use mathlib.Core.Path.{◌≡◌, refl}
use mathlib.Core.Bool.{true, false}
use mathlib.Core.List.{List}
use native.Mathlib.Omega.{arith}
use borrow.Author.Tests.{ne_eqb}
use Rattle.blocks.specs.Kinds.{kind_of}
use Rattle.blocks.proofs.Folds.{clash}
use Rattle.blocks.proofs.Local.{waits, leans}
use Rattle.blocks.proofs.Numbers.{beyond, by_kind}
use Rattle.nets.specs.Loops.{is_buffer}

module _ (m value : ℕ) (xs : List ℕ) where
  -- a block whose outputs wait for its inputs is no data buffer
  pub waits_free : (k : ℕ) → waits (kind_of k m value xs) ≡ true → is_buffer false k ≡ false
  waits_free =
      by_kind (λ k. waits (kind_of k m value xs) ≡ true → is_buffer false k ≡ false) (λ e. refl) (λ e. refl) (λ e. refl) (λ e. refl) (λ e. refl) (λ e. refl) (λ e. refl) (λ e. refl)
      (λ e. clash e refl) (λ e. clash e refl) (λ e. refl) (λ k e. rw (ne_eqb (beyond k) 8 (λ z. omega arith), ne_eqb (beyond k) 9 (λ z. omega arith)))

  -- a block whose readiness leans on its outputs is no control buffer
  pub leans_free : (k : ℕ) → leans (kind_of k m value xs) ≡ true → is_buffer true k ≡ false
  leans_free =
      by_kind (λ k. leans (kind_of k m value xs) ≡ true → is_buffer true k ≡ false) (λ e. refl) (λ e. refl) (λ e. refl) (λ e. refl) (λ e. refl) (λ e. refl) (λ e. refl) (λ e. refl)
      (λ e. refl) (λ e. refl) (λ e. clash e refl) (λ k e. ne_eqb (beyond k) 10 (λ z. omega arith))
