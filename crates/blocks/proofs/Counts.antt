-- What the port counts say of a kind and its m: m is at most 8, and no block has over ten ports.
-- Assumes nothing.
use Rattle.std.proofs.Common.{◌≡◌, ℕ, ◌+◌, ◌≤◌, Bool, true, false, cond, ◌&&◌, eqb, leb, ◌⊎◌, Option, Some, None, refl, inl, inr, arith, eqb-true, leb-true}
use Rattle.blocks.specs.Ports.{counts_of, ports_of, m_ok, inputs_of, outputs_of, input_count, output_count}
use Rattle.blocks.specs.declared.Ports.{Ports}
use Rattle.blocks.proofs.Folds.{which, clash, and_2}
use Rattle.blocks.proofs.Numbers.{by_kind, beyond, no_kind}

-- ## Few ports

module _ (m : ℕ) where
  no_m : eqb m 0 ≡ true → m ≤ 8
  no_m e = omega (arith, eqb-true m 0 e)

  operation : leb m 3 ≡ true → m ≤ 8
  operation e = omega (arith, leb-true m 3 e)

  side : (leb 2 m && leb m 8) ≡ true → m ≤ 8
  side e = leb-true m 8 (and_2 (leb 2 m) (leb m 8) e)

  -- no kind takes an m above 8
  pub m_most : (k : ℕ) → m_ok k m ≡ true → m ≤ 8
  m_most =
      by_kind (λ k. m_ok k m ≡ true → m ≤ 8) no_m no_m operation operation side side side side no_m no_m no_m
      (λ k e. clash e (no_kind (beyond k) m (omega arith)))

  few : m ≤ 8 → (k : ℕ) → m_ok k m ≡ true → inputs_of k m + outputs_of k m ≤ 10
  few h =
      by_kind (λ k. m_ok k m ≡ true → inputs_of k m + outputs_of k m ≤ 10) (λ e. omega arith) (λ e. omega arith) (λ e. omega arith) (λ e. omega arith) (λ e. omega arith)
      (λ e. omega arith) (λ e. omega arith) (λ e. omega arith) (λ e. omega arith) (λ e. omega arith) (λ e. omega arith) (λ k e. clash e (no_kind (beyond k) m (omega arith)))

-- ## The counts, and whether the kind and m are in use

abbrev pub in_use : Option Ports → Bool
in_use (Some p) = true
in_use None = false

module _ (k m : ℕ) where
  pub counted : m_ok k m ≡ true → Some (counts_of k m) ≡ ports_of k m
  unfolding ports_of
  counted t = rw t

  -- what there are counts of is in use
  pub in_use_lem : m_ok k m ≡ in_use (ports_of k m)
  unfolding ports_of
  in_use_lem = go (m_ok k m)
    where
      go : (b : Bool) → b ≡ in_use (cond b (Some (counts_of k m)) None)
      go true = refl
      go false = refl

  -- no block has over ten ports
  pub ten_ports : input_count (ports_of k m) + output_count (ports_of k m) ≤ 10
  unfolding ports_of
  ten_ports = go (which (m_ok k m))
    where
      go : (m_ok k m ≡ true) ⊎ (m_ok k m ≡ false) → input_count (ports_of k m) + output_count (ports_of k m) ≤ 10
      go (inl t) = rw t (few m (m_most m k t) k t)
      go (inr t) = rw t (omega arith)

  pub count_small : (p : Ports) → ports_of k m ≡ Some p → p.inputs + p.outputs ≤ 10
  count_small p e = rw e at ten_ports
