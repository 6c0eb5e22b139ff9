-- The answer of a step of an accepted net, by its refusals 13, 14 and 16 in checking order.
-- Assumes nothing.
use Rattle.std.proofs.Common.{◌≡◌, refl, sym, ◌∙◌, Bool, true, false, cond, not, List, ℕ, ◌+◌, ◌≤◌, ◌<◌, arith, lt-ltb, le-ltb}
use Rattle.blocks.specs.declared.Net.{Net}
use Rattle.blocks.specs.declared.Refusal.TheVariants as refusal
use Rattle.cycles.specs.Streams.{ends_fit}
use Rattle.cycles.specs.Cycle.{signals_of}
use Rattle.cycles.specs.State.{regs_of, shape_ok}
use Rattle.cycles.specs.Step.{refusal_by, refused_step, stepped_by, step_by}
use Rattle.blocks.specs.declared.State.{State}
use Rattle.sim.specs.Laid.{tested_no, Failing}

module _ (net : Net) (s : State) (words ends : List ℕ) where
  pub passed : tested_no net s words ends ≡ 0 → (shape_ok net s ≡ true) × (ends_fit net words ends ≡ true)
  passed z = by (shape_ok net s) (ends_fit net words ends) z
    where
      by : (a b : Bool) → ◌≡◌ {A = ℕ} (cond (not a) 13 (cond (not b) 14 0)) 0 → (a ≡ true) × (b ≡ true)
      by true true p = (refl, refl)
      by true false p = absurd (omega (arith, p))
      by false b p = absurd (omega (arith, p))

  pub state-fails : shape_ok net s ≡ false → Failing net s words ends refusal.State
  state-fails e = let t : tested_no net s words ends ≡ 13 = rw e in record { tested = sym t; fails = λ z. omega (arith, sym t ∙ z) }

  pub ends-fail : shape_ok net s ≡ true → ends_fit net words ends ≡ false → Failing net s words ends refusal.Streams
  ends-fail e d = let t : tested_no net s words ends ≡ 14 = rw (e, d) in record { tested = sym t; fails = λ z. omega (arith, sym t ∙ z) }

  pub none-fails : shape_ok net s ≡ true → ends_fit net words ends ≡ true → tested_no net s words ends ≡ 0
  none-fails e d = rw (e, d)

  -- ## The answer

  module _ (offer ready : ℕ) where
    pub refused-12 : refused_step 12 s ≡ step_by false net s words ends offer ready
    unfolding step_by refusal_by
    refused-12 = refl

    pub refused-tested : (n : ℕ) → n ≡ tested_no net s words ends → (tested_no net s words ends ≡ 0 → ⊥) → refused_step n s ≡ step_by true net s words ends offer ready
    unfolding step_by refusal_by
    refused-tested n e z = by (shape_ok net s) (ends_fit net words ends) refl refl
      where
        by : (a b : Bool) → shape_ok net s ≡ a → ends_fit net words ends ≡ b → refused_step n s ≡ step_by true net s words ends offer ready
        by true true p q = absurd (z (rw (p, q)))
        by true false p q = rw (e, p, q)
        by false b p q = rw (e, p)

    module _ (shape : shape_ok net s ≡ true) (fit : ends_fit net words ends ≡ true) where
      pub refused-16 : 1048576 ≤ s.count → refused_step 16 s ≡ step_by true net s words ends offer ready
      unfolding step_by refusal_by
      refused-16 l = rw (shape, fit, lt-ltb 1048576 (s.count + 1) (omega arith))

      pub not-refused : s.count < 1048576 → stepped_by net s words ends (signals_of net words ends offer ready (regs_of s)) ≡ step_by true net s words ends offer ready
      unfolding step_by refusal_by
      not-refused l = rw (shape, fit, le-ltb 1048576 (s.count + 1) (omega arith))
