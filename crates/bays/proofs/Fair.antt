-- A bay that wants a cycle in every call of `next` comes nearer to its turn with each call that serves another one.
-- Assumes nothing.
use Prim.Native.Nat.{ℕ, zero, suc, ◌+◌, ◌-◌, ◌%◌, ◌≤◌, ◌<◌}
use mathlib.Core.Path.{◌≡◌, refl, subst}
use mathlib.Core.Bool.{true}
use mathlib.Core.Logic.{◌⊎◌, inl, inr}
use mathlib.Core.List.{List, [], ◌∷◌, Memᴰ}
use native.Mathlib.Decide.{ℕ_discrete}
use native.Mathlib.Omega.{arith}
use lib.ListN.{length, take}
use Rattle.blocks.specs.Folds.{bit}
use Rattle.blocks.specs.declared.Net.{Net}
use Rattle.bays.specs.Calls.{first_wanting, next_bay}
use Rattle.bays.specs.Promised.{step, next, answer, CallOn, on, named, Wants}
use Rattle.bays.specs.declared.Bays.{Bays}
use Rattle.bays.specs.declared.Turned.{Turned}
use Rattle.bays.proofs.Turns.{nearer, mask_of_lem, next_serves, step_keeps, turn_in}

module _ (b : ℕ) where
  -- bay b is asked after d others
  abbrev Asked : Bays → ℕ → Type 0
  Asked r d = (r.turn + d) % 4 ≡ b

  -- an answer serves bay b, or fewer are asked before it afterwards
  abbrev Closer : ℕ → Turned → Type 0
  Closer d t = (b ≡ t.bay) ⊎ ((e : ℕ) × (e < d) × Asked t.step.bays e)

  closer : (net : Net) (r : Bays) (words ends masks : List ℕ) (want d : ℕ) → r.turn < 4 → d < 4 → Asked r d → bit b want ≡ true
      → Closer d (next_bay net r words ends masks want)
  closer net r words ends masks want d h l z w =
      let x = nearer r.turn want d l (rw z w) in
      let k : ℕ = first_wanting r.turn want in
      subst (Closer d) (next_serves net r words ends masks want (mask_of_lem b want (omega arith) w) h k refl) (by k x.0 x.2 x.1 (ℕ_discrete x.0 d))
    where
      by : (k i : ℕ) → k ≡ (r.turn + i) % 4 → i ≤ d → Dec (i ≡ d) → (b ≡ k) ⊎ ((e : ℕ) × (e < d) × (((k + 1) % 4 + e) % 4 ≡ b))
      by k i q u (yes e) = inl (omega arith)
      by k i q u (no n) = inr (d - i - 1, omega arith, omega arith)

  -- so it is among the first n named, where fewer than n are asked before it
  pub served-from : (calls : List CallOn) (r : Bays) (n d : ℕ) → r.turn < 4 → d < 4 → d < n → Asked r d → ((m : CallOn) → Memᴰ m calls → Wants b m)
      → d < length (named r calls) → Memᴰ b (take n (named r calls))
  served-from [] r n d h l s z w many = absurd (omega arith)
  served-from (on net words ends (step k masks) ∷ ms) r n d h l s z w many =
      let t = step_keeps net r k words ends masks.0 masks.1 in
      served-from ms (answer net words ends r (step k masks)).bays n d (omega (arith, t)) l s (omega (arith, t)) (λ m i. w m (Memᴰ.tail i)) many
  served-from (on net words ends (next masks want) ∷ ms) r zero d h l s z w many = absurd (omega arith)
  served-from (on net words ends (next masks want) ∷ ms) r (suc n) d h l s z w many =
      by (closer net r words ends masks want d h l z (w _ (Memᴰ.head refl)))
      (λ e q a. served-from ms (answer net words ends r (next masks want)).bays n e (turn_in net words ends r (next masks want) h) (omega arith) (omega arith) a
      (λ m i. w m (Memᴰ.tail i)) (omega arith))
    where
      by : Closer d (next_bay net r words ends masks want)
          → ((e : ℕ) → e < d → Asked (answer net words ends r (next masks want)).bays e → Memᴰ b (take n (named (answer net words ends r (next masks want)).bays ms)))
          → Memᴰ b (take (suc n) (named r (on net words ends (next masks want) ∷ ms)))
      by (inl e) rest = Memᴰ.head e
      by (inr x) rest = Memᴰ.tail (rest x.0 x.1 x.2)
