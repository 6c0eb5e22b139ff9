-- What a reader yields, case by case, and what a caller learns of it.
-- Assumes nothing.
use Prim.Native.Nat.{ℕ, ◌+◌, ◌<◌, ◌≤◌}
use native.Mathlib.Omega.{arith}
use mathlib.Core.Path.{◌≡◌, refl, ap, sym, ◌∙◌}
use mathlib.Core.List.{List}
use mathlib.Core.Bool.{and-false}
use Rattle.std.proofs.Common.{Option, Some, None}
use borrow.Author.Tests.{le-leb, lt-leb, lt-ltb}
use Rattle.reader.specs.Bits.{field_at}
use Rattle.reader.specs.Steps.{step_of, step_at}
use Rattle.reader.specs.declared.Field.{Field}

module _ (f : List ℕ) (at w : ℕ) where
  -- what it does not serve
  pub far : 65536 < at → None ≡ step_at f at w
  unfolding step_at
  far h = rw (lt-leb at 65536 h) refl

  pub empty : w ≡ 0 → None ≡ step_at f at w
  unfolding step_at
  empty h = rw (h, and-false) refl

  pub wide : 32 < w → None ≡ step_at f at w
  unfolding step_at
  wide h = rw (lt-leb w 32 h, and-false, and-false) refl

  -- and what it serves
  pub step_served : at ≤ 65536 → 0 < w → w ≤ 32 → step_at f at w ≡ step_of (field_at f at w) (at + w)
  unfolding step_at
  step_served near long narrow = rw (le-leb at 65536 near, lt-ltb 0 w long, le-leb w 32 narrow) refl

got_of : (x : Option ℕ) (n : ℕ) (p : Field) → step_of x n ≡ Some p → (x ≡ Some p.value) × (p.end ≡ n)
got_of (Some u) n p h = (ap (λ (k : ℕ). Some k) cc, cc)
got_of None n p h = let z : ◌≡◌ {A = ℕ} 0 1 = cc in absurd (omega arith)

end_of : (x : Option ℕ) (n : ℕ) → step_of x n ≡ None → x ≡ None
end_of (Some u) n h = let z : ◌≡◌ {A = ℕ} 0 1 = cc in absurd (omega arith)
end_of None n h = refl

-- what a caller learns
module _ (f : List ℕ) (at w : ℕ) (near : at ≤ 65536) (long : 0 < w) (narrow : w ≤ 32) where
  pub step_got : (p : Field) → step_at f at w ≡ Some p → (field_at f at w ≡ Some p.value) × (p.end ≡ at + w)
  step_got p h = got_of (field_at f at w) (at + w) p (sym (step_served f at w near long narrow) ∙ h)

  pub step_end : step_at f at w ≡ None → field_at f at w ≡ None
  step_end h = end_of (field_at f at w) (at + w) (sym (step_served f at w near long narrow) ∙ h)
