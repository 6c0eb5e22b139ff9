-- What may be missing: laws of `none` and `some`, of `named`, `chosen` and `_then_`.
-- Assumes nothing.
use Rattle.std.proofs.Common.{◌≡◌, ℕ, zero, suc, ◌-◌, ◌<◌, Bool, true, false, cond, ◌&&◌, eqb, ltb, refl, ap, arith, ltb-true}
use mathlib.Core.Bool.{false≢true}
use mathlib.Core.Option.{Option, none, some}
use Rattle.blocks.specs.Words.{last_of, reach}
use Rattle.blocks.specs.Signals.{nothing, chosen, named}
use Rattle.blocks.specs.Equations.{recorded}
use Rattle.blocks.specs.Firing.{◌then◌}
use Rattle.blocks.specs.declared.Sig.{Sig}

pub none-some : {A B : Type 0} {a : A} → none ≡ some a → B
none-some {A} {B} {a} e = let z : ◌≡◌ {A = ℕ} 0 1 = cc in absurd (omega arith)

-- a test decides, and the decision comes with its equation
abbrev pub test : {C : Type 0} (t : Bool) → (t ≡ true → C) → (t ≡ false → C) → C
test true yes-case no-case = yes-case refl
test false yes-case no-case = no-case refl

-- whatever o holds, p holds
abbrev pub Below : {A : Type 0} → Option A → Option A → Type 0
Below {A} o p = (a : A) → o ≡ some a → p ≡ some a

pub then_there : {A B : Type 0} (o : Option A) (f : A → Option B) (b : B) → (o then f) ≡ some b → (a : A) × (o ≡ some a) × (f a ≡ some b)
then_there none f b e = none-some e
then_there (some a) f b e = (a, refl, e)

-- what holds under a test
pub if_there : {A : Type 0} (t : Bool) (o : Option A) (x : A) → cond t o none ≡ some x → (t ≡ true) × (o ≡ some x)
if_there true o x e = (refl, e)
if_there false o x e = none-some e

pub if_below : {A : Type 0} (t : Bool) (o p : Option A) → (t ≡ true → Below o p) → Below (cond t o none) (cond t p none)
if_below true o p h x e = h refl x e
if_below false o p h x e = e

pub named_true : {A : Type 0} (o : Option A) (g : A → Bool) → named o g ≡ true → (a : A) × (o ≡ some a) × (g a ≡ true)
named_true none g e = absurd (false≢true e)
named_true (some a) g e = (a, refl, e)

pub named_same : (o : Option ℕ) (g h : ℕ → Bool) → ((t : ℕ) → o ≡ some t → g t ≡ h t) → named o g ≡ named o h
named_same none g h k = refl
named_same (some t) g h k = k t refl

pub chosen_same : (o : Option ℕ) (x y : ℕ → Sig) → ((t : ℕ) → o ≡ some t → x t ≡ y t) → chosen o x ≡ chosen o y
chosen_same none x y k = refl
chosen_same (some t) x y k = k t refl

pub chosen-valid : (o : Option ℕ) (x : ℕ → Sig) → (chosen o x).valid ≡ named o (λ t. (x t).valid)
chosen-valid none x = refl
chosen-valid (some t) x = refl

-- ## The port that a select word names

last_below : (m t : ℕ) → last_of m ≡ some t → t < m
last_below zero t e = none-some e
last_below (suc k) t e = let z : k ≡ t = cc in omega arith

pub reach-below : (m s t : ℕ) → reach m s ≡ some t → t < m
unfolding reach
reach-below m s t = go (ltb s m) refl
  where
    go : (x : Bool) → ltb s m ≡ x → cond x (some s) (last_of m) ≡ some t → t < m
    go true l e = let z : s ≡ t = cc in omega (arith, ltb-true s m l)
    go false l e = last_below m t e

-- where there are ports, every select word names one: that of its own number, or m - 1 (request 1)
pub reach_is : (m s : ℕ) → 0 < m → reach m s ≡ some (cond (ltb s m) s (m - 1))
unfolding reach
reach_is zero s h = absurd (omega arith)
reach_is (suc k) s h = go (ltb s (suc k))
  where
    go : (x : Bool) → cond x (some s) (last_of (suc k)) ≡ some (cond x s (suc k - 1))
    go true = refl
    go false = let z : k ≡ suc k - 1 = omega arith in ap some z

-- ## The winner as the register has it

pub won-none : (o : Option ℕ) (x : ℕ → Sig) → recorded o ≡ 0 → chosen o x ≡ nothing
won-none none x e = refl
won-none (some t) x e = absurd (omega arith)

pub won-some : (o : Option ℕ) (x : ℕ → Sig) (w : ℕ) → w ≡ recorded o → (w ≡ 0 → ⊥) → chosen o x ≡ x (w - 1)
won-some none x w e n = absurd (n e)
won-some (some t) x w e n = let z : t ≡ w - 1 = omega arith in ap x z

pub won_high : (o : Option ℕ) (m w : ℕ) → ((t : ℕ) → o ≡ some t → t < m) → w ≡ recorded o → m < w → ⊥
won_high none m w below e h = omega arith
won_high (some t) m w below e h = omega (arith, below t refl)

-- the winner's input by its number, where a winner whose input is valid is ready
pub won-number : (o : Option ℕ) (x : ℕ → Sig) (d : Bool) (i w : ℕ) → w ≡ recorded o → (((chosen o x).valid && d) && eqb i (w - 1)) ≡ (((chosen o x).valid && d) && named o (eqb i))
won-number none x d i w e = refl
won-number (some t) x d i w e = let z : w - 1 ≡ t = omega arith in rw z
