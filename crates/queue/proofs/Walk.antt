-- Laws of `walk`, which goes over a block's ports and changes what belongs to one channel: elsewhere nothing changes, at one port alone one change is made,
-- and walks over ports on other channels may come in either order.
-- Assumes nothing.
use Prim.Native.Nat.{ℕ, zero, suc, ◌<◌}
use mathlib.Core.Path.{◌≡◌, refl, sym, ◌∙◌, ap}
use mathlib.Core.Bool.{Bool, true, false}
use mathlib.Core.Logic.{◌≢◌, ◌⊎◌, inl, inr, ⊎_elim}
use mathlib.Core.List.{List, ◌++◌, IsPrefix}
use native.Mathlib.Nat.{not-suc-le-zero}
use native.Mathlib.Omega.{arith}
use borrow.Author.Tests.{eqb-true, eq-eqb, ne_eqb}
use lib.Dec.{eqb}
use Rattle.queue.specs.Machine.{change, walk}
use Rattle.queue.proofs.Words.{prefix_refl, prefix_trans}
use Rattle.queue.proofs.Apart.{last_or}

pub change_other {ℓ} : {A : Type ℓ} (p x : ℕ) → p ≢ x → (f : A → A) (u : A) → change (eqb p x) f u ≡ u
change_other p x ne f u = rw (ne_eqb p x ne)

-- a walk over ports of which none is on channel c changes nothing there
pub walk_elsewhere {ℓ} : {A : Type ℓ} (port : ℕ → ℕ) (n c : ℕ) (f : ℕ → A → A) (u : A) → ((j : ℕ) → j < n → port j ≢ c) → walk port n c f u ≡ u
walk_elsewhere port zero c f u none-on = refl
walk_elsewhere port (suc n) c f u none-on =
    change_other (port n) c (none-on n (omega arith)) (f n) (walk port n c f u)
    ∙ walk_elsewhere port n c f u (λ j h. none-on j (omega arith))

-- where at least one of two walks has no port on channel c, they may come in either order
pub walk_swap {ℓ} : {A : Type ℓ} (port port' : ℕ → ℕ) (n n' c : ℕ) (f g : ℕ → A → A) (u : A)
    → ((j : ℕ) → j < n → port j ≢ c) ⊎ ((j : ℕ) → j < n' → port' j ≢ c)
    → walk port n c f (walk port' n' c g u) ≡ walk port' n' c g (walk port n c f u)
walk_swap port port' n n' c f g u (inl e) =
    walk_elsewhere port n c f (walk port' n' c g u) e ∙ ap (walk port' n' c g) (sym (walk_elsewhere port n c f u e))
walk_swap port port' n n' c f g u (inr e) =
    ap (walk port n c f) (walk_elsewhere port' n' c g u e) ∙ sym (walk_elsewhere port' n' c g (walk port n c f u) e)

pub change_swap {ℓ} : {A : Type ℓ} (p b x : ℕ) → b ≢ x → (f g : A → A) (u : A)
    → change (eqb p b) f (change (eqb p x) g u) ≡ change (eqb p x) g (change (eqb p b) f u)
change_swap {A = A} p b x ne f g u = go (eqb p b) (eqb p x) (λ e e'. ne (sym (eqb-true p b e) ∙ eqb-true p x e'))
  where
    go : (t t' : Bool) → (t ≡ true → t' ≡ true → ⊥) → change t f (change t' g u) ≡ change t' g (change t f u)
    go true true not-both = absurd (not-both refl refl)
    go true false not-both = refl
    go false true not-both = refl
    go false false not-both = refl

-- putting words only adds to a queue
pub walk-grows : (port : ℕ → ℕ) (n c : ℕ) (put : ℕ → List ℕ) (l : List ℕ) → IsPrefix l (walk port n c (λ j l. l ++ put j) l)
walk-grows port zero c put l = prefix_refl l
walk-grows port (suc n) c put l = go (eqb (port n) c) (walk port n c (λ j l. l ++ put j) l) (walk-grows port n c put l)
  where
    go : (t : Bool) (r : List ℕ) → IsPrefix l r → IsPrefix l (change t (λ l. l ++ put n) r)
    go true r p = prefix_trans l r (r ++ put n) p (put n, refl)
    go false r p = p

-- a walk over ports of which one alone is on channel c makes its change once
pub walk_here {ℓ} : {A : Type ℓ} (port : ℕ → ℕ) (n c : ℕ) (f : ℕ → A → A) (u : A) (j : ℕ) → j < n → port j ≡ c
    → ((k : ℕ) → k < n → port k ≡ c → k ≡ j) → walk port n c f u ≡ f j u
walk_here port zero c f u j h e alone = absurd (not-suc-le-zero h)
walk_here {A = A} port (suc n) c f u j h e alone =
    ⊎_elim
    (λ (q : j ≡ n).
    rw (eq-eqb (port n) c (ap port (sym q) ∙ e), walk_elsewhere port n c f u (λ k hk ek. let same : k ≡ j = alone k (omega arith) ek in omega arith))
    (ap (λ (k : ℕ). f k u) (sym q)))
    (λ (l : j < n).
    change_other (port n) c (λ en. let same : n ≡ j = alone n (omega arith) en in omega arith) (f n) (walk port n c f u)
    ∙ walk_here port n c f u j l e (λ k hk ek. alone k (omega arith) ek))
    (last_or j n h)
