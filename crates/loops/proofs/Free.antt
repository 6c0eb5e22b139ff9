-- A loop on which every block has a property, said in two ways: the property of every block on the loop, or of both ends of every channel.
-- Assumes nothing.
use mathlib.Core.Path.{refl, sym, subst}
use mathlib.Core.List.{List, [], ◌∷◌}
use mathlib.Core.Logic.{inl, inr}
use Prim.Native.Nat.{ℕ}
use Rattle.loops.specs.Walk.{Walk, Loop, On, LoopOf}

module _ (S F : ℕ → ℕ → ℕ → Type 0) (P : ℕ → Type 0) (out : (c a b : ℕ) → F c a b → S c a b) (from : (c a b : ℕ) → F c a b → P a)
    (into : (c a b : ℕ) → S c a b → P a → P b → F c a b) where
  abbrev lower : (cs : List ℕ) (a b : ℕ) → Walk F a cs b → Walk S a cs b
  lower [] a b w = w
  lower (c ∷ cs) a b w = (w.0, out c a w.0 w.1, lower cs w.0 b w.2)

  lower_on : (cs : List ℕ) (a b : ℕ) (w : Walk F a cs b) (x : ℕ) → On S cs a b (lower cs a b w) x → P x
  lower_on [] a b w x o = absurd o
  lower_on (c ∷ cs) a b w x (inl e) = subst P (sym e) (from c a w.0 w.1)
  lower_on (c ∷ cs) a b w x (inr o) = lower_on cs w.0 b w.2 x o

  begins : (cs : List ℕ) (a b : ℕ) (w : Walk S a cs b) → ((x : ℕ) → On S cs a b w x → P x) → P b → P a
  begins [] a b w h p = subst P (sym w) p
  begins (c ∷ cs) a b w h p = h a (inl refl)

  raise : (cs : List ℕ) (a b : ℕ) (w : Walk S a cs b) → ((x : ℕ) → On S cs a b w x → P x) → P b → Walk F a cs b
  raise [] a b w h p = w
  raise (c ∷ cs) a b w h p =
      (w.0, into c a w.0 w.1 (h a (inl refl)) (begins cs w.0 b w.2 (λ x o. h x (inr o)) p), raise cs w.0 b w.2 (λ x o. h x (inr o)) p)

  pub to_blocks : Loop F → LoopOf S P
  to_blocks l =
      record {
        loop =
            record {
              start = l.start;
              first = l.first;
              rest = l.rest;
              closed = lower (l.first ∷ l.rest) l.start l.start l.closed;
            };
        all = lower_on (l.first ∷ l.rest) l.start l.start l.closed;
      }

  pub to_ends : LoopOf S P → Loop F
  to_ends l =
      record {
        start = l.loop.start;
        first = l.loop.first;
        rest = l.loop.rest;
        closed = raise (l.loop.first ∷ l.loop.rest) l.loop.start l.loop.start l.loop.closed l.all (l.all l.loop.start (inl refl));
      }
