-- Orders and loops: where a number grows along every channel there is no loop, and where every block of a set has
-- a producer in the set there is one.
-- Assumes nothing.
use mathlib.Core.Path.{◌≡◌, sym, ap, subst}
use mathlib.Core.List.{List, [], ◌∷◌}
use Prim.Native.Nat.{ℕ, zero, suc, ◌≤◌, ◌<◌}
use native.Mathlib.Decide.{ℕ_discrete}
use native.Mathlib.Omega.{arith}
use Rattle.loops.specs.Walk.{Walk, Loop}
use Rattle.loops.proofs.Pigeon.{pigeon, Twice}

module _ (S : ℕ → ℕ → ℕ → Type 0) where
  -- the number does not fall along a walk, and grows if the walk has a channel
  pub grows : (rank : ℕ → ℕ) → ((c a b : ℕ) → S c a b → rank a < rank b) → (cs : List ℕ) (a b : ℕ) → Walk S a cs b → rank a ≤ rank b
  grows rank up [] a b w = rw w (omega arith)
  grows rank up (c ∷ cs) a b (x, s, w) = omega (arith, up c a x s, grows rank up cs x b w)

  pub no_loop : (rank : ℕ → ℕ) → ((c a b : ℕ) → S c a b → rank a < rank b) → Loop S → ⊥
  no_loop rank up l =
      omega (arith, up l.first l.start l.closed.0 l.closed.1, grows rank up l.rest l.closed.0 l.start l.closed.2)

  -- a set of numbers in which each has a producer
  module _ (U : ℕ → Type 0) (back : (x : ℕ) → U x → (y : ℕ) × (c : ℕ) × U y × S c y x) where
    abbrev chain : (x : ℕ) → U x → ℕ → (y : ℕ) × U y
    chain x u zero = (x, u)
    chain x u (suc k) = ((back (chain x u k).0 (chain x u k).1).0, (back (chain x u k).0 (chain x u k).1).2)

    -- from the block j steps back to the block i steps back
    lead : (x : ℕ) (u : U x) (i j : ℕ) → i ≤ j → (cs : List ℕ) × Walk S (chain x u j).0 cs (chain x u i).0
    lead x u i zero h = ([], ap (λ (k : ℕ). (chain x u k).0) (zero_is h))
      where
        zero_is : i ≤ 0 → 0 ≡ i
        zero_is q = omega arith
    lead x u i (suc j) h = go (ℕ_discrete i (suc j)) (lead x u i j)
      where
        go : Dec (i ≡ suc j) → (i ≤ j → (cs : List ℕ) × Walk S (chain x u j).0 cs (chain x u i).0)
            → (cs : List ℕ) × Walk S (chain x u (suc j)).0 cs (chain x u i).0
        go (yes e) rec = ([], ap (λ (k : ℕ). (chain x u k).0) (sym e))
        go (no e) rec = (
          (back (chain x u j).0 (chain x u j).1).1 ∷ (rec (omega arith)).0,
          ((chain x u j).0, (back (chain x u j).0 (chain x u j).1).3, (rec (omega arith)).1),
        )

    -- two places of the chain with the same block close a loop
    close : (x : ℕ) (u : U x) (i j : ℕ) → i < j → (chain x u i).0 ≡ (chain x u j).0 → Loop S
    close x u i zero h e = absurd (never h)
      where
        never : i < 0 → ⊥
        never q = omega arith
    close x u i (suc j) h e =
        let l : (cs : List ℕ) × Walk S (chain x u j).0 cs (chain x u i).0 = lead x u i j (omega arith) in
        record {
          start = (chain x u (suc j)).0;
          first = (back (chain x u j).0 (chain x u j).1).1;
          rest = l.0;
          closed = ((chain x u j).0, (back (chain x u j).0 (chain x u j).1).3, subst (λ (y : ℕ). Walk S (chain x u j).0 l.0 y) e l.1);
        }

    -- a set below n, with a member and with a producer in it for each member, has a loop
    pub has-loop : (n : ℕ) → ((x : ℕ) → U x → x < n) → (x : ℕ) → U x → Loop S
    has-loop n small x u =
        let t : Twice n (λ k. (chain x u k).0) = pigeon n (λ k. (chain x u k).0) (λ k h. small (chain x u k).0 (chain x u k).1) in
        close x u t.0 t.1 t.2 t.4
