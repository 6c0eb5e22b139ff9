-- Putting onto places, one port after the other, over what is put.
-- Assumes nothing.
use Prim.Native.Nat.{ℕ, ◌+◌, ◌-◌, ◌<◌}
use native.Mathlib.Decide.{dec_lt}
use mathlib.Core.Path.{◌≡◌, refl, sym, ap, ◌∙◌}
use native.Mathlib.Omega.{arith}
use borrow.Author.Count.{below_more}
use Rattle.ports.specs.Places.{Apart, Put}

module _ {A : Type 0} where
  -- one port
  pub put_one : (c : ℕ) (v : A) (before after : ℕ → A) → after c ≡ v → ((k : ℕ) → (k ≡ c → ⊥) → after k ≡ before k) → Put (λ j. c) (λ j. v) 1 before after
  put_one c v before after here there = record { own = λ j h. here; others = λ k away. there k (away 0 (omega arith)) }

  pub put_none : (to : ℕ → ℕ) (what : ℕ → A) (f : ℕ → A) → Put to what 0 f f
  put_none to what f = record { own = λ j h. absurd (never j h); others = λ c away. refl }
    where
      never : (j : ℕ) → j < 0 → ⊥
      never j h = omega arith

  -- one port more
  pub put_more : (to : ℕ → ℕ) (what : ℕ → A) (i : ℕ) (f g h : ℕ → A) → ((j : ℕ) → j < i → to j ≡ to i → ⊥) → Put to what i f g → Put (λ j. to i) (λ j. what i) 1 g h
      → Put to what (i + 1) f h
  put_more to what i f g h apart p s =
      record {
        own = below_more (λ j. h (to j) ≡ what j) i (λ j l. s.others (to j) (λ k q e. apart j l e) ∙ p.own j l) (s.own 0 (omega arith));
        others = λ c away. s.others c (λ k q. away i (omega arith)) ∙ p.others c (λ j l. away j (omega arith));
      }

  -- places, what is put and a count that agree
  pub put_as : (to to' : ℕ → ℕ) (what what' : ℕ → A) (n : ℕ) (f g : ℕ → A) → ((j : ℕ) → j < n → to j ≡ to' j) → ((j : ℕ) → j < n → what j ≡ what' j)
      → Put to what n f g → Put to' what' n f g
  put_as to to' what what' n f g ht hw p =
      record {
        own = λ j h. ap g (sym (ht j h)) ∙ p.own j h ∙ hw j h;
        others = λ c away. p.others c (λ j h e. away j h (e ∙ ht j h));
      }

  -- two groups of ports, one after the other
  pub put_join : (to : ℕ → ℕ) (what : ℕ → A) (n k : ℕ) (f g h : ℕ → A) → Apart to (n + k) → Put to what n f g → Put (λ j. to (n + j)) (λ j. what (n + j)) k g h
      → Put to what (n + k) f h
  put_join to what n k f g h apart p q =
      record {
        own = λ j l. by j l (dec_lt j n);
        others =
            λ c away. q.others c (λ j l. away (n + j) (omega arith)) ∙ p.others c (λ j l. away j (omega arith));
      }
    where
      by : (j : ℕ) → j < n + k → Dec (j < n) → h (to j) ≡ what j
      by j l (yes low) =
          q.others (to j) (λ i li e. let z : j ≡ n + i = apart j (n + i) l (omega arith) e in omega arith) ∙ p.own j low
      by j l (no high) = let e : n + (j - n) ≡ j = omega arith in ap (λ (x : ℕ). h (to x)) (sym e) ∙ q.own (j - n) (omega arith) ∙ ap what e
