-- Every chain, whatever the answers: its channels are those that the rules name, each once, and a circle closes at one of them.
-- Assumes nothing.
use Prim.Native.Nat.{ℕ, zero, suc, ◌+◌, ◌≤◌, ◌<◌}
use mathlib.Core.Path.{◌≡◌, refl, sym, ap, subst, ◌∙◌}
use mathlib.Core.Bool.{Bool, true, false, cond, not}
use mathlib.Core.List.{List, [], ◌∷◌, ◌++◌, append_assoc}
use mathlib.Core.Logic.{◌⊎◌, inl, inr}
use native.Mathlib.Decide.{ℕ_discrete}
use native.Mathlib.Omega.{arith}
use borrow.Author.Tests.{not-false}
use Rattle.std.proofs.Common.{Option, Some}
use lib.ListN.{length, get_or, set, length-set}
use lib.Seq.{get_or-set_same, get_or-set_other}
use Rattle.blocks.specs.Folds.{count_below}
use Rattle.blocks.proofs.Folds.{clash, count-drop, count-zero}
use Rattle.asking.specs.Questions.{asks}
use Rattle.chains.specs.Chain.{Trail, stop, onward, goes, trail}
use Rattle.asking.specs.declared.Ending.{Ending}
use Rattle.asking.specs.declared.Ending.TheVariants.{Circle}
use Rattle.asking.specs.declared.Next.{Next}
use Rattle.asking.specs.declared.Next.TheVariants.{Word, Ready, End}
use Rattle.chains.proofs.Trails.{LeadsBy, leads_asks}
use Rattle.stalls.specs.Waits.{Each, Once, Stands, Runs}

-- a channel that is unmet after c is met is not c, and was unmet before
abbrev Free : List Bool → List ℕ → Type 0
Free met xs = Each (λ x. get_or met x false ≡ false) xs

module _ (met : List Bool) (c : ℕ) (h : c < length met) where
  not_c : (x : ℕ) → get_or (set met c true) x false ≡ false → x ≡ c → ⊥
  not_c x e p = clash (get_or-set_same met c true false h) (subst (λ (k : ℕ). get_or (set met c true) k false ≡ false) p e)

  apart : (xs : List ℕ) → Free (set met c true) xs → Each (λ y. y ≡ c → ⊥) xs
  apart [] f = tt
  apart (x ∷ xs) f = (not_c x f.0, apart xs f.1)

  earlier : (xs : List ℕ) → Free (set met c true) xs → Free met xs
  earlier [] f = tt
  earlier (x ∷ xs) f = (sym (get_or-set_other met c x true false (not_c x f.0)) ∙ f.0, earlier xs f.1)

abbrev unmet_at : List Bool → ℕ → Bool
unmet_at met c = not (get_or met c false)

-- N channels; P: what is known of a channel that is asked
module _ (N : ℕ) (P : Bool → ℕ → Type 0) (low : (q : Bool) (n : ℕ) → P q n → n < N) (next : Bool → ℕ → Next) (leads : (q : Bool) (c : ℕ) → P q c → LeadsBy P (next q c)) where
  abbrev remain : List Bool → ℕ
  remain met = count_below (unmet_at met) N

  remain_falls : (met : List Bool) (c : ℕ) → c < N → c < length met → get_or met c false ≡ false → remain (set met c true) + 1 ≡ remain met
  remain_falls met c l h e =
      count-drop (unmet_at met) (unmet_at (set met c true)) N c l (ap not e) (ap not (get_or-set_same met c true false h)) (λ k ne. ap not (get_or-set_other met c k true false ne))

  -- a chain that runs by the rules from channel n, or is a circle at once
  abbrev pub Runs_so : List ℕ → Bool → ℕ → Trail → Type 0
  Runs_so before q n t = ((t ≡ stop (Circle n)) × Stands n before) ⊎ ((rest : List ℕ) × (t.channels ≡ n ∷ rest) × Runs next before q n rest t.ending)

  -- the chain t from channel n, asked by q after the channels `before`, which are met
  pub record Reached (met : List Bool) (before : List ℕ) (q : Bool) (n : ℕ) (t : Trail) : Type 0 where
    pub free : Free met t.channels
    pub once : Once t.channels
    pub few : length t.channels ≤ remain met
    pub known : Each (λ x. (p : Bool) × P p x) t.channels
    pub shape : Runs_so before q n t

  at_circle : (met : List Bool) (before : List ℕ) (q : Bool) (n : ℕ) (t : Trail) → t ≡ stop (Circle n) → Stands n before → Reached met before q n t
  at_circle met before q n t e s = rw e (record { free = tt; once = tt; few = omega arith; known = tt; shape = inl (refl, s) })

  -- n is not met: it is noted, and the chain goes on with u
  module _ (met : List Bool) (before : List ℕ) (q : Bool) (n : ℕ) (h : P q n) (long : N ≤ length met) (new : get_or met n false ≡ false) where
    in_list : n < length met
    in_list = omega (arith, low q n h)

    noted : (u : Trail) → Free (set met n true) u.channels → Once u.channels → length u.channels ≤ remain (set met n true) → Each (λ x. (p : Bool) × P p x) u.channels
        → Runs next before q n u.channels u.ending → Reached met before q n (onward n u)
    noted u free once few known runs =
        record {
          free = (new, earlier met n in_list u.channels free);
          once = (apart met n in_list u.channels free, once);
          few = omega (arith, few, remain_falls met n (low q n h) in_list new);
          known = ((q, h), known);
          shape = inr (u.channels, refl, runs);
        }

    asked-on : (p : Bool) (x : ℕ) (u : Trail) → next q n ≡ asks p x → Reached (set met n true) (n ∷ before) p x u → Reached met before q n (onward n u)
    asked-on p x u e s = noted u s.free s.once s.few s.known (by s.shape)
      where
        by : Runs_so (n ∷ before) p x u → Runs next before q n u.channels u.ending
        by (inl z) = subst (λ (t : Trail). Runs next before q n t.channels t.ending) (sym z.0) (inr (p, x, e, refl, z.1))
        by (inr z) = subst (λ (l : List ℕ). Runs next before q n l u.ending) (sym z.1) (p, e, z.2)

    goes_on : (T : Bool → ℕ → Trail) → ((p : Bool) (x : ℕ) → P p x → Reached (set met n true) (n ∷ before) p x (T p x)) → (x : Next) → next q n ≡ x → LeadsBy P x
        → Reached met before q n (onward n (goes x T))
    goes_on T rec (Word x) e l = asked-on true x (T true x) e (rec true x l)
    goes_on T rec (Ready x) e l = asked-on false x (T false x) e (rec false x l)
    goes_on T rec (End e') e l = noted (stop e') tt tt (omega arith) tt (inl (e', e, refl))

  -- the met channels are those before
  seen_more : (met : List Bool) (before : List ℕ) (n : ℕ) → ((x : ℕ) → x < N → get_or met x false ≡ true → Stands x before) → (x : ℕ) → x < N
      → get_or (set met n true) x false ≡ true → Stands x (n ∷ before)
  seen_more met before n seen x l e = by (ℕ_discrete x n)
    where
      by : Dec (x ≡ n) → Stands x (n ∷ before)
      by (yes d) = inl d
      by (no d) = inr (seen x l (sym (get_or-set_other met n x true false d) ∙ e))

  pub reached : (k : ℕ) (met : List Bool) (before : List ℕ) → N ≤ length met → remain met ≤ k → ((x : ℕ) → x < N → get_or met x false ≡ true → Stands x before) → (q : Bool) (n : ℕ) → P q n
      → Reached met before q n (trail k next met q n)
  unfolding trail
  reached zero met before long room seen q n h =
      at_circle met before q n (stop (Circle n)) refl (seen n (low q n h) (not-false (get_or met n false) (count-zero (unmet_at met) N (omega arith) n (low q n h))))
  reached (suc k) met before long room seen q n h =
      by (get_or met n false) refl
      (λ fewer p x l. reached k (set met n true) (n ∷ before) (omega (arith, long, length-set met n true)) fewer (seen_more met before n seen) p x l)
    where
      by : (m : Bool) → get_or met n false ≡ m
          → (remain (set met n true) ≤ k → (p : Bool) (x : ℕ) → P p x → Reached (set met n true) (n ∷ before) p x (trail k next (set met n true) p x))
          → Reached met before q n (cond m (stop (Circle n)) (onward n (goes (next q n) (λ w x. trail k next (set met n true) w x))))
      by true e rec = at_circle met before q n (stop (Circle n)) refl (seen n (low q n h) e)
      by false e rec =
          goes_on met before q n h long e (λ w x. trail k next (set met n true) w x)
          (rec (omega (arith, room, remain_falls met n (low q n h) (omega (arith, long, low q n h)) e))) (next q n) refl (leads q n h)

  -- how a chain that runs by the rules ends: where a channel of it is met again, or after its last channel, whose question nobody is handed
  pub ends_of : (chain front before : List ℕ) (q : Bool) (c : ℕ) (xs : List ℕ) (e : Option Ending) → chain ≡ front ++ (c ∷ xs) → ((y : ℕ) → Stands y before → Stands y chain)
      → ((y : ℕ) → Stands y (c ∷ xs) → Stands y chain) → P q c → Runs next before q c xs e
      → ((x : ℕ) × (e ≡ Some (Circle x)) × Stands x chain) ⊎ ((p : Bool) × (n : ℕ) × P p n × (a : Ending) × (next p n ≡ End a) × (e ≡ Some a) × (f : List ℕ) × (chain ≡ f ++ (n ∷ [])))
  ends_of chain front before q c [] e is old here h (inl z) = inr (q, c, h, z.0, z.1, z.2, front, is)
  ends_of chain front before q c [] e is old here h (inr z) = inl (z.1, z.3, by z.4)
    where
      by : Stands z.1 (c ∷ before) → Stands z.1 chain
      by (inl d) = here z.1 (inl d)
      by (inr d) = old z.1 d
  ends_of chain front before q c (x ∷ xs) e is old here h z =
      ends_of chain (front ++ (c ∷ [])) (c ∷ before) z.0 x xs e (is ∙ sym (append_assoc front (c ∷ []) (x ∷ xs))) more (λ y s. here y (inr s))
      (leads_asks P z.0 x (next q c) z.1 (leads q c h)) z.2
    where
      more : (y : ℕ) → Stands y (c ∷ before) → Stands y chain
      more y (inl d) = here y (inl d)
      more y (inr d) = old y d
