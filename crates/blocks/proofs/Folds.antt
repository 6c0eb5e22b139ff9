-- Laws of Booleans, of few indices, of `all_below` and of `count_below`.
-- Assumes nothing.
use Rattle.std.proofs.Common.{◌≡◌, ℕ, zero, suc, ◌+◌, ◌<◌, ◌≤◌, Bool, true, false, cond, ◌&&◌, ◌||◌, ◌⊎◌, sym, refl, ap, ◌∙◌, subst, inl, inr, add-one, arith}
use mathlib.Core.Option.{none, some}
use native.Mathlib.Decide.{ℕ_discrete, dec_lt}
use Rattle.blocks.specs.Folds.{one, all_below, count_below, or_else, lowest}

-- a Boolean is one of the two
pub which : (b : Bool) → (b ≡ true) ⊎ (b ≡ false)
which true = inl refl
which false = inr refl

-- and not both
HoldsTrue : Bool → Type 0
HoldsTrue true = Unit
HoldsTrue false = ⊥

pub clash : {P : Type 0} {b : Bool} → b ≡ true → b ≡ false → P
unfolding HoldsTrue
clash p q = absurd (subst HoldsTrue (sym p ∙ q) tt)

pub and_both : (a b : Bool) → a ≡ true → b ≡ true → (a && b) ≡ true
and_both a b p q = rw (p, q)

pub and_1 : (a b : Bool) → (a && b) ≡ true → a ≡ true
and_1 true b p = refl
and_1 false b p = p

pub and_2 : (a b : Bool) → (a && b) ≡ true → b ≡ true
and_2 true b p = p
and_2 false b p = clash p refl

pub and_false_1 : (a b : Bool) → a ≡ false → (a && b) ≡ false
and_false_1 a b p = rw p

pub and_false_2 : (a b : Bool) → b ≡ false → (a && b) ≡ false
and_false_2 true b p = p
and_false_2 false b p = refl

pub or_1 : (a b : Bool) → (a || b) ≡ false → a ≡ false
or_1 true b p = p
or_1 false b p = refl

pub or_2 : (a b : Bool) → (a || b) ≡ false → b ≡ false
or_2 true b p = clash refl p
or_2 false b p = p

pub or_cases : (a b : Bool) → (a || b) ≡ true → (a ≡ true) ⊎ (b ≡ true)
or_cases true b p = inl refl
or_cases false b p = inr p

pub or_other : (a b : Bool) → (a || b) ≡ true → a ≡ false → b ≡ true
or_other true b p q = clash refl q
or_other false b p q = p

pub or_left : (a b : Bool) → a ≡ true → (a || b) ≡ true
or_left a b p = rw p

-- one index, and two
pub only : (P : ℕ → Type 0) → P 0 → (j : ℕ) → j < 1 → P j
only P h zero q = h
only P h (suc j) q = absurd (omega arith)

pub pair : (P : ℕ → Type 0) → P 0 → P 1 → (j : ℕ) → j < 2 → P j
pair P h h' zero q = h
pair P h h' (suc zero) q = h'
pair P h h' (suc (suc j)) q = absurd (omega arith)

module _ (f : ℕ → Bool) where
  pub all_none : all_below f 0 ≡ true
  unfolding all_below
  all_none = refl

  pub all_more : (i : ℕ) → all_below f i ≡ true → f i ≡ true → all_below f (i + 1) ≡ true
  unfolding all_below
  all_more i p q = rw add-one (and_both (all_below f i) (f i) p q)

  pub all_at : (n : ℕ) → all_below f n ≡ true → (i : ℕ) → i < n → f i ≡ true
  unfolding all_below
  all_at zero p i h = absurd (never h)
    where
      never : i < 0 → ⊥
      never q = omega arith
  all_at (suc n) p i h = go (ℕ_discrete i n) (all_at n (and_1 (all_below f n) (f n) p) i)
    where
      go : Dec (i ≡ n) → (i < n → f i ≡ true) → f i ≡ true
      go (yes e) rec = rw e (and_2 (all_below f n) (f n) p)
      go (no e) rec = rec (omega arith)

  pub all_fails : (n i : ℕ) → i < n → f i ≡ false → all_below f n ≡ false
  all_fails n i h q = go (which (all_below f n))
    where
      go : (all_below f n ≡ true) ⊎ (all_below f n ≡ false) → all_below f n ≡ false
      go (inl p) = clash (all_at n p i h) q
      go (inr p) = p

  pub all_in : (n : ℕ) → ((i : ℕ) → i < n → f i ≡ true) → all_below f n ≡ true
  unfolding all_below
  all_in zero h = refl
  all_in (suc n) h = and_both (all_below f n) (f n) (all_in n (λ i q. h i (omega arith))) (h n (omega arith))

  -- what holds below i holds below any n up to i, so a loop's invariant needs no upper bound of its counter
  pub all_less : (i n : ℕ) → n ≤ i → all_below f i ≡ true → all_below f n ≡ true
  all_less i n h p = all_in n (λ k q. all_at i p k (omega arith))

  pub fails_at : (n : ℕ) → all_below f n ≡ false → (i : ℕ) × (i < n) × (f i ≡ false)
  unfolding all_below
  fails_at zero p = clash refl p
  fails_at (suc n) p = go (which (f n)) (fails_at n)
    where
      go : (f n ≡ true) ⊎ (f n ≡ false) → (all_below f n ≡ false → (i : ℕ) × (i < n) × (f i ≡ false)) → (i : ℕ) × (i < suc n) × (f i ≡ false)
      go (inr q) rec = (n, omega arith, q)
      go (inl q) rec = deeper (which (all_below f n)) rec
        where
          deeper : (all_below f n ≡ true) ⊎ (all_below f n ≡ false) → (all_below f n ≡ false → (i : ℕ) × (i < n) × (f i ≡ false)) → (i : ℕ) × (i < suc n) × (f i ≡ false)
          deeper (inl r) k = clash (and_both (all_below f n) (f n) r q) p
          deeper (inr r) k = ((k r).0, omega (arith, (k r).1), (k r).2)

  -- what holds besides, and the test at one number more
  pub all_besides : (v : Bool) → v ≡ (v && all_below f 0)
  unfolding all_below
  all_besides true = refl
  all_besides false = refl

  pub all_besides_more : (v go t : Bool) (i : ℕ) → go ≡ (v && all_below f i) → t ≡ f i → (go && t) ≡ (v && all_below f (i + 1))
  unfolding all_below
  all_besides_more v go t i p q = rw (add-one, p, q) (by v)
    where
      by : (v : Bool) → (v && all_below f i && f i) ≡ (v && (all_below f i && f i))
      by true = refl
      by false = refl

-- two tests that agree below n
pub all_same : (f g : ℕ → Bool) (n : ℕ) → ((i : ℕ) → i < n → f i ≡ g i) → all_below f n ≡ all_below g n
unfolding all_below
all_same f g zero h = refl
all_same f g (suc n) h = rw (all_same f g n (λ i q. h i (omega arith)), h n (omega arith))

module _ (f : ℕ → Bool) where
  pub count_none : count_below f 0 ≡ 0
  unfolding count_below
  count_none = refl

  pub count_more : (i : ℕ) → count_below f (i + 1) ≡ count_below f i + one (f i)
  unfolding count_below
  count_more i = rw add-one

  pub count_yes : (i : ℕ) → f i ≡ true → count_below f (i + 1) ≡ count_below f i + 1
  count_yes i t = count_more i ∙ ap (λ (b : Bool). count_below f i + one b) t

  pub count_no : (i : ℕ) → f i ≡ false → count_below f (i + 1) ≡ count_below f i
  count_no i t = omega (arith, count_more i ∙ ap (λ (b : Bool). count_below f i + one b) t)

  one_small : (b : Bool) → one b ≤ 1
  one_small true = omega arith
  one_small false = omega arith

  pub count_bound : (n : ℕ) → count_below f n ≤ n
  unfolding count_below
  count_bound zero = omega arith
  count_bound (suc n) = omega (arith, count_bound n, one_small (f n))

  pub count_le : (n m : ℕ) → n ≤ m → count_below f n ≤ count_below f m
  unfolding count_below
  count_le n zero h = rw (zero_is h) (omega arith)
    where
      zero_is : n ≤ 0 → n ≡ 0
      zero_is q = omega arith
  count_le n (suc m) h = go (ℕ_discrete n (suc m)) (count_le n m)
    where
      go : Dec (n ≡ suc m) → (n ≤ m → count_below f n ≤ count_below f m) → count_below f n ≤ count_below f (suc m)
      go (yes e) rec = rw e (omega arith)
      go (no e) rec = omega (arith, rec (omega arith))

  -- a number where the test holds is counted
  pub count_step : (n q : ℕ) → q < n → f q ≡ true → count_below f q + 1 ≤ count_below f n
  count_step n q h t =
      omega (arith, count_yes q t, count_le (q + 1) n (omega arith))

  -- two numbers where it holds are counted twice
  pub count_two : (n q r : ℕ) → q < r → r < n → f q ≡ true → f r ≡ true → 2 ≤ count_below f n
  count_two n q r h k t u = omega (arith, count_step r q h t, count_step n r k u)

  -- so where it is counted once, it holds at one number only
  pub count_one : (n q r : ℕ) → q < n → r < n → f q ≡ true → f r ≡ true → count_below f n ≡ 1 → q ≡ r
  count_one n q r h k t u e = go (dec_lt q r) (dec_lt r q)
    where
      go : Dec (q < r) → Dec (r < q) → q ≡ r
      go (yes p) d = absurd (twice (count_two n q r p k t u))
        where
          twice : 2 ≤ count_below f n → ⊥
          twice s = omega arith
      go (no p) (yes d) = absurd (twice (count_two n r q d h u t))
        where
          twice : 2 ≤ count_below f n → ⊥
          twice s = omega arith
      go (no p) (no d) = omega arith

  -- nothing is counted where the test holds nowhere
  pub count-zero : (n : ℕ) → count_below f n ≡ 0 → (q : ℕ) → q < n → f q ≡ false
  count-zero n e q h = go (which (f q))
    where
      go : (f q ≡ true) ⊎ (f q ≡ false) → f q ≡ false
      go (inl t) = absurd (never (count_step n q h t))
        where
          never : count_below f q + 1 ≤ count_below f n → ⊥
          never s = omega arith
      go (inr t) = t

  -- where something is counted, the test holds somewhere
  pub count-some : (n : ℕ) → 0 < count_below f n → (q : ℕ) × (q < n) × (f q ≡ true)
  unfolding count_below
  count-some zero h = absurd (never h)
    where
      never : 0 < 0 → ⊥
      never z = omega arith
  count-some (suc n) h = go (which (f n)) (count-some n)
    where
      go : (f n ≡ true) ⊎ (f n ≡ false) → (0 < count_below f n → (q : ℕ) × (q < n) × (f q ≡ true)) → (q : ℕ) × (q < suc n) × (f q ≡ true)
      go (inl t) rec = (n, omega arith, t)
      go (inr t) rec =
          let r : (q : ℕ) × (q < n) × (f q ≡ true) = rec (omega (arith, ap one t)) in
          (r.0, omega (arith, r.1), r.2)

  -- everything is counted where the test holds everywhere
  pub count_all : (n : ℕ) → ((i : ℕ) → i < n → f i ≡ true) → count_below f n ≡ n
  unfolding count_below
  count_all zero h = refl
  count_all (suc n) h = omega (arith, count_all n (λ i q. h i (omega arith)), ap one (h n (omega arith)))

pub count_same : (f g : ℕ → Bool) (n : ℕ) → ((i : ℕ) → i < n → f i ≡ g i) → count_below f n ≡ count_below g n
unfolding count_below
count_same f g zero h = refl
count_same f g (suc n) h = rw (count_same f g n (λ i q. h i (omega arith)), h n (omega arith))

-- a test that changes at one number
pub count-drop : (f g : ℕ → Bool) (n i : ℕ) → i < n → f i ≡ true → g i ≡ false → ((k : ℕ) → (k ≡ i → ⊥) → g k ≡ f k) → count_below g n + 1 ≡ count_below f n
unfolding count_below
count-drop f g zero i h t u same = absurd (never h)
  where
    never : i < 0 → ⊥
    never z = omega arith
count-drop f g (suc n) i h t u same = go (ℕ_discrete i n) (count-drop f g n i)
  where
    go : Dec (i ≡ n)
        → (i < n → f i ≡ true → g i ≡ false → ((k : ℕ) → (k ≡ i → ⊥) → g k ≡ f k) → count_below g n + 1 ≡ count_below f n)
        → (count_below g n + one (g n)) + 1 ≡ count_below f n + one (f n)
    go (yes e) rec =
        omega (arith, count_same g f n (λ k q. same k (λ r. omega arith)), ap one (rw e at t), ap one (rw e at u))
    go (no e) rec = omega (arith, rec (omega arith) t u same, ap one (same n (λ r. e (sym r))))

-- ## The lowest

pub lowest-none : (f : ℕ → Bool) (n : ℕ) → ((k : ℕ) → k < n → f k ≡ false) → lowest f n ≡ none
unfolding lowest
lowest-none f zero h = refl
lowest-none f (suc n) h = rw (lowest-none f n (λ k q. h k (omega arith)), h n (omega arith))

pub lowest_found : (f : ℕ → Bool) (n i : ℕ) → i < n → f i ≡ true → ((k : ℕ) → k < i → f k ≡ false) → lowest f n ≡ some i
unfolding lowest
lowest_found f zero i h t low = absurd (omega arith)
lowest_found f (suc n) i h t low = go (ℕ_discrete i n) (lowest_found f n i)
  where
    go : Dec (i ≡ n) → (i < n → f i ≡ true → ((k : ℕ) → k < i → f k ≡ false) → lowest f n ≡ some i) → or_else (lowest f n) (cond (f n) (some n) none) ≡ some i
    go (yes e) rec = rw (lowest-none f n (λ k q. low k (omega arith)), rw e at t) (ap some (sym e))
    go (no e) rec = rw (rec (omega arith) t low)
