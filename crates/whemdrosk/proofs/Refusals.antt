-- The refusals of a run from bytes in checking order, and that every run's fields are small.
use mathlib.Core.Path.{◌≡◌, refl, ap}
use mathlib.Core.Bool.{Bool, true, false, cond, not, ◌||◌}
use mathlib.Core.List.{List, []}
use mathlib.Core.Logic.{◌⊎◌, inl, inr}
use Prim.Native.Nat.{ℕ, ◌+◌, ◌/◌, ◌%◌, ◌≤◌}
use native.Mathlib.Omega.{arith}
use borrow.Author.Tests.{eq-eqb, ne_eqb, eqb-true, ltb-false, le-ltb}
use lib.Dec.{eqb, ltb}
use lib.ListN.{length}
use Rattle.blocks.specs.declared.Net.{Net}
use Rattle.nets.proofs.Decided.{accepted, accepted_true}
use Rattle.cycles.specs.Streams.{ends_fit}
use Rattle.cycles.specs.State.{fresh_state, shape_ok}
use Rattle.cycles.specs.Step.{refusal_by, fresh_by}
use Rattle.blocks.specs.declared.State.{State}
use Rattle.cycles.proofs.States.{fresh_shape}
use Rattle.sim.specs.Calls.{fresh_of}
use Rattle.trace.specs.Numbers.{numbers_of}
use Rattle.runs.specs.Runs.{Ran, begun, ran_for, run_refusal}
use Rattle.whemdrosk.specs.Exports.{broken, start, refusal_over, ran_over}
use Rattle.whemdrosk.proofs.SmallRuns.{Small, small-begun, small_more, small-run}

-- ## The tests of a run in their order

abbrev in_given_order : Bool → Bool → Bool → Bool → Bool → ℕ
in_given_order a b c d e = cond a 12 (cond b 13 (cond c 14 (cond d 15 (cond e 16 0))))

order_small : (a b c d e : Bool) → in_given_order a b c d e ≤ 16
order_small true b c d e = omega arith
order_small false true c d e = omega arith
order_small false false true d e = omega arith
order_small false false false true e = omega arith
order_small false false false false true = omega arith
order_small false false false false false = omega arith

-- where nothing is refused, the last test too is false
order_none : (a b c d e : Bool) → in_given_order a b c d e ≡ 0 → e ≡ false
order_none true b c d e h = absurd (omega arith)
order_none false true c d e h = absurd (omega arith)
order_none false false true d e h = absurd (omega arith)
order_none false false false true e h = absurd (omega arith)
order_none false false false false true h = absurd (omega arith)
order_none false false false false false h = refl

-- 15 comes after the refusals that need no masks
order_15 : (a b c e : Bool) → in_given_order a b c true e ≡ cond (eqb (in_given_order a b c false false) 0) 15 (in_given_order a b c false false)
order_15 true b c e = refl
order_15 false true c e = refl
order_15 false false true e = refl
order_15 false false false e = refl

module _ (ok : Bool) (net : Net) (s : State) (words ends : List ℕ) where
  by_small : (odd : Bool) (n : ℕ) → refusal_by ok net s words ends odd n ≤ 16
  unfolding refusal_by
  by_small odd n = order_small (not ok) (not (shape_ok net s)) (not (ends_fit net words ends)) odd (ltb 1048576 (s.count + n))

  by_none : (odd : Bool) (n : ℕ) → refusal_by ok net s words ends odd n ≡ 0 → s.count + n ≤ 1048576
  unfolding refusal_by
  by_none odd n h =
      ltb-false 1048576 (s.count + n) (order_none (not ok) (not (shape_ok net s)) (not (ends_fit net words ends)) odd (ltb 1048576 (s.count + n)) h)

  by_15 : (n : ℕ) → s.count ≡ 0 → refusal_by ok net s words ends true n ≡ cond (eqb (refusal_by ok net s words ends false 0) 0) 15 (refusal_by ok net s words ends false 0)
  unfolding refusal_by
  by_15 n z =
      let low : ltb 1048576 (s.count + 0) ≡ false = le-ltb 1048576 (s.count + 0) (omega arith) in
      rw low (order_15 (not ok) (not (shape_ok net s)) (not (ends_fit net words ends)) (ltb 1048576 (s.count + n)))

-- ## The tests of a run from bytes

whole_is : (l : List ℕ) → length l % 4 ≡ 0 → broken l ≡ false
whole_is l h = ap not (eq-eqb (length l % 4) 0 h)

broken_is : (l : List ℕ) → (length l % 4 ≡ 0 → ⊥) → broken l ≡ true
broken_is l h = ap not (ne_eqb (length l % 4) 0 h)

or_second : (t : Bool) → (t || true) ≡ true
or_second true = refl
or_second false = refl

-- 14 for broken words or ends comes first
abbrev first14 : Bool → ℕ → ℕ
first14 t x = cond t 14 x

first_small : (t : Bool) (x : ℕ) → x ≤ 16 → first14 t x ≤ 16
first_small true x h = omega arith
first_small false x h = h

first_high : (t c d e : Bool) → (first14 t (in_given_order false false c d e) ≡ 0) ⊎ (14 ≤ first14 t (in_given_order false false c d e))
first_high true c d e = inr (omega arith)
first_high false true d e = inr (omega arith)
first_high false false true e = inr (omega arith)
first_high false false false true = inr (omega arith)
first_high false false false false = inl refl

first_none : (t : Bool) (x : ℕ) → first14 t x ≡ 0 → x ≡ 0
first_none true x h = absurd (omega arith)
first_none false x h = h

small_when : (k : ℕ) (t : Bool) (p q : Ran) → (t ≡ true → Small k p) → Small k q → Small k (cond t p q)
small_when k true p q g h = g refl
small_when k false p q g h = h

-- a fresh state has count 0, a zero state too
start-count : (net : Net) → (start net).count ≡ 0
unfolding fresh_of
start-count net = go (accepted net)
  where
    go : (t : Bool) → (fresh_by t net).count ≡ 0
    go true = refl
    go false = refl

module _ (net : Net) (words ends masks : List ℕ) where
  abbrev odd : Bool
  odd = eqb (length (numbers_of masks) % 2) 1

  abbrev listed : ℕ
  listed = length (numbers_of masks) / 2

  pub refusal-small : refusal_over net words ends masks ≤ 16
  unfolding refusal_over
  refusal-small = first_small (broken words || broken ends) _ (by_small (accepted net) net (start net) (numbers_of words) (numbers_of ends) (broken masks || odd) listed)

  few-listed : refusal_over net words ends masks ≡ 0 → listed ≤ 1048576
  unfolding refusal_over
  few-listed h =
      omega (arith, by_none (accepted net) net (start net) (numbers_of words) (numbers_of ends) (broken masks || odd) listed (first_none (broken words || broken ends) _ h))

  -- over an accepted net only the streams, the masks and the number of cycles are left to refuse
  pub refusal_high : accepted net ≡ true → (refusal_over net words ends masks ≡ 0) ⊎ (14 ≤ refusal_over net words ends masks)
  unfolding refusal_over refusal_by fresh_of
  refusal_high acc =
      rw (acc, fresh_shape net (accepted_true net acc).0.fields)
      (first_high (broken words || broken ends) (not (ends_fit net (numbers_of words) (numbers_of ends))) (broken masks || odd) (ltb 1048576 ((fresh_state net).count + listed)))

  -- a run that is not refused has few cycles, and a refused one none
  pub small-over : (room : ℕ) → Small 1048576 (ran_over net words ends masks room)
  unfolding ran_over
  small-over room =
      small_when 1048576 (eqb (refusal_over net words ends masks) 0) (ran_for net (start net) (numbers_of words) (numbers_of ends) (numbers_of masks) room listed) (begun (start net))
      (λ e. small_more listed 1048576 _ (few-listed (eqb-true (refusal_over net words ends masks) 0 e)) (small-run net (start net) (numbers_of words) (numbers_of ends) (numbers_of masks) room listed))
      (small-begun 1048576 (start net))

  pub words_14 : (length words % 4 ≡ 0 → ⊥) → refusal_over net words ends masks ≡ 14
  unfolding refusal_over
  words_14 h = rw (broken_is words h)

  pub ends_14 : (length ends % 4 ≡ 0 → ⊥) → refusal_over net words ends masks ≡ 14
  unfolding refusal_over
  ends_14 h = rw (broken_is ends h, or_second (broken words))

  module _ (w : length words % 4 ≡ 0) (e : length ends % 4 ≡ 0) where
    -- broken masks: what the run without masks earns, or 15
    pub masks-15 : (length masks % 4 ≡ 0 → ⊥)
        → refusal_over net words ends masks
        ≡ cond (eqb (run_refusal net (start net) (numbers_of words) (numbers_of ends) []) 0) 15 (run_refusal net (start net) (numbers_of words) (numbers_of ends) [])
    unfolding refusal_over
    masks-15 m =
        rw (whole_is words w, whole_is ends e, broken_is masks m) (by_15 (accepted net) net (start net) (numbers_of words) (numbers_of ends) listed (start-count net))

    -- no broken list: what the run over the numbers earns
    pub whole-refusal : length masks % 4 ≡ 0 → refusal_over net words ends masks ≡ run_refusal net (start net) (numbers_of words) (numbers_of ends) (numbers_of masks)
    unfolding refusal_over
    whole-refusal m = rw (whole_is words w, whole_is ends e, whole_is masks m)
