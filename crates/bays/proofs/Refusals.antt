-- When a bay's step is refused: by the turn and by the refusal of its own step.
-- Assumes nothing.
use Prim.Native.Nat.{ℕ, ◌≤◌, ◌<◌}
use mathlib.Core.Path.{◌≡◌, refl, sym}
use mathlib.Core.Bool.{Bool, true, false, cond}
use mathlib.Core.Logic.{◌≢◌, ◌⊎◌, inl, inr}
use mathlib.Core.List.{List}
use native.Mathlib.Omega.{arith}
use borrow.Author.Tests.{eqb-true, eqb-false, eq-eqb, ne_eqb, leb-true, leb-false, le-leb, lt-leb}
use lib.Dec.{leb, eqb}
use Rattle.blocks.proofs.Options.{test}
use Rattle.blocks.specs.declared.Net.{Net}
use Rattle.cycles.specs.declared.Stepped.{Stepped}
use Rattle.sim.specs.Calls.{step_of}
use Rattle.bays.specs.Calls.{state_at, refusal_bay, refused_bay, served_bay, step_bay}
use Rattle.bays.specs.declared.Bays.{Bays}
use Rattle.bays.specs.declared.BayStepped.{BayStepped}

-- ## The number

-- the net's 12 comes before the turn
pub number_12 : (turn own : ℕ) → own ≡ 12 → refusal_bay turn own ≡ 12
unfolding refusal_bay
number_12 turn own e = rw (eq-eqb own 12 e)

-- a turn beyond the four bays comes before all others
pub number_13 : (turn own : ℕ) → own ≢ 12 → 4 ≤ turn → refusal_bay turn own ≡ 13
unfolding refusal_bay
number_13 turn own n h = rw (ne_eqb own 12 n, le-leb 4 turn h)

pub number_own : (turn own : ℕ) → own ≢ 12 → turn < 4 → refusal_bay turn own ≡ own
unfolding refusal_bay
number_own turn own n h = rw (ne_eqb own 12 n, lt-leb 4 turn h)

-- where a bay's step is not refused, that of its own state is not
works : (turn own : ℕ) → refusal_bay turn own ≡ 0 → own ≡ 0
unfolding refusal_bay
works turn own = by (eqb own 12) (leb 4 turn)
  where
    by : (net-bad far : Bool) → ◌≡◌ {A = ℕ} (cond net-bad 12 (cond far 13 own)) 0 → own ≡ 0
    by true far z = absurd (omega arith)
    by false true z = absurd (omega arith)
    by false false z = z

-- ## The answer

-- no such bay
pub bay_beyond : (net : Net) (r : Bays) (k : ℕ) (words ends : List ℕ) (offer ready : ℕ) → 4 ≤ k → step_bay net r k words ends offer ready ≡ refused_bay 21 r
unfolding step_bay
bay_beyond net r k words ends offer ready h = rw (le-leb 4 k h)

-- the two answers of a step of one of the four bays, where t is the step of its own state
module _ (net : Net) (r : Bays) (k : ℕ) (words ends : List ℕ) (offer ready : ℕ) (h : k < 4) (t : Stepped) (e : t ≡ step_of net (state_at r k) words ends offer ready) where
  pub bay_refused : (refusal_bay r.turn t.refusal ≡ 0 → ⊥) → refused_bay (refusal_bay r.turn t.refusal) r ≡ step_bay net r k words ends offer ready
  unfolding step_bay
  bay_refused n = rw (lt-leb 4 k h, sym e, ne_eqb (refusal_bay r.turn t.refusal) 0 n)

  pub bay_served : refusal_bay r.turn t.refusal ≡ 0 → served_bay r k t ≡ step_bay net r k words ends offer ready
  unfolding step_bay
  bay_served z = rw (lt-leb 4 k h, sym e, eq-eqb (refusal_bay r.turn t.refusal) 0 z)

-- so every answer is one of two
pub record Refused (r : Bays) (a : BayStepped) : Type 0 where
  pub number : ℕ
  pub some_number : number ≢ 0
  pub is : a ≡ refused_bay number r

pub record Served (r : Bays) (k : ℕ) (t : Stepped) (a : BayStepped) : Type 0 where
  pub inside : k < 4
  pub worked : t.refusal ≡ 0
  pub is : a ≡ served_bay r k t

abbrev pub Answered : Bays → ℕ → Stepped → BayStepped → Type 0
Answered r k t a = Refused r a ⊎ Served r k t a

pub bay_answer : (net : Net) (r : Bays) (k : ℕ) (words ends : List ℕ) (offer ready : ℕ)
    → Answered r k (step_of net (state_at r k) words ends offer ready) (step_bay net r k words ends offer ready)
bay_answer net r k words ends offer ready =
    let t : Stepped = step_of net (state_at r k) words ends offer ready in
    test (leb 4 k) (λ q. inl (record { number = 21; some_number = λ z. omega arith; is = bay_beyond net r k words ends offer ready (leb-true 4 k q) }))
    (λ q. test (eqb (refusal_bay r.turn t.refusal) 0)
    (λ z. let e : refusal_bay r.turn t.refusal ≡ 0 = eqb-true _ 0 z in
    inr (record {
      inside = leb-false 4 k q;
      worked = works r.turn t.refusal e;
      is = sym (bay_served net r k words ends offer ready (leb-false 4 k q) t refl e);
    }))
    (λ z. let e : refusal_bay r.turn t.refusal ≡ 0 → ⊥ = eqb-false _ 0 z in
    inl (record { number = refusal_bay r.turn t.refusal; some_number = e; is = sym (bay_refused net r k words ends offer ready (leb-false 4 k q) t refl e) })))
