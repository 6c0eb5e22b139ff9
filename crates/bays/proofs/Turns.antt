-- A mask by its bits; the bay that `next` chooses, and its three answers; the turn after a call.
-- Assumes nothing.
use Prim.Native.Nat.{ℕ, zero, suc, ◌+◌, ◌-◌, ◌/◌, ◌%◌, ◌^◌, ◌≤◌, ◌<◌}
use mathlib.Core.Path.{◌≡◌, refl, sym, ap, ◌∙◌, subst}
use mathlib.Core.Bool.{Bool, true, false, cond}
use mathlib.Core.Logic.{◌≢◌, inl, inr}
use mathlib.Core.List.{List}
use mathlib.Core.Option.{Option, none, some}
use native.Mathlib.Decide.{ℕ_discrete}
use native.Mathlib.Nat.{pow-suc}
use native.Mathlib.Omega.{arith}
use borrow.Author.Tests.{eqb-true, eqb-false, eq-eqb, ne_eqb, leb-true, leb-false, le-leb, lt-leb}
use lib.Arith.{mod-mul}
use lib.Dec.{eqb, leb}
use lib.Pow.{pow_pos}
use Rattle.blocks.specs.Folds.{one, lowest, or_else, bit, bits}
use Rattle.blocks.proofs.Bits.{bit-zero, bit_half, bit-bits, bits_same}
use Rattle.blocks.proofs.Folds.{clash}
use Rattle.blocks.proofs.Options.{test}
use Rattle.blocks.proofs.Local.{lowest-below}
use Rattle.blocks.specs.declared.Net.{Net}
use Rattle.cycles.specs.declared.Stepped.{Stepped}
use Rattle.bays.specs.Calls.{step_bay, asked, wants_at, bay_no, first_wanting, no_bay, serve_next, next_bay}
use Rattle.bays.specs.Promised.{Call, step, next, answer}
use Rattle.bays.specs.declared.Bays.{Bays}
use Rattle.bays.specs.declared.BayStepped.{BayStepped}
use Rattle.bays.specs.declared.Turned.{Turned}
use Rattle.bays.proofs.Refusals.{Answered, bay_answer}

-- ## A mask by its four bits

-- the bits of x below n make its rest
low_bits : (n x : ℕ) → bits (λ i. bit i x) n ≡ x % 2 ^ n
unfolding bits
low_bits zero x = omega arith
low_bits (suc n) x =
    let first : one (bit 0 x) ≡ x % 2 = ap one (bit-zero x) ∙ small (x % 2) (omega arith) in
    let others : bits (λ i. bit (suc i) x) n ≡ x / 2 % 2 ^ n = bits_same (λ i. bit (suc i) x) (λ i. bit i (x / 2)) n (λ i h. bit_half i x) ∙ low_bits n (x / 2) in
    rw (pow-suc 2 n) (omega (arith, first, others, mod-mul x {m = 2 ^ n} {c = 2} (pow_pos n) (omega arith)))
  where
    small : (y : ℕ) → y < 2 → one (eqb y 1) ≡ y
    small zero h = refl
    small (suc zero) h = refl
    small (suc (suc y)) h = absurd (omega arith)

-- so the first four bits of a number are those of its rest
bit-low : (k want : ℕ) → k < 4 → bit k (want % 16) ≡ bit k want
bit-low k want h = ap (bit k) (sym (low_bits 4 want)) ∙ bit-bits (λ i. bit i want) 4 k h

-- a mask with a bay is not empty
pub mask_of_lem : (b want : ℕ) → b < 4 → bit b want ≡ true → want % 16 ≢ 0
unfolding bits
mask_of_lem b want h w z = clash w (sym (bit-low b want h) ∙ ap (bit b) z ∙ bit-bits (λ i. false) 4 b h)

-- and one that is not empty has a bay
mask_some : (want : ℕ) → want % 16 ≢ 0 → (b : ℕ) × (b < 4) × (bit b want ≡ true)
unfolding bits
mask_some want n =
    test (bit 0 want) (λ q. (0, omega arith, q))
    (λ q0. test (bit 1 want) (λ q. (1, omega arith, q))
    (λ q1. test (bit 2 want) (λ q. (2, omega arith, q))
    (λ q2. test (bit 3 want) (λ q. (3, omega arith, q)) (λ q3. absurd (n (sym (low_bits 4 want) ∙ rw (q0, q1, q2, q3)))))))

-- ## The bay chosen

-- a test that passes at d passes first at some number up to d
lowest_upto : (f : ℕ → Bool) (n d : ℕ) → d < n → f d ≡ true → (i : ℕ) × (i ≤ d) × (lowest f n ≡ some i)
unfolding lowest
lowest_upto f zero d h e = absurd (omega arith)
lowest_upto f (suc n) d h e = by (ℕ_discrete d n) (lowest_upto f n d)
  where
    last : (o : Option ℕ) → lowest f n ≡ o → d ≡ n → (i : ℕ) × (i ≤ d) × (or_else (lowest f n) (cond (f n) (some n) none) ≡ some i)
    last none q z = (n, omega arith, rw (q, subst (λ (x : ℕ). f x ≡ true) z e))
    last (some t) q z = (t, omega (arith, lowest-below n f t q), rw q)

    by : Dec (d ≡ n) → (d < n → f d ≡ true → (i : ℕ) × (i ≤ d) × (lowest f n ≡ some i)) → (i : ℕ) × (i ≤ d) × (or_else (lowest f n) (cond (f n) (some n) none) ≡ some i)
    by (yes z) rec = last (lowest f n) refl z
    by (no z) rec = let x = rec (omega arith) e in (x.0, x.1, rw x.2)

-- the bay that is asked after d others, where it wants a cycle: it is chosen, or one that is asked before it
pub nearer : (turn want d : ℕ) → d < 4 → wants_at turn want d ≡ true → (i : ℕ) × (i ≤ d) × (first_wanting turn want ≡ asked turn i)
unfolding first_wanting
nearer turn want d h e = let x = lowest_upto (wants_at turn want) 4 d h e in (x.0, x.1, ap (bay_no turn) x.2)

-- of a mask that is not empty the bay chosen is one of the four
pub wanting-below : (turn want : ℕ) → turn < 4 → want % 16 ≢ 0 → first_wanting turn want < 4
wanting-below turn want h n =
    let x = mask_some want n in
    let d : ℕ = (x.0 + 4 - turn) % 4 in
    let there : asked turn d ≡ x.0 = omega (arith, x.1) in
    omega (arith, (nearer turn want d (omega arith) (rw there x.2)).2)

-- bits beyond the four are not looked at
pub wanting-low : (turn want : ℕ) → first_wanting turn want ≡ first_wanting turn (want % 16)
unfolding first_wanting
wanting-low turn want = ap (λ (f : ℕ → Bool). bay_no turn (lowest f 4)) (λ i j. sym (bit-low (asked turn j) want (omega arith)) i)

-- ## The answers

module _ (net : Net) (r : Bays) (words ends masks : List ℕ) (want : ℕ) where
  pub next_none : want % 16 ≡ 0 → no_bay 0 r ≡ next_bay net r words ends masks want
  unfolding next_bay
  next_none e = rw (eq-eqb (want % 16) 0 e)

  pub next_beyond : want % 16 ≢ 0 → 4 ≤ r.turn → no_bay 13 r ≡ next_bay net r words ends masks want
  unfolding next_bay
  next_beyond n h = rw (ne_eqb (want % 16) 0 n, le-leb 4 r.turn h)

  pub next_serves : want % 16 ≢ 0 → r.turn < 4 → (k : ℕ) → k ≡ first_wanting r.turn want → serve_next net r words ends masks k ≡ next_bay net r words ends masks want
  unfolding next_bay
  next_serves n h k e = rw (ne_eqb (want % 16) 0 n, lt-leb 4 r.turn h, sym e)

  -- so what holds of an answer that names no bay, and of one that serves a bay, holds of every answer
  pub next_cases : (C : Turned → Type 0) → C (no_bay 0 r) → (4 ≤ r.turn → C (no_bay 13 r))
      → (r.turn < 4 → (k : ℕ) → k < 4 → C (serve_next net r words ends masks k)) → C (next_bay net r words ends masks want)
  next_cases C nobody beyond serves =
      test (eqb (want % 16) 0) (λ q. subst C (next_none (eqb-true (want % 16) 0 q)) nobody)
      (λ q. let n : want % 16 ≢ 0 = eqb-false (want % 16) 0 q in
      test (leb 4 r.turn) (λ t. let h : 4 ≤ r.turn = leb-true 4 r.turn t in subst C (next_beyond n h) (beyond h))
      (λ t. let h : r.turn < 4 = leb-false 4 r.turn t in
      subst C (next_serves n h (first_wanting r.turn want) refl) (serves h (first_wanting r.turn want) (wanting-below r.turn want h n))))

-- ## The turn after a call

pub step_keeps : (net : Net) (r : Bays) (k : ℕ) (words ends : List ℕ) (offer ready : ℕ) → (step_bay net r k words ends offer ready).bays.turn ≡ r.turn
step_keeps net r k words ends offer ready = by (bay_answer net r k words ends offer ready)
  where
    by : {t : Stepped} {a : BayStepped} → Answered r k t a → a.bays.turn ≡ r.turn
    by (inl n) = ap (λ (a : BayStepped). a.bays.turn) n.is
    by (inr s) = ap (λ (a : BayStepped). a.bays.turn) s.is

module _ (net : Net) (words ends : List ℕ) where
  -- a turn beyond the four bays stays there, and one within them within
  pub turn_side : (r : Bays) (m : Call) → leb 4 (answer net words ends r m).bays.turn ≡ leb 4 r.turn
  turn_side r (step k masks) = ap (leb 4) (step_keeps net r k words ends masks.0 masks.1)
  turn_side r (next masks want) =
      next_cases net r words ends masks want (λ t. leb 4 t.step.bays.turn ≡ leb 4 r.turn) refl (λ l. refl)
      (λ h k l. lt-leb 4 ((k + 1) % 4) (omega arith) ∙ sym (lt-leb 4 r.turn h))

  pub turn_in : (r : Bays) (m : Call) → r.turn < 4 → (answer net words ends r m).bays.turn < 4
  turn_in r m h = leb-false 4 _ (turn_side r m ∙ lt-leb 4 r.turn h)
