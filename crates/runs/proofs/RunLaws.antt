-- Cycles one after another are the run.
-- Assumes nothing.
use mathlib.Core.Path.{◌≡◌, refl, ap, ◌∙◌}
use mathlib.Core.Bool.{Bool, true, false, cond}
use mathlib.Core.List.{List, ◌++◌}
use Prim.Native.Nat.{ℕ, suc, ◌+◌, ◌*◌, ◌≤◌, ◌<◌}
use native.Mathlib.Omega.{arith}
use native.Mathlib.Numerals.{add-one}
use borrow.Author.Tests.{eq-eqb, ne_eqb, lt-ltb, le-ltb}
use lib.Dec.{eqb, ltb}
use lib.ListN.{length, length-append}
use Rattle.blocks.specs.declared.Net.{Net}
use Rattle.blocks.specs.declared.State.{State}
use Rattle.cycles.specs.declared.Stepped.{Stepped}
use Rattle.runs.proofs.Induction.{from_on}
use Rattle.runs.specs.Runs.{Ran, begun, records_in, onward, step_at, ran_for}

module _ (net : Net) (s : State) (words ends masks : List ℕ) (room : ℕ) where
  abbrev ran : ℕ → Ran
  ran k = ran_for net s words ends masks room k

  abbrev at : ℕ → Stepped
  at k = step_at net words ends masks (ran k).state k

  ran_next : (k : ℕ) → ran (suc k) ≡ cond (eqb (ran k).ending 1) (ran k) (onward room (ran k) (at k))
  unfolding ran_for
  ran_next k = refl

  -- a run that has not ended goes on by its next cycle
  ran_more : (k : ℕ) → (ran k).ending ≡ 0 → ran (k + 1) ≡ onward room (ran k) (at k)
  ran_more k e =
      ap ran (add-one k) ∙ ran_next k ∙ ap (λ (t : Bool). cond t (ran k) (onward room (ran k) (at k))) (ne_eqb (ran k).ending 1 (λ z. omega (arith, e, z)))

  -- one that has ended 1 stays as it is
  pub ran_stays : (k m : ℕ) → (ran k).ending ≡ 1 → k ≤ m → ran m ≡ ran k
  ran_stays k m e =
      from_on (λ m. ran m ≡ ran k) k refl
      (λ m l before.
      ap ran (add-one m) ∙ ran_next m
      ∙ ap (λ (t : Bool). cond t (ran m) (onward room (ran m) (at m))) (eq-eqb (ran m).ending 1 (ap (λ (p : Ran). p.ending) before ∙ e)) ∙ before) m

  module _ (k : ℕ) (e : (ran k).ending ≡ 0) where
    abbrev new : List ℕ
    new = records_in (ran k).state.count (at k)

    abbrev stopped : Ran
    stopped = record { state = (ran k).state; ending = 1; cycles = (ran k).cycles; records = (ran k).records }

    abbrev gone : Ran
    gone = record { state = (at k).state; ending = 0; cycles = (ran k).cycles + 1; records = (ran k).records ++ new }

    by-room : (t : Bool) → ltb room (8 * length ((ran k).records ++ new)) ≡ t → ran (k + 1) ≡ cond t stopped gone
    unfolding onward
    by-room t q = ran_more k e ∙ ap (λ (t : Bool). cond t stopped gone) q

    -- the cycle goes where its records have room
    pub ran-went : 8 * (length (ran k).records + length new) ≤ room → ran (k + 1) ≡ gone
    ran-went h = by-room false (le-ltb room (8 * length ((ran k).records ++ new)) (omega (arith, length-append (ran k).records new)))

    -- or the run ends before it
    pub ran_ends : room < 8 * (length (ran k).records + length new) → ran (k + 1) ≡ stopped
    ran_ends h = by-room true (lt-ltb room (8 * length ((ran k).records ++ new)) (omega (arith, length-append (ran k).records new)))

pub ran_begins : (net : Net) (s : State) (words ends masks : List ℕ) (room : ℕ) → ran_for net s words ends masks room 0 ≡ begun s
unfolding ran_for
ran_begins net s words ends masks room = refl
