-- The laws of one placement that specs/Claims.antt claims, proved.
-- Assumes nothing.
use Prim.Native.Nat.{ℕ}
use mathlib.Core.Path.{◌≡◌, refl, sym, ◌∙◌, ap, subst}
use mathlib.Core.Bool.{Bool, true, false, cond}
use mathlib.Core.Logic.{◌≢◌}
use mathlib.Core.List.{List}
use native.Mathlib.Omega.{arith}
use borrow.Author.Tests.{eqb-true, eqb-false, ne_eqb}
use lib.Dec.{eqb}
use Rattle.blocks.proofs.Folds.{clash}
use Rattle.blocks.proofs.Options.{test}
use Rattle.nets.specs.Net.{fields_ok}
use Rattle.nets.specs.Verdict.{number_of, Joined, VerdictIs, Verdict, Accepted, Field, Connection, Ends, DataLoop, ControlLoop}
use Rattle.blocks.specs.declared.Net.{Net}
use Rattle.nets.proofs.Decided.{verdict_of, verdict_is, verdict_of_lem}
use Rattle.stored.specs.Form.{Outcome, loaded, denied, parse}
use Rattle.forms.proofs.Fields.{loaded-fields}
use Rattle.forms.proofs.Answers.{denied_numbered, only_accepted}
use Rattle.placed.specs.Placed.{placed}
use Rattle.placements.specs.Calls.{form_number, value_number, codes_ok, room_for, place_number, place_by, place_read, place_of}
use Rattle.placements.specs.Claims.{BaseEarns12, FormNever12, PlacedLoads, LoadsPlaced, FormPlaced}
use Rattle.placed.proofs.Theorems.{by_joined, stays-joined}
use Rattle.placements.proofs.Answering.{room_there, fitting, by_codes, form_passes, value_passes, form-joined, value-joined}

-- ## The tests of a placement

-- no refusal: all the tests pass
all_pass : (a b : Bool) (n : ℕ) → cond a (cond b n 19) 18 ≡ 0 → (a ≡ true) × (b ≡ true) × (n ≡ 0)
all_pass true true n e = (refl, refl, e)
all_pass true false n e = absurd (omega arith)
all_pass false b n e = absurd (omega arith)

base_first : (base n : ℕ) → cond (eqb base 0) n base ≡ 0 → (base ≡ 0) × (n ≡ 0)
base_first base n e = test (eqb base 0) (λ z. (eqb-true base 0 z, rw z at e)) (λ z. absurd (eqb-false base 0 z (rw z at e)))

module _ (net : Net) (codes : List ℕ) where
  number_never_12 : Joined net → place_number net codes ≢ 12
  unfolding place_number
  number_never_12 j =
      test (codes_ok net.channels codes)
      (λ good. rw good
      (test (room_for net codes)
      (λ room. rw room
      (by_joined (λ v. number_of v ≢ 12) (λ z. omega arith) (λ z. omega arith) (λ z. omega arith) (placed net codes) (stays-joined net codes j (fitting net codes good room))))
      (λ room. rw room (λ z. omega arith))))
      (λ good. rw good (λ z. omega arith))

  -- over a base net that passes
  never_12 : Joined net → (place_by 0 net codes).refusal ≢ 12
  unfolding place_by
  never_12 j = number_never_12 j

-- ## The answers

pub placed-loads : PlacedLoads
unfolding place_by place_number
placed-loads net codes e =
    let n : ℕ = number_of (verdict_of (placed net codes)) in
    let b = base_first (value_number (verdict_of net)) (place_number net codes) e in
    let t = all_pass (codes_ok net.channels codes) (room_for net codes) n b.1 in
    record {
      base = value-joined net b.0;
      codes_good = t.0;
      fits = fitting net codes t.0 t.1;
      accepts = subst (VerdictIs (placed net codes)) (only_accepted (verdict_of (placed net codes)) t.2) (verdict_is (placed net codes));
      gives = rw e;
    }

pub loads-placed : LoadsPlaced
unfolding place_number
loads-placed net codes j good fit acc =
    by_codes net j codes ∙ rw (good, room_there net codes fit) (ap number_of (verdict_of_lem (placed net codes) Accepted acc))

earns_12 : (net : Net) (codes : List ℕ) → (Joined net → ⊥) → (place_of net codes).refusal ≡ 12
unfolding place_by
earns_12 net codes fails = rw (ne_eqb (form_number (verdict_of net)) 0 (λ e. fails (form-joined net e)))

pub base_earns_12 : BaseEarns12
base_earns_12 net codes =
    (λ e j. never_12 net codes j (subst (λ (base : ℕ). (place_by base net codes).refusal ≡ 12) (value_passes net j) e), earns_12 net codes)

-- a net that a form holds, by its verdict
read_never_12 : (net : Net) (codes : List ℕ) → fields_ok net ≡ true → (v : Verdict) → VerdictIs net v → (place_by (form_number v) net codes).refusal ≢ 12
unfolding place_by
read_never_12 net codes ok Accepted h = never_12 net codes h.0
read_never_12 net codes ok Field h = clash ok h
read_never_12 net codes ok Connection h = λ z. omega arith
read_never_12 net codes ok Ends h = λ z. omega arith
read_never_12 net codes ok DataLoop h = never_12 net codes h.0
read_never_12 net codes ok ControlLoop h = never_12 net codes h.0

pub form_never_12 : FormNever12
form_never_12 f codes = go (parse f) refl
  where
    go : (o : Outcome) → parse f ≡ o → (place_read o codes).refusal ≢ 12
    go (denied e) s = λ z. omega (arith, z, denied_numbered f e s)
    go (loaded net) s = read_never_12 net codes (loaded-fields f net s) (verdict_of net) (verdict_is net)

pub form-placed : FormPlaced
form-placed f net codes s j =
    ap (λ (o : Outcome). place_read o codes) s ∙ ap (λ (base : ℕ). place_by base net codes) (form_passes net j ∙ sym (value_passes net j))
