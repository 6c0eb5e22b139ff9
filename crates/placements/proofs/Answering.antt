-- The answers of `place` and `list` by their tests, over a base net that earns a number.
-- Assumes nothing.
use Prim.Native.Nat.{ℕ, ◌+◌, ◌≤◌, ◌<◌}
use Rattle.std.proofs.Common.{◌↔◌}
use mathlib.Core.Path.{◌≡◌, refl, sym, ap, ◌∙◌, subst}
use mathlib.Core.Bool.{Bool, true, false}
use mathlib.Core.Logic.{◌⊎◌, inl, inr}
use mathlib.Core.List.{List}
use native.Mathlib.Omega.{arith}
use lib.Dec.{eqb, leb}
use lib.ListN.{length, get_or}
use borrow.Author.Tests.{eqb-true, eq-eqb, ne_eqb, leb-true, le-leb}
use Rattle.std.specs.Prelude.{Result, Ok, Err, IfOk}
use Rattle.std.specs.Result.{is_ok}
use Rattle.blocks.specs.Folds.{all_below}
use Rattle.blocks.proofs.Folds.{which, clash, and_1, and_2, all_at, fails_at}
use Rattle.blocks.proofs.Options.{test}
use Rattle.blocks.specs.Refusals.{refusal_number}
use Rattle.blocks.specs.declared.Refusal.{Refusal}
use Rattle.blocks.specs.declared.Refusal.TheVariants as refusal
use Rattle.nets.specs.Verdict.{number_of, Joined, VerdictIs, Verdict, Accepted, Field, Connection, Ends, DataLoop, ControlLoop}
use Rattle.nets.specs.Verdict as verdict
use Rattle.nets.specs.Promises.{earned, refusal_of}
use Rattle.blocks.specs.declared.Net.{Net}
use Rattle.nets.specs.declared.Fault.{Fault}
use Rattle.nets.specs.declared.Fault.TheVariants as fault
use Rattle.nets.proofs.Decided.{verdict_of, verdict_is, verdict_of_lem}
use Rattle.stored.specs.Form.{zero_net, Outcome, loaded, denied}
use Rattle.stored.specs.declared.Loading.{Loading}
use Rattle.forms.specs.Over.{answered}
use Rattle.forms.proofs.Numbers.{numbered}
use Rattle.placed.specs.Placed.{placed, added}
use Rattle.placed.specs.Claims.{Fitting}
use Rattle.placed.proofs.Theorems.{by_joined}
use Rattle.placements.specs.Calls.{form_number, value_number, code_ok, codes_ok, room_for, place_number, place_by, place_read, place_of}
use Rattle.placements.specs.Listing.{unlisted, list_by, list_read}
use Rattle.placements.specs.Bases.{Based, BasedOn, place_on, list_on}

-- ## The tests

pub codes_long : (channels : ℕ) (codes : List ℕ) → codes_ok channels codes ≡ true → length codes ≡ channels
unfolding codes_ok
codes_long channels codes e = eqb-true (length codes) channels (and_1 (eqb (length codes) channels) (all_below (code_ok codes) (length codes)) e)

pub codes-tested : (codes : List ℕ) (r : Bool) → (r ≡ true) ↔ ((k : ℕ) → k < length codes → get_or codes k 0 ≤ 3) → r ≡ all_below (code_ok codes) (length codes)
codes-tested codes r e = go (which (all_below (code_ok codes) (length codes))) (which r)
  where
    go : (all_below (code_ok codes) (length codes) ≡ true) ⊎ (all_below (code_ok codes) (length codes) ≡ false) → (r ≡ true) ⊎ (r ≡ false) → r ≡ all_below (code_ok codes) (length codes)
    go (inl a) (inl t) = t ∙ sym a
    go (inr a) (inr f) = f ∙ sym a
    go (inl a) (inr f) = clash (e.1 (λ k q. leb-true (get_or codes k 0) 3 (all_at (code_ok codes) (length codes) a k q))) f
    go (inr a) (inl t) =
        let x : (i : ℕ) × (i < length codes) × (code_ok codes i ≡ false) = fails_at (code_ok codes) (length codes) a in
        clash (le-leb (get_or codes x.0 0) 3 (e.0 t x.0 x.1)) x.2

module _ (net : Net) (codes : List ℕ) where
  pub few-blocks : room_for net codes ≡ true → net.size + added codes ≤ 64
  few-blocks e = leb-true (net.size + added codes) 64 (and_1 (leb (net.size + added codes) 64) (leb (net.channels + added codes) 128) e)

  pub few-channels : room_for net codes ≡ true → net.channels + added codes ≤ 128
  few-channels e = leb-true (net.channels + added codes) 128 (and_2 (leb (net.size + added codes) 64) (leb (net.channels + added codes) 128) e)

  pub room_there : Fitting net codes → room_for net codes ≡ true
  room_there fit = rw (le-leb (net.size + added codes) 64 fit.blocks_fit, le-leb (net.channels + added codes) 128 fit.channels_fit)

  pub fitting : codes_ok net.channels codes ≡ true → room_for net codes ≡ true → Fitting net codes
  fitting good room = record { each = codes_long net.channels codes good; blocks_fit = few-blocks room; channels_fit = few-channels room }

-- ## The base net

-- a net that passes up to its loops earns no number as a base net
pub form_passes : (net : Net) → Joined net → form_number (verdict_of net) ≡ 0
form_passes = by_joined (λ v. form_number v ≡ 0) refl refl refl

pub value_passes : (net : Net) → Joined net → value_number (verdict_of net) ≡ 0
value_passes = by_joined (λ v. value_number v ≡ 0) refl refl refl

-- and one that earns none has one of these
by_number : (net : Net) (v : Verdict) → VerdictIs net v → form_number v ≡ 0 → Joined net
by_number net Accepted h e = h.0
by_number net Field h e = absurd (omega arith)
by_number net Connection h e = absurd (omega arith)
by_number net Ends h e = absurd (omega arith)
by_number net DataLoop h e = h.0
by_number net ControlLoop h e = h.0

pub form-joined : (net : Net) → form_number (verdict_of net) ≡ 0 → Joined net
form-joined net e = by_number net (verdict_of net) (verdict_is net) e

value_first : (v : Verdict) → value_number v ≡ 0 → form_number v ≡ 0
value_first v e = test (eqb (form_number v) 0) (eqb-true (form_number v) 0) (λ z. absurd (omega (arith, rw z at e)))

pub value-joined : (net : Net) → value_number (verdict_of net) ≡ 0 → Joined net
value-joined net e = form-joined net (value_first (verdict_of net) e)

-- ## The placement

-- a net value's base is refused with 12, and a form's with its own number
module _ (net : Net) (codes : List ℕ) where
  pub codes-refused : codes_ok net.channels codes ≡ false → answered (Err refusal.Codes) ≡ place_by 0 net codes
  unfolding place_by place_number
  codes-refused e = rw e refl

  module _ (good : codes_ok net.channels codes ≡ true) where
    pub room-refused : room_for net codes ≡ false → answered (Err refusal.Room) ≡ place_by 0 net codes
    unfolding place_by place_number
    room-refused e = rw (good, e) refl

    module _ (room : room_for net codes ≡ true) (made : Net) (is : made ≡ placed net codes) where
      by_verdict : (v : Verdict) → VerdictIs made v → place_number net codes ≡ number_of v
      unfolding place_number
      by_verdict v h = rw (good, room) (ap (λ (n : Net). number_of (verdict_of n)) (sym is) ∙ ap number_of (verdict_of_lem made v h))

      pub made-loads : VerdictIs made verdict.Accepted → answered (Ok made) ≡ place_by 0 net codes
      unfolding place_by
      made-loads h = rw (by_verdict verdict.Accepted h) (ap (λ (n : Net). record { refusal = 0; net = n }) is)

      pub made-refused : (f : Fault) → VerdictIs made (earned f) → answered (Err (refusal_of f)) ≡ place_by 0 net codes
      unfolding place_by
      made-refused fault.Field h = rw (by_verdict verdict.Field h) refl
      made-refused fault.Connection h = rw (by_verdict verdict.Connection h) refl
      made-refused fault.Ends h = rw (by_verdict verdict.Ends h) refl
      made-refused fault.DataLoop h = rw (by_verdict verdict.DataLoop h) refl
      made-refused fault.ControlLoop h = rw (by_verdict verdict.ControlLoop h) refl

-- ## The base net that was found

-- what a fault earns a form's net
pub form-earns : (net : Net) (f : Fault) → VerdictIs net (earned f) → (f ≡ fault.DataLoop → ⊥) → (f ≡ fault.ControlLoop → ⊥) → form_number (verdict_of net) ≡ refusal_number (refusal_of f)
form-earns net fault.Field h a b = ap form_number (verdict_of_lem net verdict.Field h)
form-earns net fault.Connection h a b = ap form_number (verdict_of_lem net verdict.Connection h)
form-earns net fault.Ends h a b = ap form_number (verdict_of_lem net verdict.Ends h)
form-earns net fault.DataLoop h a b = absurd (a refl)
form-earns net fault.ControlLoop h a b = absurd (b refl)

pub loops-earn-none : (net : Net) (f : Fault) → VerdictIs net (earned f) → (f ≡ fault.DataLoop) ⊎ (f ≡ fault.ControlLoop) → form_number (verdict_of net) ≡ 0
loops-earn-none net f h (inl e) = ap form_number (verdict_of_lem net (earned f) h) ∙ ap (λ (x : Fault). form_number (earned x)) e
loops-earn-none net f h (inr e) = ap form_number (verdict_of_lem net (earned f) h) ∙ ap (λ (x : Fault). form_number (earned x)) e

-- and a value's
pub value-earns : (net : Net) (e : Refusal) → form_number (verdict_of net) ≡ refusal_number e → value_number (verdict_of net) ≡ 12
value-earns net e h = rw (ne_eqb (form_number (verdict_of net)) 0 (λ z. omega (arith, numbered e)))

pub form-based : (net : Net) (r : Result Net Refusal) → Based (form_number (verdict_of net)) net r → IfOk r (λ m. Joined m)
form-based net (Ok m) h = subst Joined (sym h.1) (form-joined net h.0)
form-based net (Err e) h = tt

pub value-based : (net : Net) (r : Result Net Refusal) → Based (value_number (verdict_of net)) net r → IfOk r (λ m. Joined m)
value-based net (Ok m) h = subst Joined (sym h.1) (value-joined net h.0)
value-based net (Err e) h = tt

pub read-based : (o : Outcome) (r : Result Net Refusal) → BasedOn o r → IfOk r (λ m. Joined m)
read-based (denied e) (Ok m) h = absurd h.0
read-based (denied e) (Err d) h = tt
read-based (loaded net) r h = form-based net r h

-- the placement and the list over it
module _ (n : ℕ) (net : Net) where
  never_none : (e : Refusal) → n ≡ refusal_number e → eqb n 0 ≡ false
  never_none e h = ne_eqb n 0 (λ z. omega (arith, numbered e))

  pub place-based : (codes : List ℕ) (r : Result Net Refusal) → Based n net r → place_on r codes ≡ place_by n net codes
  unfolding place_by
  place-based codes (Ok m) h = rw (h.0, h.1) refl
  place-based codes (Err e) h =
      rw (never_none e h, never_none e h) (ap (λ (k : ℕ). record { refusal = k; net = zero_net }) (sym h))

  pub list-based : (r : Result Net Refusal) → Based n net r → list_on r ≡ list_by n net
  unfolding list_by
  list-based (Ok m) h = rw (h.0, h.1) refl
  list-based (Err e) h = rw (never_none e h) (ap unlisted (sym h))

pub place-read : (o : Outcome) (codes : List ℕ) (r : Result Net Refusal) → BasedOn o r → place_on r codes ≡ place_read o codes
place-read (denied e) codes (Ok m) h = absurd h.0
place-read (denied e) codes (Err d) h =
    rw (ne_eqb e 0 (λ z. omega (arith, numbered d, h.1))) (ap (λ (k : ℕ). record { refusal = k; net = zero_net }) (sym h.1))
place-read (loaded net) codes r h = place-based (form_number (verdict_of net)) net codes r h

pub list-read : (o : Outcome) (r : Result Net Refusal) → BasedOn o r → list_on r ≡ list_read o
list-read (denied e) (Ok m) h = absurd h.0
list-read (denied e) (Err d) h = ap unlisted (sym h.1)
list-read (loaded net) r h = list-based (form_number (verdict_of net)) net r h

-- whether a placement loads
pub loads-by : (net : Net) (codes : List ℕ) (r : Result Net Refusal) → answered r ≡ place_by 0 net codes → is_ok r ≡ eqb (place_number net codes) 0
unfolding place_by
loads-by net codes (Ok m) h = sym (eq-eqb (place_number net codes) 0 (sym (ap (λ (l : Loading). l.refusal) h)))
loads-by net codes (Err e) h = sym (ne_eqb (place_number net codes) 0 (λ z. omega (arith, numbered e, ap (λ (l : Loading). l.refusal) h, z)))

-- a base net that passes is judged by its codes alone
pub by_codes : (net : Net) → Joined net → (codes : List ℕ) → (place_of net codes).refusal ≡ place_number net codes
unfolding place_by
by_codes net j codes = rw (value_passes net j)
