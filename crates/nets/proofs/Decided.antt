-- Every net value has its verdict, and so one as a function: what the contracts of the calls above cite.
-- Assumes nothing.
use mathlib.Core.Path.{◌≡◌, refl, sym, ap, subst, ◌∙◌}
use mathlib.Core.Bool.{Bool, true, false}
use mathlib.Core.List.{List}
use mathlib.Core.Logic.{◌⊎◌, inl, inr}
use Prim.Native.Nat.{ℕ}
use Rattle.std.specs.Prelude.{Result, Ok, Err}
use Rattle.blocks.proofs.Folds.{which, clash}
use Rattle.nets.specs.Net.{fields_ok, connected, few_ends}
use Rattle.nets.specs.Loops.{FreeLoop}
use Rattle.nets.specs.Promises.{InOrder, Planned, earned}
use Rattle.nets.specs.Verdict.{Joined, VerdictIs, Verdict, Accepted, Field, Connection, Ends, DataLoop, ControlLoop}
use Rattle.blocks.specs.declared.Net.{Net}
use Rattle.nets.specs.declared.Plan.{Plan}
use Rattle.nets.specs.declared.Fault.{Fault}
use Rattle.nets.specs.declared.Fault.TheVariants as fault
use Rattle.nets.proofs.Orders.{no_free_loop}
use Rattle.nets.proofs.Placed.{order-or-loop}
use Rattle.nets.proofs.Verdicts.{verdict_unique}

module _ (net : Net) where
  abbrev Judged : Type 0
  Judged = (v : Verdict) × VerdictIs net v

  abbrev Sorted : Bool → Type 0
  Sorted control = ((order : List ℕ) × InOrder net control order) ⊎ FreeLoop net control

  by_loops : Joined net → Sorted false → Sorted true → Judged
  by_loops j (inr l) c = (DataLoop, (j, l))
  by_loops j (inl o) (inr l) = (ControlLoop, (j, (no_free_loop net false o.0 o.1, l)))
  by_loops j (inl o) (inl p) = (Accepted, (j, (no_free_loop net false o.0 o.1, no_free_loop net true p.0 p.1)))

  by_tests : (fields_ok net ≡ true) ⊎ (fields_ok net ≡ false) → (connected net ≡ true) ⊎ (connected net ≡ false) → (few_ends net ≡ true) ⊎ (few_ends net ≡ false) → Judged
  by_tests (inr f) c e = (Field, f)
  by_tests (inl f) (inr c) e = (Connection, (f, c))
  by_tests (inl f) (inl c) (inr e) = (Ends, (f, (c, e)))
  by_tests (inl f) (inl c) (inl e) = by_loops (record { fields = f; joins = c; ends = e }) (order-or-loop net f c false) (order-or-loop net f c true)

  pub judged : (v : Verdict) × VerdictIs net v
  judged = by_tests (which (fields_ok net)) (which (connected net)) (which (few_ends net))

-- the verdict of a net value: the one that `VerdictIs` speaks of
pub verdict_of : Net → Verdict
verdict_of net = (judged net).0

pub verdict_is : (net : Net) → VerdictIs net (verdict_of net)
unfolding verdict_of
verdict_is net = (judged net).1

pub verdict_of_lem : (net : Net) (v : Verdict) → VerdictIs net v → verdict_of net ≡ v
verdict_of_lem net v h = verdict_unique net (verdict_of net) v (verdict_is net) h

-- the net value is accepted: it does not earn 12
abbrev pub is_accepted : Verdict → Bool
is_accepted Accepted = true
is_accepted Field = false
is_accepted Connection = false
is_accepted Ends = false
is_accepted DataLoop = false
is_accepted ControlLoop = false

unfoldable pub accepted : Net → Bool
accepted net = is_accepted (verdict_of net)

only_accepted : (v : Verdict) → is_accepted v ≡ true → v ≡ Accepted
only_accepted Accepted e = refl
only_accepted Field e = clash e refl
only_accepted Connection e = clash e refl
only_accepted Ends e = clash e refl
only_accepted DataLoop e = clash e refl
only_accepted ControlLoop e = clash e refl

pub accepted_true : (net : Net) → accepted net ≡ true → VerdictIs net Accepted
unfolding accepted
accepted_true net e = subst (VerdictIs net) (only_accepted (verdict_of net) e) (verdict_is net)

pub accepted_is : (net : Net) → VerdictIs net Accepted → accepted net ≡ true
unfolding accepted
accepted_is net h = ap is_accepted (verdict_of_lem net Accepted h)

-- no fault is an acceptance
not-accepted : (f : Fault) → is_accepted (earned f) ≡ false
not-accepted fault.Field = refl
not-accepted fault.Connection = refl
not-accepted fault.Ends = refl
not-accepted fault.DataLoop = refl
not-accepted fault.ControlLoop = refl

-- what the plan says of the net's verdict
abbrev pub verdict_in : Result Plan Fault → Verdict
verdict_in (Ok p) = Accepted
verdict_in (Err f) = earned f

pub planned_verdict : (net : Net) (r : Result Plan Fault) → Planned net r → verdict_in r ≡ verdict_of net
planned_verdict net (Ok p) h = sym (verdict_of_lem net Accepted h.0)
planned_verdict net (Err f) h = sym (verdict_of_lem net (earned f) h)

pub planned_accepted : (net : Net) (p : Plan) → Planned net (Ok p) → accepted net ≡ true
planned_accepted net p h = accepted_is net h.0

pub planned_refused : (net : Net) (f : Fault) → Planned net (Err f) → accepted net ≡ false
unfolding accepted
planned_refused net f h = ap is_accepted (verdict_of_lem net (earned f) h) ∙ not-accepted f
