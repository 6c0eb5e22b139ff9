-- What a bay sees of one call: of a call for it the step of its own state, unless the turn earns 13; of a call for another bay nothing, its state stays.
-- Assumes nothing.
use Prim.Native.Nat.{ℕ, ◌<◌}
use mathlib.Core.Path.{◌≡◌, refl, sym, ap, ◌∙◌, subst}
use mathlib.Core.Bool.{Bool, true, false, cond, ◌&&◌}
use mathlib.Core.Logic.{◌≢◌, ◌↔◌, ◌⊎◌, inl, inr}
use mathlib.Core.List.{List}
use native.Mathlib.Omega.{arith}
use borrow.Author.Tests.{eqb-true, eqb-false, leb-true, leb-false, lt-leb}
use lib.Dec.{eqb, leb}
use lib.ListN.{set, length, length-set}
use Rattle.blocks.proofs.Folds.{clash}
use Rattle.blocks.proofs.Options.{test}
use Rattle.blocks.specs.declared.Net.{Net}
use Rattle.nets.proofs.Decided.{accepted}
use Rattle.cycles.specs.Step.{refused_step}
use Rattle.blocks.specs.declared.State.{State}
use Rattle.cycles.specs.declared.Stepped.{Stepped}
use Rattle.queue.specs.Delivered.{Input}
use Rattle.claims.specs.Promised.{step_in}
use Rattle.claims.proofs.Theorems.{earns_12, refused_unchanged}
use Rattle.bays.specs.Calls.{state_at, refusal_bay, served_bay, step_bay, masks_at}
use Rattle.bays.specs.Promised.{step, next, seen_by, answer, CallOn, on, bay_on, given_on, answer_on, alone_step}
use Rattle.bays.specs.declared.Bays.{Bays}
use Rattle.bays.specs.declared.BayStepped.{BayStepped}
use Rattle.bays.proofs.Records.{states_same, state-set, state_kept}
use Rattle.bays.proofs.Refusals.{number_12, number_13, number_own, bay_refused, bay_served, Answered, bay_answer}
use Rattle.bays.proofs.Turns.{next_cases}

-- ## A step by itself

-- a refused step returns the state handed in and delivers nothing
step_refused : (net : Net) (s : State) (n : Input) → (step_in net s n).refusal ≢ 0 → step_in net s n ≡ refused_step (step_in net s n).refusal s
step_refused net s n some =
    let u = refused_unchanged net s n.words n.ends n.offer n.ready some in
    λ i. record { refusal = (step_in net s n).refusal; state = u.0 i; delivered = u.1 i; words = u.2 i }

module _ (turn : ℕ) (s : State) (given : Net × Input) where
  abbrev plain : Stepped
  plain = step_in given.0 s given.1

  -- so does a bay's
  pub alone_refused : (alone_step turn s given).refusal ≢ 0 → alone_step turn s given ≡ refused_step (alone_step turn s given).refusal s
  alone_refused = by (accepted given.0 && leb 4 turn)
    where
      by : (t : Bool) → (cond t (refused_step 13 s) plain).refusal ≢ 0 → cond t (refused_step 13 s) plain ≡ refused_step (cond t (refused_step 13 s) plain).refusal s
      by true some = refl
      by false some = step_refused given.0 s given.1 some

  -- and one that is not refused is a step
  pub alone_worked : (alone_step turn s given).refusal ≡ 0 → alone_step turn s given ≡ plain
  alone_worked = by (accepted given.0 && leb 4 turn)
    where
      by : (t : Bool) → (cond t (refused_step 13 s) plain).refusal ≡ 0 → cond t (refused_step 13 s) plain ≡ plain
      by true z = absurd (omega arith)
      by false z = refl

  -- as every one is where the turn is within the four bays
  pub alone_within : turn < 4 → alone_step turn s given ≡ plain
  alone_within h = by (accepted given.0)
    where
      by : (a : Bool) → cond (a && leb 4 turn) (refused_step 13 s) plain ≡ plain
      by true = rw (lt-leb 4 turn h)
      by false = refl

-- ## A step of a bay

module _ (net : Net) (r : Bays) (four : length r.states ≡ 4) (b : ℕ) (h : b < 4) (n : Input) where
  abbrev own : Stepped
  own = step_in net (state_at r b) n

  abbrev number : ℕ
  number = refusal_bay r.turn own.refusal

  abbrev sees : Stepped
  sees = seen_by b (step_bay net r b n.words n.ends n.offer n.ready)

  sees_refused : number ≢ 0 → sees ≡ refused_step number (state_at r b)
  sees_refused some = ap (seen_by b) (sym (bay_refused net r b n.words n.ends n.offer n.ready h own refl some))

  sees_served : number ≡ 0 → own.refusal ≡ 0 → sees ≡ own
  sees_served z w =
      ap (seen_by b) (sym (bay_served net r b n.words n.ends n.offer n.ready h own refl z))
      ∙ (λ i. record {
        refusal = sym w i;
        state = state-set (served_bay r b own).bays r b own.state refl four h i;
        delivered = own.delivered;
        words = own.words;
      })

  -- by the number that the bay earns: that of its own step, or 13
  sees_own : number ≡ own.refusal → sees ≡ own
  sees_own e =
      test (eqb own.refusal 0) (λ q. let z : own.refusal ≡ 0 = eqb-true _ 0 q in sees_served (e ∙ z) z)
      (λ q. let some : own.refusal ≢ 0 = eqb-false _ 0 q in
      sees_refused (λ z. some (sym e ∙ z)) ∙ ap (λ (x : ℕ). refused_step x (state_at r b)) e ∙ sym (step_refused net (state_at r b) n some))

  sees_13 : number ≡ 13 → sees ≡ refused_step 13 (state_at r b)
  sees_13 e = sees_refused (λ z. omega (arith, e)) ∙ ap (λ (x : ℕ). refused_step x (state_at r b)) e

  sees_alone : sees ≡ alone_step r.turn (state_at r b) (net, n)
  sees_alone = by (accepted net) (leb 4 r.turn) refl refl
    where
      twelve : (own.refusal ≡ 12) ↔ (accepted net ≡ false)
      twelve = (earns_12 net).1 (state_at r b) n.words n.ends n.offer n.ready

      other : accepted net ≡ true → own.refusal ≢ 12
      other p z = clash p (twelve.0 z)

      by : (a far : Bool) → accepted net ≡ a → leb 4 r.turn ≡ far → sees ≡ cond (a && far) (refused_step 13 (state_at r b)) own
      by false far p q = sees_own (number_12 r.turn own.refusal (twelve.1 p) ∙ sym (twelve.1 p))
      by true true p q = sees_13 (number_13 r.turn own.refusal (other p) (leb-true 4 r.turn q))
      by true false p q = sees_own (number_own r.turn own.refusal (other p) (leb-false 4 r.turn q))

-- ## A call

module _ (r : Bays) where
  -- the states after it: as they were, or with that of its bay set
  abbrev Moves : ℕ → BayStepped → Type 0
  Moves k a = (a.bays.states ≡ r.states) ⊎ ((s : State) × (a.bays.states ≡ set r.states k s))

  step_moves : (net : Net) (k : ℕ) (words ends : List ℕ) (offer ready : ℕ) → Moves k (step_bay net r k words ends offer ready)
  step_moves net k words ends offer ready = by (bay_answer net r k words ends offer ready)
    where
      by : {t : Stepped} {a : BayStepped} → Answered r k t a → Moves k a
      by (inl n) = inl (ap (λ (a : BayStepped). a.bays.states) n.is)
      by (inr s) = inr (_, ap (λ (a : BayStepped). a.bays.states) s.is)

  call_moves : (m : CallOn) → Moves (bay_on r m) (answer_on r m)
  call_moves (on net words ends (step k masks)) = step_moves net k words ends masks.0 masks.1
  call_moves (on net words ends (next masks want)) =
      next_cases net r words ends masks want (λ t. Moves t.bay t.step) (inl refl) (λ l. inl refl)
      (λ h k l. step_moves net k words ends (masks_at masks k).0 (masks_at masks k).1)

  -- there are four all along
  pub still_four : (m : CallOn) → length r.states ≡ 4 → length (answer_on r m).bays.states ≡ 4
  still_four m four = by (call_moves m)
    where
      by : Moves (bay_on r m) (answer_on r m) → length (answer_on r m).bays.states ≡ 4
      by (inl e) = ap (λ (l : List State). length l) e ∙ four
      by (inr x) = ap (λ (l : List State). length l) x.1 ∙ length-set r.states _ _ ∙ four

  -- a call for another bay
  pub call_other : (b : ℕ) (m : CallOn) → bay_on r m ≢ b → state_at (answer_on r m).bays b ≡ state_at r b
  call_other b m n = by (call_moves m)
    where
      by : Moves (bay_on r m) (answer_on r m) → state_at (answer_on r m).bays b ≡ state_at r b
      by (inl e) = states_same (answer_on r m).bays r e b
      by (inr x) = state_kept (answer_on r m).bays r (bay_on r m) x.0 x.1 b (λ q. n (sym q))

  -- a call for bay b
  pub call_own : length r.states ≡ 4 → (b : ℕ) → b < 4 → (m : CallOn) → bay_on r m ≡ b → seen_by b (answer_on r m) ≡ alone_step r.turn (state_at r b) (given_on r m)
  call_own four b h (on net words ends (step k masks)) = λ e.
      subst (λ (x : ℕ). seen_by b (answer net words ends r (step x masks)) ≡ alone_step r.turn (state_at r b) (given_on r (on net words ends (step b masks)))) (sym e)
      (sees_alone net r four b h (record { words = words; ends = ends; offer = masks.0; ready = masks.1 }))
  call_own four b h (on net words ends (next masks want)) =
      next_cases net r words ends masks want
      (λ t. t.bay ≡ b → seen_by b t.step ≡ alone_step r.turn (state_at r b) (net, given t.bay)) (λ e. absurd (omega arith)) (λ l e. absurd (omega arith))
      (λ t k l e. subst (λ (x : ℕ). seen_by b (answer net words ends r (step x (masks_at masks x))) ≡ alone_step r.turn (state_at r b) (net, given x)) (sym e)
      (sees_alone net r four b h (given b)))
    where
      given : ℕ → Input
      given k = record { words = words; ends = ends; offer = (masks_at masks k).0; ready = (masks_at masks k).1 }
