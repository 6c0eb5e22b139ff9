-- Along a list of calls on one net and one set of streams a bay goes through its own steps that were not refused: each call is nothing to it, or a step of its own state.
-- Assumes nothing.
use Prim.Native.Nat.{ℕ, zero, suc, ◌+◌, ◌<◌}
use mathlib.Core.Path.{◌≡◌, refl, ap, ◌∙◌, sym}
use mathlib.Core.Bool.{Bool, true, false, cond, ◌&&◌}
use mathlib.Core.Logic.{◌≢◌, ◌⊎◌, inl, inr}
use mathlib.Core.List.{List, [], ◌∷◌, ◌++◌}
use native.Mathlib.Decide.{ℕ_discrete}
use native.Mathlib.Omega.{arith}
use borrow.Author.Tests.{eqb-true, eqb-false, eq-eqb, ne_eqb}
use lib.Dec.{eqb}
use lib.ListN.{get_or, length, replicate}
use Rattle.blocks.proofs.Options.{test}
use Rattle.blocks.specs.declared.Net.{Net}
use Rattle.cycles.specs.Step.{refused_step}
use Rattle.blocks.specs.declared.State.{State}
use Rattle.cycles.specs.declared.Stepped.{Stepped}
use Rattle.queue.specs.Delivered.{Input, marked, over}
use Rattle.claims.specs.Promised.{step_in, words_from, state_from}
use Rattle.claims.proofs.Theorems.{count_rises}
use Rattle.bays.specs.Calls.{state_at}
use Rattle.bays.specs.Promised.{Call, bay_of, seen_by, answer, on, given_on, end_record, answers_to, said_in, all_calls, own_steps, alone_step}
use Rattle.bays.specs.declared.Bays.{Bays}
use Rattle.bays.specs.declared.BayStepped.{BayStepped}
use Rattle.bays.proofs.Alone.{alone_refused, alone_worked, still_four, call_other, call_own}

-- nothing is marked where all marks are zero
zero_at : (n c : ℕ) → ◌≡◌ {A = ℕ} (get_or (replicate n 0) c 0) 0
zero_at zero c = refl
zero_at (suc n) zero = refl
zero_at (suc n) (suc c) = zero_at n c

refused_silent : (n : ℕ) (s : State) (c : ℕ) → marked (refused_step n s) c ≡ []
refused_silent n s c = rw (zero_at 128 c)

module _ (net : Net) (words ends : List ℕ) (b : ℕ) (h : b < 4) where
  -- ## One call

  module _ (r : Bays) (four : length r.states ≡ 4) (m : Call) where
    abbrev a : BayStepped
    a = answer net words ends r m

    -- what bay b would be answered, and the step of its own state
    abbrev alone : Stepped
    alone = alone_step r.turn (state_at r b) (given_on r (on net words ends m))

    abbrev ownStep : Stepped
    ownStep = step_in net (state_at r b) (given_on r (on net words ends m)).1

    -- it is bay b's own step, and was not refused; what bay b delivers in it
    abbrev isOwn : Bool
    isOwn = eqb (bay_of net words ends r m) b && eqb a.refusal 0

    abbrev said : ℕ → List ℕ
    said c = cond (eqb (bay_of net words ends r m) b) (marked (seen_by b a) c) []

    -- it is nothing to bay b
    pub record Idle : Type 0 where
      pub not_own : isOwn ≡ false
      pub rests : state_at a.bays b ≡ state_at r b
      pub quiet : (c : ℕ) → said c ≡ []

    -- it is a step of its state
    pub record Steps : Type 0 where
      pub own : isOwn ≡ true
      pub after : state_at a.bays b ≡ ownStep.state
      pub counted : ownStep.state.count ≡ (state_at r b).count + 1
      pub heard : (c : ℕ) → said c ≡ marked ownStep c

    pub idle-other : bay_of net words ends r m ≢ b → Idle
    idle-other n =
        record { not_own = rw (ne_eqb (bay_of net words ends r m) b n); rests = call_other r b (on net words ends m) n; quiet = λ c. rw (ne_eqb (bay_of net words ends r m) b n) }

    module _ (e : bay_of net words ends r m ≡ b) where
      seen : seen_by b a ≡ alone
      seen = call_own r four b h (on net words ends m) e

      pub idle-refused : a.refusal ≢ 0 → Idle
      idle-refused n =
          let is : seen_by b a ≡ refused_step alone.refusal (state_at r b) =
          seen ∙ alone_refused r.turn (state_at r b) (given_on r (on net words ends m)) (λ z. n (ap (λ (t : Stepped). t.refusal) seen ∙ z)) in
          record {
            not_own = rw (eq-eqb (bay_of net words ends r m) b e, ne_eqb a.refusal 0 n);
            rests = ap (λ (t : Stepped). t.state) is;
            quiet = λ c. rw (eq-eqb (bay_of net words ends r m) b e) (ap (λ (t : Stepped). marked t c) is ∙ refused_silent alone.refusal (state_at r b) c);
          }

      pub steps-worked : a.refusal ≡ 0 → Steps
      steps-worked z =
          let none : alone.refusal ≡ 0 = sym (ap (λ (t : Stepped). t.refusal) seen) ∙ z in
          let is : seen_by b a ≡ ownStep = seen ∙ alone_worked r.turn (state_at r b) (given_on r (on net words ends m)) none in
          let n : Input = (given_on r (on net words ends m)).1 in
          record {
            own = rw (eq-eqb (bay_of net words ends r m) b e, eq-eqb a.refusal 0 z);
            after = ap (λ (t : Stepped). t.state) is;
            counted = count_rises net (state_at r b) n.words n.ends n.offer n.ready (sym (ap (λ (t : Stepped). t.refusal) is) ∙ z);
            heard = λ c. rw (eq-eqb (bay_of net words ends r m) b e) (ap (λ (t : Stepped). marked t c) is);
          }

    sees : Idle ⊎ Steps
    sees = by (ℕ_discrete (bay_of net words ends r m) b)
      where
        by : Dec (bay_of net words ends r m ≡ b) → Idle ⊎ Steps
        by (no n) = inl (idle-other n)
        by (yes e) = test (eqb a.refusal 0) (λ q. inr (steps-worked e (eqb-true a.refusal 0 q))) (λ q. inl (idle-refused e (eqb-false a.refusal 0 q)))

  -- ## A list of calls

  -- what is claimed of bay b from record r
  pub record Follows (r : Bays) (ms : List Call) : Type 0 where
    pub state_is : state_at (end_record r (all_calls net words ends ms)) b ≡ state_from net (state_at r b) (over words ends (own_steps net words ends r ms b))
    pub count_is : (state_at (end_record r (all_calls net words ends ms)) b).count ≡ (state_at r b).count + length (own_steps net words ends r ms b)
    pub words_are : (c : ℕ) → said_in (answers_to b r (all_calls net words ends ms)) c ≡ words_from net (state_at r b) (over words ends (own_steps net words ends r ms b)) c

  -- one more call
  said_first : (t : Bool) (x : Stepped) (l : List Stepped) (c : ℕ) → said_in (cond t (x ∷ []) [] ++ l) c ≡ cond t (marked x c) [] ++ said_in l c
  said_first true x l c = refl
  said_first false x l c = refl

  pub follows : (r : Bays) (ms : List Call) → length r.states ≡ 4 → Follows r ms
  follows r [] four = record { state_is = refl; count_is = omega arith; words_are = λ c. refl }
  follows r (m ∷ ms) four = by (sees r four m) (follows (answer net words ends r m).bays ms (still_four r (on net words ends m) four))
    where
      said_more : (c : ℕ) → said_in (answers_to b r (all_calls net words ends (m ∷ ms))) c
          ≡ said r four m c ++ said_in (answers_to b (answer net words ends r m).bays (all_calls net words ends ms)) c
      said_more = said_first (eqb (bay_of net words ends r m) b) (seen_by b (answer net words ends r m)) (answers_to b (answer net words ends r m).bays (all_calls net words ends ms))

      by : Idle r four m ⊎ Steps r four m → Follows (answer net words ends r m).bays ms → Follows r (m ∷ ms)
      by (inl i) f =
          record {
            state_is = rw i.not_own (f.state_is ∙ rw i.rests);
            count_is = rw i.not_own (f.count_is ∙ rw i.rests);
            words_are = λ c. said_more c ∙ rw (i.not_own, i.quiet c) (f.words_are c ∙ rw i.rests);
          }
      by (inr s) f =
          record {
            state_is = rw s.own (f.state_is ∙ rw s.after);
            count_is = rw s.own (omega (arith, f.count_is, ap (λ (t : State). t.count) s.after, s.counted));
            words_are = λ c. said_more c ∙ rw (s.own, s.heard c) (ap (◌++◌ (marked (ownStep r four m) c)) (f.words_are c ∙ rw s.after));
          }
