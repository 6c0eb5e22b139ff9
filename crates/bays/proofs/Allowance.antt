-- Which calls for a bay are refused, where the turn is within the four bays and the bay's state is in shape: 16 falls by the bay's own count. So of an accepted net, over ends that
-- fit, a bay's own steps are the first that are asked of it.
-- Assumes nothing.
use Prim.Native.Nat.{ℕ, suc, ◌+◌, ◌-◌, ◌≤◌, ◌<◌}
use mathlib.Core.Path.{◌≡◌, refl, sym, ap, ◌∙◌}
use mathlib.Core.Bool.{Bool, true, false, cond, not}
use mathlib.Core.Logic.{◌≢◌}
use mathlib.Core.List.{List, [], ◌∷◌}
use native.Mathlib.Decide.{ℕ_discrete}
use native.Mathlib.Omega.{arith}
use borrow.Author.Tests.{eq-eqb, ne_eqb, leb-true, leb-false, le-leb, lt-leb, lt-ltb, le-ltb}
use lib.Dec.{leb, ltb}
use lib.ListN.{length, take}
use lib.Seq.{take-nil}
use Rattle.blocks.proofs.Folds.{clash}
use Rattle.blocks.proofs.Options.{test}
use Rattle.blocks.specs.declared.Net.{Net}
use Rattle.nets.proofs.Decided.{accepted}
use Rattle.cycles.specs.State.{shape_ok}
use Rattle.cycles.specs.Streams.{ends_fit}
use Rattle.cycles.specs.Step.{refusal_by}
use Rattle.blocks.specs.declared.State.{State}
use Rattle.cycles.specs.declared.Stepped.{Stepped}
use Rattle.queue.specs.Delivered.{Input}
use Rattle.sim.specs.Calls.{step_of}
use Rattle.claims.proofs.Theorems.{shape_kept, refusal_is}
use Rattle.bays.specs.Calls.{state_at}
use Rattle.bays.specs.Promised.{Call, bay_of, masks_of, answer, calls_from, own_steps, on, given_on}
use Rattle.bays.specs.declared.Bays.{Bays}
use Rattle.bays.proofs.Turns.{turn_in}
use Rattle.bays.proofs.Alone.{alone_within, still_four, call_own}
use Rattle.bays.proofs.Apart.{Idle, Steps, idle-other, idle-refused, steps-worked}

module _ (net : Net) (words ends : List ℕ) where
  -- ## Refusals

  -- the number of a step whose state is in shape, by the state's count
  abbrev pub by_count : ℕ → ℕ
  by_count count = cond (not (accepted net)) 12 (cond (not (ends_fit net words ends)) 14 (cond (leb 1048576 count) 16 0))

  -- one cycle more passes the limit where it is reached
  one_more : (count : ℕ) → ltb 1048576 (count + 1) ≡ leb 1048576 count
  one_more count =
      test (leb 1048576 count) (λ q. lt-ltb 1048576 (count + 1) (omega (arith, leb-true 1048576 count q)) ∙ sym q)
      (λ q. le-ltb 1048576 (count + 1) (omega (arith, leb-false 1048576 count q)) ∙ sym q)

  own_number : (s : State) → (accepted net ≡ true → shape_ok net s ≡ true) → (offer ready : ℕ) → (step_of net s words ends offer ready).refusal ≡ by_count s.count
  unfolding refusal_by
  own_number s shape offer ready = sym (refusal_is net s words ends offer ready) ∙ by (accepted net) (shape_ok net s) shape
    where
      by : (a ok : Bool) → (a ≡ true → ok ≡ true)
          → ◌≡◌ {A = ℕ} (cond (not a) 12 (cond (not ok) 13 (cond (not (ends_fit net words ends)) 14 (cond false 15 (cond (ltb 1048576 (s.count + 1)) 16 0)))))
          (cond (not a) 12 (cond (not (ends_fit net words ends)) 14 (cond (leb 1048576 s.count) 16 0)))
      by false ok p = refl
      by true false p = clash (p refl) refl
      by true true p = rw (one_more s.count)

  module _ (b : ℕ) (h : b < 4) where
    pub refusal-in : (r : Bays) → length r.states ≡ 4 → r.turn < 4 → (accepted net ≡ true → shape_ok net (state_at r b) ≡ true) → (m : Call) → bay_of net words ends r m ≡ b
        → (answer net words ends r m).refusal ≡ by_count (state_at r b).count
    refusal-in r four turn shape m e =
        ap (λ (t : Stepped). t.refusal) (call_own r four b h (on net words ends m) e ∙ alone_within r.turn (state_at r b) (given_on r (on net words ends m)) turn)
        ∙ own_number (state_at r b) shape (masks_of net words ends r m).0 (masks_of net words ends r m).1

    -- ## The allowance

    module _ (acc : accepted net ≡ true) (fit : ends_fit net words ends ≡ true) where
      -- how many cycles are left to bay b
      abbrev left : Bays → ℕ
      left r = 1048576 - (state_at r b).count

      -- from record r on its own steps are the first that are asked of it, as many as are left
      abbrev First : Bays → List Call → Type 0
      First r ms = own_steps net words ends r ms b ≡ take (left r) (calls_from net words ends r ms b)

      module _ (r : Bays) (four : length r.states ≡ 4) (turn : r.turn < 4) (shape : shape_ok net (state_at r b) ≡ true) (m : Call) (ms : List Call) where
        abbrev after : Bays
        after = (answer net words ends r m).bays

        abbrev bay : ℕ
        bay = bay_of net words ends r m

        -- what holds after the call, where bay b's state is in shape
        abbrev Rest : Type 0
        Rest = shape_ok net (state_at after b) ≡ true → First after ms

        number : bay ≡ b → (answer net words ends r m).refusal ≡ cond (leb 1048576 (state_at r b).count) 16 0
        number e = refusal-in r four turn (λ a. shape) m e ∙ rw (acc, fit)

        -- the state rests
        first-idle : Idle net words ends b h r four m → Rest → First after ms
        first-idle i rest = rest (ap (shape_ok net) i.rests ∙ shape)

        -- a call for another bay
        first-other : bay ≢ b → Rest → First r (m ∷ ms)
        first-other n rest =
            let i : Idle net words ends b h r four m = idle-other net words ends b h r four m n in
            rw (ne_eqb bay b n) (first-idle i rest ∙ ap (λ (s : State). take (1048576 - s.count) (calls_from net words ends after ms b)) i.rests)

        -- none is left
        first_none : bay ≡ b → 1048576 ≤ (state_at r b).count → Rest → First r (m ∷ ms)
        first_none e full rest =
            let sixteen : (answer net words ends r m).refusal ≡ 16 = number e ∙ rw (le-leb 1048576 (state_at r b).count full) in
            let some : (answer net words ends r m).refusal ≢ 0 = λ z. omega (arith, sixteen) in
            let i : Idle net words ends b h r four m = idle-refused net words ends b h r four m e some in
            let none : left r ≡ 0 = omega arith in
            rw (i.not_own, none) (first-idle i rest ∙ ap (λ (s : State). take (1048576 - s.count) (calls_from net words ends after ms b)) i.rests ∙ rw none)

        first_one : bay ≡ b → (state_at r b).count < 1048576 → Rest → First r (m ∷ ms)
        first_one e room rest =
            let zero_number : (answer net words ends r m).refusal ≡ 0 = number e ∙ rw (lt-leb 1048576 (state_at r b).count room) in
            let s : Steps net words ends b h r four m = steps-worked net words ends b h r four m e zero_number in
            let n : Input = (given_on r (on net words ends m)).1 in
            let one_less : left r ≡ suc (left after) = omega (arith, ap (λ (t : State). t.count) s.after, s.counted) in
            rw (s.own, eq-eqb bay b e, one_less)
            (ap (λ (l : List (ℕ × ℕ)). masks_of net words ends r m ∷ l)
            (rest (ap (shape_ok net) s.after ∙ (shape_kept net acc).1 (state_at r b) n.words n.ends n.offer n.ready shape)))

      pub first-asked : (r : Bays) → length r.states ≡ 4 → r.turn < 4 → shape_ok net (state_at r b) ≡ true → (ms : List Call) → First r ms
      first-asked r four turn shape [] = sym (take-nil (left r))
      first-asked r four turn shape (m ∷ ms) =
          by (ℕ_discrete (bay_of net words ends r m) b)
          (λ ok. first-asked (answer net words ends r m).bays (still_four r (on net words ends m) four) (turn_in net words ends r m turn) ok ms)
        where
          by : Dec (bay_of net words ends r m ≡ b) → Rest r four turn shape m ms → First r (m ∷ ms)
          by (no n) rest = first-other r four turn shape m ms n rest
          by (yes e) rest =
              test (leb 1048576 (state_at r b).count) (λ q. first_none r four turn shape m ms e (leb-true 1048576 (state_at r b).count q) rest)
              (λ q. first_one r four turn shape m ms e (leb-false 1048576 (state_at r b).count q) rest)
