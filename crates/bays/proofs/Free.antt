-- A bay's answers along a list of calls: those of its own state to what it is given, one after another; so nothing that is done to other bays alters them.
-- Assumes nothing.
use Prim.Native.Nat.{ℕ, ◌<◌}
use mathlib.Core.Path.{◌≡◌, refl, ap, ap₂, ◌∙◌}
use mathlib.Core.Bool.{Bool, cond, ◌&&◌}
use mathlib.Core.List.{List, [], ◌∷◌, ◌++◌}
use native.Mathlib.Decide.{ℕ_discrete}
use borrow.Author.Tests.{eq-eqb, ne_eqb}
use lib.Dec.{leb}
use lib.ListN.{length}
use Rattle.blocks.specs.declared.Net.{Net}
use Rattle.nets.proofs.Decided.{accepted}
use Rattle.cycles.specs.Step.{refused_step}
use Rattle.blocks.specs.declared.State.{State}
use Rattle.cycles.specs.declared.Stepped.{Stepped}
use Rattle.queue.specs.Delivered.{Input, marked}
use Rattle.claims.specs.Promised.{step_in, words_from}
use Rattle.bays.specs.Calls.{state_at}
use Rattle.bays.specs.Promised.{seen_by, CallOn, on, bay_on, given_on, answer_on, end_record, given_to, answers_to, alone_step, steps_of, all_on, said_in}
use Rattle.bays.specs.declared.Bays.{Bays}
use Rattle.bays.proofs.Turns.{turn_side}
use Rattle.bays.proofs.Alone.{alone_within, still_four, call_other, call_own}

-- of the turn only this is looked at: whether it is beyond the four bays
same_side : (turn other : ℕ) → leb 4 turn ≡ leb 4 other → (s : State) (given : Net × Input) → alone_step turn s given ≡ alone_step other s given
same_side turn other e s given = ap (λ (far : Bool). cond (accepted given.0 && far) (refused_step 13 s) (step_in given.0 s given.1)) e

call_side : (r : Bays) (m : CallOn) → leb 4 (answer_on r m).bays.turn ≡ leb 4 r.turn
call_side r (on net words ends m) = turn_side net words ends r m

-- what a bay in state s is answered, one call after another
abbrev pub alone_from : ℕ → State → List (Net × Input) → List Stepped
alone_from turn s [] = []
alone_from turn s (g ∷ gs) = alone_step turn s g ∷ alone_from turn (alone_step turn s g).state gs

module _ (b : ℕ) (h : b < 4) where
  pub alone_from_lem : (ms : List CallOn) (r : Bays) → length r.states ≡ 4 → (turn : ℕ) → leb 4 r.turn ≡ leb 4 turn
      → answers_to b r ms ≡ alone_from turn (state_at r b) (given_to b r ms)
  alone_from_lem [] r four turn side = refl
  alone_from_lem (m ∷ ms) r four turn side =
      by (ℕ_discrete (bay_on r m) b) (alone_from_lem ms (answer_on r m).bays (still_four r m four) turn (call_side r m ∙ side))
    where
      by : Dec (bay_on r m ≡ b) → answers_to b (answer_on r m).bays ms ≡ alone_from turn (state_at (answer_on r m).bays b) (given_to b (answer_on r m).bays ms)
          → answers_to b r (m ∷ ms) ≡ alone_from turn (state_at r b) (given_to b r (m ∷ ms))
      by (yes e) rest =
          let s : seen_by b (answer_on r m) ≡ alone_step turn (state_at r b) (given_on r m) =
          call_own r four b h m e ∙ same_side r.turn turn side (state_at r b) (given_on r m) in
          rw (eq-eqb (bay_on r m) b e)
          (ap₂ (λ (x : Stepped) (l : List Stepped). x ∷ l) s
          (rest ∙ ap (λ (x : Stepped). alone_from turn x.state (given_to b (answer_on r m).bays ms)) s))
      by (no n) rest = rw (ne_eqb (bay_on r m) b n) (rest ∙ ap (λ (x : State). alone_from turn x (given_to b (answer_on r m).bays ms)) (call_other r b m n))

-- ## The record in the end

pub end_four : (ms : List CallOn) (r : Bays) → length r.states ≡ 4 → length (end_record r ms).states ≡ 4
end_four [] r four = four
end_four (m ∷ ms) r four = end_four ms (answer_on r m).bays (still_four r m four)

pub end_side : (ms : List CallOn) (r : Bays) → leb 4 (end_record r ms).turn ≡ leb 4 r.turn
end_side [] r = refl
end_side (m ∷ ms) r = end_side ms (answer_on r m).bays ∙ call_side r m

-- the state that the last of some answers shows, or s where there is none
abbrev pub last_seen : State → List Stepped → State
last_seen s [] = s
last_seen s (t ∷ ts) = last_seen t.state ts

-- a bay's state is the one that it saw last
pub end_state_lem : (b : ℕ) (ms : List CallOn) (r : Bays) → state_at (end_record r ms) b ≡ last_seen (state_at r b) (answers_to b r ms)
end_state_lem b [] r = refl
end_state_lem b (m ∷ ms) r = by (ℕ_discrete (bay_on r m) b) (end_state_lem b ms (answer_on r m).bays)
  where
    by : Dec (bay_on r m ≡ b) → state_at (end_record (answer_on r m).bays ms) b ≡ last_seen (state_at (answer_on r m).bays b) (answers_to b (answer_on r m).bays ms)
        → state_at (end_record r (m ∷ ms)) b ≡ last_seen (state_at r b) (answers_to b r (m ∷ ms))
    by (yes e) rest = rw (eq-eqb (bay_on r m) b e) rest
    by (no n) rest = rw (ne_eqb (bay_on r m) b n) (rest ∙ ap (λ (s : State). last_seen s (answers_to b (answer_on r m).bays ms)) (call_other r b m n))

-- ## Steps of a bay

-- they give it what they are made of
pub steps_give : (b : ℕ) (gs : List (Net × Input)) (r : Bays) → gs ≡ given_to b r (steps_of b gs)
steps_give b [] r = refl
steps_give b (g ∷ gs) r = rw (eq-eqb b b refl) (ap (λ (l : List (Net × Input)). g ∷ l) (steps_give b gs _))

-- ## On one net

-- where the turn is within the four bays, the answers deliver what `step` delivers
pub said_steps : (net : Net) (turn : ℕ) → turn < 4 → (s : State) (ns : List Input) (c : ℕ) → said_in (alone_from turn s (all_on net ns)) c ≡ words_from net s ns c
said_steps net turn h s [] c = refl
said_steps net turn h s (n ∷ ns) c =
    ap (λ (t : Stepped). marked t c ++ said_in (alone_from turn t.state (all_on net ns)) c) (alone_within turn s (net, n) h)
    ∙ ap (◌++◌ (marked (step_in net s n) c)) (said_steps net turn h (step_in net s n).state ns c)
