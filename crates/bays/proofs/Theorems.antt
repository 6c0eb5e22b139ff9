-- The promises of specs/Promised.antt, proved: a bay's answers are those of its own state to what it is given (proofs/Alone.antt, proofs/Free.antt), so along a list of calls it goes
-- through its own steps (proofs/Apart.antt), has its own allowance (proofs/Allowance.antt), and the word guarantee of steps is then each bay's. Whose cycle is next: proofs/Turns.antt
-- and proofs/Fair.antt.
-- Assumes nothing.
use Prim.Native.Nat.{ℕ, ◌+◌, ◌-◌, ◌%◌, ◌<◌}
use mathlib.Core.Path.{◌≡◌, refl, sym, ap, ap₂, ◌∙◌, subst, subst₂}
use mathlib.Core.Bool.{Bool, true, false, cond, not}
use mathlib.Core.Logic.{◌≢◌, inl, inr}
use mathlib.Core.List.{List, [], ◌++◌, IsPrefix, Memᴰ}
use native.Mathlib.Omega.{arith}
use borrow.Author.Tests.{leb-true, leb-false, lt-leb}
use lib.Dec.{leb}
use lib.ListN.{length, take}
use Rattle.blocks.proofs.Options.{test}
use Rattle.blocks.specs.declared.Net.{Net}
use Rattle.nets.proofs.Decided.{accepted}
use Rattle.cycles.specs.Streams.{ends_fit}
use Rattle.cycles.specs.State.{regs_of, shape_ok}
use Rattle.blocks.specs.declared.State.{State}
use Rattle.cycles.specs.declared.Stepped.{Stepped}
use Rattle.queue.specs.Machine.{put_by}
use Rattle.queue.specs.Delivered.{over, report, pending}
use Rattle.queue.specs.Claims.{Comparable}
use Rattle.queue.proofs.Guarantee.{choices_unread}
use Rattle.sim.specs.Calls.{fresh_of}
use Rattle.claims.specs.Promised.{words_from, state_from, delivered_of, choices_of}
use Rattle.claims.proofs.Theorems.{shape_kept, shape-from, guaranteed_merges, same_choices}
use Rattle.bays.specs.Calls.{state_at, refused_bay, fresh_bays, no_bay, turned_to, masks_at, serve_next, next_bay}
use Rattle.bays.specs.Promised.{
  Call,
  step,
  next,
  answer,
  all_calls,
  record_after,
  bay_delivered,
  calls_of,
  own_of,
  bay_choices,
  CallOn,
  given_to,
  answers_to,
  IsStep,
  BayIsStep,
  BayAlone,
  Alike,
  BaysFree,
  steps_of,
  OthersLeftOut,
  BaysApart,
  BaysCarry,
  ShapeKeptBays,
  TurnKept,
  Never13Bays,
  CountIsSteps,
  RefusedByCount,
  OwnAllowance,
  BitsIgnored,
  StepKeepsTurn,
  IsNext,
  NextIsStep,
  ServedInFour,
  GuaranteedBays,
  GuaranteedPlainBays,
  SameChoicesBays,
  all_on,
  said_in,
  GuaranteedAmong,
}
use Rattle.bays.specs.declared.Bays.{Bays}
use Rattle.bays.specs.declared.BayStepped.{BayStepped}
use Rattle.bays.proofs.Refusals.{bay_beyond, Answered, bay_answer}
use Rattle.bays.proofs.Turns.{wanting-low, next_cases, step_keeps}
use Rattle.bays.proofs.Fair.{served-from}
use Rattle.bays.proofs.Alone.{call_own}
use Rattle.bays.proofs.Free.{alone_from, alone_from_lem, end_four, end_side, last_seen, end_state_lem, steps_give, said_steps}
use Rattle.bays.proofs.Apart.{Follows, follows}
use Rattle.bays.proofs.Allowance.{refusal-in, first-asked}
use Rattle.bays.proofs.Fresh.{fresh_at, fresh_four, fresh_count, fresh_turn}

-- ## One call

pub bay_is_step : BayIsStep
bay_is_step net r k words ends offer ready = by (bay_answer net r k words ends offer ready)
  where
    by : {t : Stepped} {a : BayStepped} → Answered r k t a → IsStep r k t a
    by (inl n) =
        let number = ap (λ (x : BayStepped). x.refusal) n.is in
        record {
          refused = λ q. n.is ∙ ap (λ (x : ℕ). refused_bay x r) (sym number);
          worked = λ q. absurd (n.some_number (sym number ∙ q));
          served = λ q. absurd (n.some_number (sym number ∙ q));
        }
    by (inr s) = record { refused = λ q. absurd (q (ap (λ (x : BayStepped). x.refusal) s.is)); worked = λ q. s.worked; served = λ q. s.is }

-- ## What decides a bay's answers

pub bay_alone : BayAlone
bay_alone = call_own

same_answers : (b : ℕ) → b < 4 → (r q : Bays) → Alike b r q → (calls others : List CallOn) → given_to b r calls ≡ given_to b q others → answers_to b r calls ≡ answers_to b q others
same_answers b h r q a calls others e =
    alone_from_lem b h calls r a.four r.turn refl ∙ ap₂ (alone_from r.turn) a.state e ∙ sym (alone_from_lem b h others q a.four' r.turn (sym a.beyond))

pub bays_free : BaysFree
bays_free b h r q a calls others e =
    let same : answers_to b r calls ≡ answers_to b q others = same_answers b h r q a calls others e in (
      same,
      record {
        four = end_four calls r a.four;
        four' = end_four others q a.four';
        state = end_state_lem b calls r ∙ ap₂ last_seen a.state same ∙ sym (end_state_lem b others q);
        beyond = end_side calls r ∙ a.beyond ∙ sym (end_side others q);
      },
    )

pub others_left_out : OthersLeftOut
others_left_out b h r four calls =
    (bays_free b h r r (record { four = four; four' = four; state = refl; beyond = refl }) calls (steps_of b (given_to b r calls)) (steps_give b (given_to b r calls) r)).0

-- ## What decides a bay's deliveries and registers

followed : (net : Net) (words ends : List ℕ) (calls : List Call) (b : ℕ) (h : b < 4) → Follows net words ends b h (fresh_bays net).bays calls
followed net words ends calls b h = follows net words ends b h (fresh_bays net).bays calls (fresh_four net)

pub bays_apart : BaysApart
bays_apart net words ends calls b h =
    let f : Follows net words ends b h (fresh_bays net).bays calls = followed net words ends calls b h in (
      f.state_is ∙ ap (λ (s : State). state_from net s (over words ends (own_of net words ends calls b))) (fresh_at net b h),
      λ c. f.words_are c ∙ ap (λ (s : State). words_from net s (over words ends (own_of net words ends calls b)) c) (fresh_at net b h),
    )

pub bays_carry : BaysCarry
bays_carry net words ends C all calls b h =
    let p = bays_apart net words ends calls b h in
    subst₂ C (λ i c. sym (p.1 c) i) (sym p.0) (all (own_of net words ends calls b))

-- ## The record

pub shape_kept_bays : ShapeKeptBays
shape_kept_bays net words ends acc =
    bays_carry net words ends (λ d s. shape_ok net s ≡ true) (λ masks. shape-from net acc (fresh_of net).state (over words ends masks) (shape_kept net acc).0)

pub turn_kept : TurnKept
turn_kept net words ends calls =
    let r : Bays = (fresh_bays net).bays in
    leb-false 4 (record_after net words ends calls).turn (end_side (all_calls net words ends calls) r ∙ lt-leb 4 r.turn (fresh_turn net))

pub four_kept : (net : Net) (words ends : List ℕ) (calls : List Call) → length (record_after net words ends calls).states ≡ 4
four_kept net words ends calls = end_four (all_calls net words ends calls) (fresh_bays net).bays (fresh_four net)

pub count_is_steps : CountIsSteps
count_is_steps net words ends calls b h = omega (arith, (followed net words ends calls b h).count_is, ap (λ (s : State). s.count) (fresh_at net b h), fresh_count net)

-- ## What decides a refusal

pub refused_by_count : RefusedByCount
refused_by_count net words ends calls m b h e =
    refusal-in net words ends b h (record_after net words ends calls) (four_kept net words ends calls) (turn_kept net words ends calls)
    (λ acc. shape_kept_bays net words ends acc calls b h) m e

-- so 13 does not fall
not_13 : (a fit full : Bool) → ◌≢◌ {A = ℕ} (cond (not a) 12 (cond (not fit) 14 (cond full 16 0))) 13
not_13 false fit full e = absurd (omega arith)
not_13 true false full e = absurd (omega arith)
not_13 true true true e = absurd (omega arith)
not_13 true true false e = absurd (omega arith)

-- of a step of one of the four bays, and then of a step of any and of a call of `next`
module _ (net : Net) (words ends : List ℕ) (calls : List Call) where
  abbrev last : Bays
  last = record_after net words ends calls

  bay_not_13 : (k : ℕ) (masks : ℕ × ℕ) → k < 4 → (answer net words ends last (step k masks)).refusal ≢ 13
  bay_not_13 k masks h =
      subst (λ (n : ℕ). n ≢ 13) (sym (refused_by_count net words ends calls (step k masks) k h refl))
      (not_13 (accepted net) (ends_fit net words ends) (leb 1048576 (state_at last k).count))

pub never_13_bays : Never13Bays
never_13_bays net words ends calls (step k masks) =
    test (leb 4 k)
    (λ q e. omega (arith, e, ap (λ (a : BayStepped). a.refusal) (bay_beyond net (record_after net words ends calls) k words ends masks.0 masks.1 (leb-true 4 k q))))
    (λ q. bay_not_13 net words ends calls k masks (leb-false 4 k q))
never_13_bays net words ends calls (next masks want) =
    next_cases net (record_after net words ends calls) words ends masks want (λ t. t.step.refusal ≢ 13) (λ e. omega arith)
    (λ l e. omega (arith, turn_kept net words ends calls)) (λ turn k h. bay_not_13 net words ends calls k (masks_at masks k) h)

pub own_allowance : OwnAllowance
own_allowance net words ends acc fit calls b h =
    let r : Bays = (fresh_bays net).bays in
    let whole : 1048576 - (state_at r b).count ≡ 1048576 = omega (arith, ap (λ (s : State). s.count) (fresh_at net b h), fresh_count net) in
    first-asked net words ends b h acc fit r (fresh_four net) (fresh_turn net) (shape_kept_bays net words ends acc [] b h) calls
    ∙ ap (λ (n : ℕ). take n (calls_of net words ends calls b)) whole

-- ## Whose cycle is next

pub bits_ignored : BitsIgnored
unfolding next_bay
bits_ignored net r words ends masks want = rw (← wanting-low r.turn want, low) refl
  where
    low : want % 16 % 16 ≡ want % 16
    low = omega arith

pub step_keeps_turn : StepKeepsTurn
step_keeps_turn = step_keeps

pub next_is_step : NextIsStep
next_is_step net r words ends masks want = next_cases net r words ends masks want (IsNext net r words ends masks) (none_named 0) (λ h. none_named 13) (λ turn. served)
  where
    none_named : (n : ℕ) → IsNext net r words ends masks (no_bay n r)
    none_named n = record { nobody = λ e. refl; serves = λ e. absurd (e refl); refused = λ e. absurd (e refl) }

    served : (k : ℕ) → k < 4 → IsNext net r words ends masks (serve_next net r words ends masks k)
    served k h =
        record {
          nobody = λ e. absurd (omega arith);
          serves = λ e. (h, refl);
          refused = λ e n. ap (λ (a : BayStepped). (turned_to k a).step) ((bay_is_step net r k words ends (masks_at masks k).0 (masks_at masks k).1).refused n);
        }

pub served_in_four : ServedInFour
served_in_four r h b l calls w many = served-from b calls r 4 ((b + 4 - r.turn) % 4) h (omega arith) (omega arith) (omega arith) w (omega arith)

-- ## The word guarantee

pub guaranteed_bays : GuaranteedBays
guaranteed_bays net words ends acc =
    bays_carry net words ends
    (λ d s.
    (F : List ℕ) × ((x : ℕ) → Memᴰ x F → x < net.size)
    × ((c : ℕ) → c < net.channels → IsPrefix (d c) (put_by net words ends (λ x. d (report net x) ++ pending (regs_of s x)) F c)))
    (guaranteed_merges net words ends acc)

pub guaranteed_plain_bays : GuaranteedPlainBays
guaranteed_plain_bays net words ends acc free calls b h =
    let g = guaranteed_bays net words ends acc calls b h in (
      g.0,
      g.1,
      λ c hc. subst (λ (l : List ℕ). IsPrefix (bay_delivered net words ends calls b c) l) (choices_unread net words ends free (bay_choices net words ends calls b) g.0 c) (g.2 c hc),
    )

-- a bay's choices are those of its own steps
pub own_choices : (net : Net) (words ends : List ℕ) (calls : List Call) (b : ℕ) → b < 4 → (x : ℕ)
    → bay_choices net words ends calls b x ≡ choices_of net words ends (own_of net words ends calls b) x
own_choices net words ends calls b h x =
    let p = bays_apart net words ends calls b h in
    ap₂ (λ (l : List ℕ) (s : State). l ++ pending (regs_of s x)) (p.1 (report net x)) p.0

pub same_choices_bays : SameChoicesBays
same_choices_bays net words ends acc calls others b d hb hd same c hc =
    subst₂ Comparable (sym ((bays_apart net words ends calls b hb).1 c)) (sym ((bays_apart net words ends others d hd).1 c))
    (same_choices net words ends acc (own_of net words ends calls b) (own_of net words ends others d)
    (λ x hx e. subst₂ Comparable (own_choices net words ends calls b hb x) (own_choices net words ends others d hd x) (same x hx e)) c hc)

-- among any calls a bay delivers what `step` delivers over its own
pub said_among : (net : Net) (words ends : List ℕ) (calls : List CallOn) (b : ℕ) → b < 4
    → (masks : List (ℕ × ℕ)) → given_to b (fresh_bays net).bays calls ≡ all_on net (over words ends masks)
    → (c : ℕ) → said_in (answers_to b (fresh_bays net).bays calls) c ≡ delivered_of net words ends masks c
said_among net words ends calls b h masks e c =
    let r : Bays = (fresh_bays net).bays in
    let answers = alone_from_lem b h calls r (fresh_four net) r.turn refl ∙ ap₂ (alone_from r.turn) (fresh_at net b h) e in
    ap (λ (ts : List Stepped). said_in ts c) answers ∙ said_steps net r.turn (fresh_turn net) (fresh_of net).state (over words ends masks) c

pub guaranteed_among : GuaranteedAmong
guaranteed_among net words ends acc calls b h masks e =
    let g = guaranteed_merges net words ends acc masks in (
      g.0,
      g.1,
      λ c hc.
          subst (λ (l : List ℕ). IsPrefix l (put_by net words ends (choices_of net words ends masks) g.0 c)) (sym (said_among net words ends calls b h masks e c)) (g.2 c hc),
    )
