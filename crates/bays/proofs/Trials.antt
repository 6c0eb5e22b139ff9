-- Bays worked out: two bays of document 01's trial net in turn, of which one stalls, with a refused step between them; a bay that uses all its cycles, and hinders no other; a bay
-- beside one that is spoilt, and beside one that is stepped on another net; two bays of a net with a merge, which choose differently; and bays that take turns by `next`: all four, for
-- which the last one waits for the fourth call, and three, of which one is refused.
-- Assumes nothing.
use Prim.Native.Nat.{ℕ, zero, suc, ◌+◌, ◌%◌, ◌≤◌, ◌<◌}
use mathlib.Core.Path.{◌≡◌, refl, sym, ap, ap₂, ◌∙◌, subst}
use mathlib.Core.Bool.{Bool, true, false, cond}
use mathlib.Core.List.{List, [], ◌∷◌, ◌++◌, IsPrefix, Memᴰ}
use native.Mathlib.Omega.{arith}
use borrow.Author.Tests.{le-leb, lt-leb}
use lib.Dec.{eqb}
use lib.ListN.{length, take, replicate, length-replicate}
use lib.Seq.{take_all}
use Rattle.blocks.specs.Folds.{all_below, count_below, lowest, bit, bits}
use Rattle.blocks.specs.Ports.{ports_of}
use Rattle.blocks.specs.Words.{operate}
use Rattle.nets.specs.Block.{ins, outs, on_side}
use Rattle.nets.specs.Net.{kind_count, place_of}
use Rattle.blocks.specs.declared.Net.{Net}
use Rattle.nets.proofs.Decided.{accepted}
use Rattle.nets.proofs.Trials.{line}
use Rattle.cycles.specs.Streams.{ends_fit}
use Rattle.cycles.specs.Cycle.{signals}
use Rattle.cycles.specs.State.{tab, shape_ok}
use Rattle.cycles.specs.Step.{refusal_by, step_by}
use Rattle.blocks.specs.declared.State.{State}
use Rattle.cycles.specs.declared.Stepped.{Stepped}
use Rattle.queue.specs.Machine.{put_by}
use Rattle.queue.specs.Delivered.{delivered, choices}
use Rattle.queue.specs.Claims.{Comparable}
use Rattle.queue.proofs.Trial.{line_run}
use Rattle.handshake.proofs.Tables.{merging}
use Rattle.handshake.proofs.Chosen.{merging_run}
use Rattle.sim.specs.Calls.{step_of}
use Rattle.claims.specs.Promised.{delivered_of, choices_of}
use Rattle.claims.proofs.Theorems.{earns_12, refusal_is}
use Rattle.claims.proofs.Trials.{as_accepted, as_chosen, line_in, merging_in}
use Rattle.bays.specs.Calls.{state_at, refusal_bay, refused_bay, fresh_bays, step_bay, first_wanting, no_bay, with_turn, next_bay}
use Rattle.bays.specs.Promised.{Call, step, next, bay_of, masks_of, calls_from, calls_of, answer, record_after, bay_delivered, bay_choices, own_of}
use Rattle.bays.specs.Promised.{CallOn, on, answers_to, alone_step, named, Wants, said_in}
use Rattle.bays.specs.declared.Bays.{Bays}
use Rattle.bays.specs.declared.BayStepped.{BayStepped}
use Rattle.bays.specs.declared.Turned.{Turned}
use Rattle.bays.proofs.Refusals.{bay_beyond}
use Rattle.bays.proofs.Allowance.{refusal-in}
use Rattle.bays.proofs.Fresh.{fresh_turn}
use Rattle.bays.proofs.Theorems.{bay_alone, bays_free, bays_apart, own_choices, shape_kept_bays, turn_kept, four_kept, count_is_steps, refused_by_count, own_allowance}
use Rattle.bays.proofs.Theorems.{next_is_step, served_in_four, guaranteed_bays, same_choices_bays, said_among, guaranteed_among}

-- no bay has more calls than there are
calls_few : (net : Net) (words ends : List ℕ) (r : Bays) (ms : List Call) (b : ℕ) → length (calls_from net words ends r ms b) ≤ length ms
calls_few net words ends r [] b = omega arith
calls_few net words ends r (m ∷ ms) b =
    by (eqb (bay_of net words ends r m) b) (calls_from net words ends (answer net words ends r m).bays ms b) (calls_few net words ends (answer net words ends r m).bays ms b)
  where
    by : (t : Bool) (l : List (ℕ × ℕ)) → length l ≤ length ms → length (cond t (masks_of net words ends r m ∷ []) [] ++ l) ≤ suc (length ms)
    by true l h = omega arith
    by false l h = omega arith

-- what a bay delivers, and chooses, in fewer calls than it has cycles: what the steps asked of it do
module _ (net : Net) (words ends : List ℕ) (acc : accepted net ≡ true) (fit : ends_fit net words ends ≡ true) (calls : List Call) (few : length calls < 1048577) (b : ℕ) (h : b < 4) where
  all_own : own_of net words ends calls b ≡ calls_of net words ends calls b
  all_own =
      own_allowance net words ends acc fit calls b h
      ∙ take_all 1048576 (calls_of net words ends calls b) (omega (arith, calls_few net words ends (fresh_bays net).bays calls b))

  delivers : (c : ℕ) → bay_delivered net words ends calls b c ≡ delivered true net words ends (calls_of net words ends calls b) c
  delivers c =
      (bays_apart net words ends calls b h).1 c ∙ ap (λ (masks : List (ℕ × ℕ)). delivered_of net words ends masks c) all_own
      ∙ as_accepted net acc words ends (calls_of net words ends calls b) c

  chooses : (x : ℕ) → bay_choices net words ends calls b x ≡ choices true net words ends (calls_of net words ends calls b) x
  chooses x =
      own_choices net words ends calls b h x ∙ ap (λ (masks : List (ℕ × ℕ)). choices_of net words ends masks x) all_own ∙ as_chosen net acc words ends (calls_of net words ends calls b) x

  counted : (state_at (record_after net words ends calls) b).count ≡ length (calls_of net words ends calls b)
  counted = count_is_steps net words ends calls b h ∙ ap (λ (masks : List (ℕ × ℕ)). length masks) all_own

-- ## Source 1, 2, 3; data buffer; add 5; sink

abbrev all : ℕ × ℕ
all = (4294967295, 4294967295)

-- the sink is not ready
abbrev wait : ℕ × ℕ
wait = (4294967295, 0)

-- bay 0 and bay 1 in turn; bay 1's sink stalls for two cycles; the third step names a bay that is not there; in the end bay 0 goes on alone
abbrev begun : List Call
begun = step 0 all ∷ step 1 wait ∷ []

abbrev turns : List Call
turns =
    step 0 all ∷ step 1 wait ∷ step 4 all ∷ step 0 all ∷ step 1 wait ∷ step 0 all ∷ step 1 all ∷ step 0 all ∷ step 0 all ∷ step 0 all ∷ []

abbrev turns_deliver : ℕ → ℕ → List ℕ
turns_deliver = bay_delivered line (1 ∷ 2 ∷ 3 ∷ []) (3 ∷ []) turns

line_fits : ends_fit line (1 ∷ 2 ∷ 3 ∷ []) (3 ∷ []) ≡ true
unfolding ends_fit kind_count count_below
line_fits = refl

-- what bay 1's three steps deliver: 1 waits in the buffer for two cycles
stalled_run : (delivered true line (1 ∷ 2 ∷ 3 ∷ []) (3 ∷ []) (wait ∷ wait ∷ all ∷ []) 0 ≡ 1 ∷ 2 ∷ [])
    × (delivered true line (1 ∷ 2 ∷ 3 ∷ []) (3 ∷ []) (wait ∷ wait ∷ all ∷ []) 2 ≡ 6 ∷ [])
unfolding step_by refusal_by shape_ok ends_fit tab signals place_of all_below count_below kind_count ports_of ins outs on_side bit operate
stalled_run = (refl, refl)

-- what two steps deliver at the sink, and two for which it is not ready
abbrev alone : List (ℕ × ℕ) → List ℕ
alone masks = delivered true line (1 ∷ 2 ∷ 3 ∷ []) (3 ∷ []) masks 2

waiting-run : (alone (all ∷ all ∷ []) ≡ 6 ∷ []) × (alone (wait ∷ wait ∷ []) ≡ [])
unfolding step_by refusal_by shape_ok ends_fit tab signals place_of all_below count_below kind_count ports_of ins outs on_side bit operate
waiting-run = (refl, refl)

-- bay 0 delivers what it would deliver alone, and bay 1 a beginning of it
pub turns_deliver_lem : (turns_deliver 0 2 ≡ 6 ∷ 7 ∷ 8 ∷ []) × (turns_deliver 1 2 ≡ 6 ∷ []) × (turns_deliver 1 0 ≡ 1 ∷ 2 ∷ []) × (turns_deliver 2 0 ≡ [])
turns_deliver_lem =
    let say = delivers line (1 ∷ 2 ∷ 3 ∷ []) (3 ∷ []) line_in.0 line_fits turns (omega arith) in
    (say 0 (omega arith) 2 ∙ line_run.2, say 1 (omega arith) 2 ∙ stalled_run.1, say 1 (omega arith) 0 ∙ stalled_run.0, say 2 (omega arith) 0)

-- so it is by the law, on every channel
pub turns_same : (c : ℕ) → c < 3 → Comparable (turns_deliver 0 c) (turns_deliver 1 c)
turns_same =
    same_choices_bays line (1 ∷ 2 ∷ 3 ∷ []) (3 ∷ []) line_in.0 turns turns 0 1 (omega arith) (omega arith) (λ x h e. absurd (line_in.1 x h e))

-- the third step is refused
pub turns_refused : (answer line (1 ∷ 2 ∷ 3 ∷ []) (3 ∷ []) (record_after line (1 ∷ 2 ∷ 3 ∷ []) (3 ∷ []) begun) (step 4 all)).refusal ≡ 21
turns_refused =
    ap (λ (a : BayStepped). a.refusal)
    (bay_beyond line (record_after line (1 ∷ 2 ∷ 3 ∷ []) (3 ∷ []) begun) 4 (1 ∷ 2 ∷ 3 ∷ []) (3 ∷ []) all.0 all.1 (omega arith))

-- and counted in no bay: of ten steps bay 0 has made six and bay 1 three
abbrev turns_count : ℕ → ℕ
turns_count b = (state_at (record_after line (1 ∷ 2 ∷ 3 ∷ []) (3 ∷ []) turns) b).count

pub turns_counted : (turns_count 0 ≡ 6) × (turns_count 1 ≡ 3) × (turns_count 2 ≡ 0) × (turns_count 3 ≡ 0)
turns_counted =
    let count = counted line (1 ∷ 2 ∷ 3 ∷ []) (3 ∷ []) line_in.0 line_fits turns (omega arith) in
    (count 0 (omega arith), count 1 (omega arith), count 2 (omega arith), count 3 (omega arith))

-- ## One bay that uses all its cycles

module _ (net : Net) (words ends : List ℕ) (masks : ℕ × ℕ) where
  -- the record after a step of bay 0
  abbrev stepped : Bays → Bays
  stepped r = (answer net words ends r (step 0 masks)).bays

  busy_calls : (n : ℕ) (r : Bays) → length (calls_from net words ends r (replicate n (step 0 masks)) 0) ≡ n
  busy_calls zero r = refl
  busy_calls (suc n) r = ap suc (busy_calls n (stepped r))

  no_calls : (n : ℕ) (r : Bays) (b : ℕ) → eqb 0 b ≡ false → calls_from net words ends r (replicate n (step 0 masks)) b ≡ []
  no_calls zero r b e = refl
  no_calls (suc n) r b e = rw e (no_calls n (stepped r) b e)

module _ (net : Net) (words ends : List ℕ) (acc : accepted net ≡ true) (fit : ends_fit net words ends ≡ true) (masks : ℕ × ℕ) (n : ℕ) (most : n ≡ 1048576) where
  abbrev busy : List Call
  busy = replicate n (step 0 masks)

  abbrev used : ℕ → ℕ
  used b = (state_at (record_after net words ends busy) b).count

  busy_used : (b : ℕ) → b < 4 → used b ≡ length (calls_of net words ends busy b)
  busy_used = counted net words ends acc fit busy (omega (arith, length-replicate n (step 0 masks)))

  -- 1,048,576 steps of bay 0: its next step is refused,
  pub busy_stops : (first : ℕ × ℕ) → (answer net words ends (record_after net words ends busy) (step 0 first)).refusal ≡ 16
  busy_stops first =
      refused_by_count net words ends busy (step 0 first) 0 (omega arith) refl
      ∙ rw (acc, fit, le-leb 1048576 (used 0) (omega (arith, busy_used 0 (omega arith), busy_calls net words ends masks n (fresh_bays net).bays)))

  -- and that of every other bay is not
  pub busy_hinders_none : (b : ℕ) → b < 4 → eqb 0 b ≡ false → (first : ℕ × ℕ) → (answer net words ends (record_after net words ends busy) (step b first)).refusal ≡ 0
  busy_hinders_none b h other first =
      let none : length (calls_of net words ends busy b) ≡ 0 = ap (λ (l : List (ℕ × ℕ)). length l) (no_calls net words ends masks n (fresh_bays net).bays b other) in
      refused_by_count net words ends busy (step b first) b h refl ∙ rw (acc, fit, lt-leb 1048576 (used b) (omega (arith, busy_used b h, none)))

-- ## A bay beside one that is spoilt

-- the turn is at bay 0; bay 1 has a count above the limit
abbrev beside : State → State → Bays
beside s bad = record { states = s ∷ bad ∷ s ∷ s ∷ []; turn = 0 }

module _ (net : Net) (words ends : List ℕ) (offer ready : ℕ) (s bad : State) where
  -- bay 0 by `next` and by `step_bay`; between them bay 1 on any net, over any words and ends
  abbrev among : Net → List ℕ → List ℕ → ℕ × ℕ → List CallOn
  among other words' ends' masks =
      on net words ends (next (offer ∷ ready ∷ []) 15) ∷ on other words' ends' (step 1 masks) ∷ on net words ends (step 0 (offer, ready)) ∷ []

  -- bay 0 alone, from a record in which no bay is spoilt, and the turn is another
  abbrev alone0 : List CallOn
  alone0 = on net words ends (step 0 (offer, ready)) ∷ on net words ends (step 0 (offer, ready)) ∷ []

  -- bay 0 is answered the same
  pub spoilt_beside : (other : Net) (words' ends' : List ℕ) (masks : ℕ × ℕ)
      → answers_to 0 (beside s bad) (among other words' ends' masks) ≡ answers_to 0 (with_turn 3 (beside s s)) alone0
  unfolding next_bay first_wanting lowest bit
  spoilt_beside other words' ends' masks =
      (bays_free 0 (omega arith) (beside s bad) (with_turn 3 (beside s s)) (record { four = refl; four' = refl; state = refl; beyond = refl }) (among other words' ends' masks) alone0 refl).0

  -- and bay 1 earns 13
  pub spoilt_13 : accepted net ≡ true → bad.count ≡ 1048577 → (answer net words ends (beside s bad) (step 1 (offer, ready))).refusal ≡ 13
  unfolding refusal_by shape_ok
  spoilt_13 acc e =
      let seen = ap (λ (t : Stepped). t.refusal) (bay_alone (beside s bad) refl 1 (omega arith) (on net words ends (step 1 (offer, ready))) refl) in
      let alone : (alone_step 0 bad (net, record { words = words; ends = ends; offer = offer; ready = ready })).refusal ≡ (step_of net bad words ends offer ready).refusal = rw acc in
      let number : (step_of net bad words ends offer ready).refusal ≡ 13 = sym (refusal_is net bad words ends offer ready) ∙ rw (acc, e) in
      seen ∙ alone ∙ number

-- ## A bay of document 01's net, and between its steps one of bay 1 on any net, over any words and ends

module _ (other : Net) (words ends : List ℕ) (masks : ℕ × ℕ) where
  abbrev between : List CallOn
  between = on line (1 ∷ 2 ∷ 3 ∷ []) (3 ∷ []) (step 0 all) ∷ on other words ends (step 1 masks) ∷ on line (1 ∷ 2 ∷ 3 ∷ []) (3 ∷ []) (step 0 all) ∷ []

  abbrev between_says : ℕ → List ℕ
  between_says = said_in (answers_to 0 (fresh_bays line).bays between)

  -- bay 0 delivers what its two steps do
  pub between_deliver : between_says 2 ≡ 6 ∷ []
  between_deliver =
      said_among line (1 ∷ 2 ∷ 3 ∷ []) (3 ∷ []) between 0 (omega arith) (all ∷ all ∷ []) refl 2
      ∙ as_accepted line line_in.0 (1 ∷ 2 ∷ 3 ∷ []) (3 ∷ []) (all ∷ all ∷ []) 2 ∙ waiting-run.0

  -- and keeps the guarantee
  pub between_guaranteed : (F : List ℕ) × ((x : ℕ) → Memᴰ x F → x < 4)
      × ((c : ℕ) → c < 3
      → IsPrefix (between_says c) (put_by line (1 ∷ 2 ∷ 3 ∷ []) (3 ∷ []) (choices_of line (1 ∷ 2 ∷ 3 ∷ []) (3 ∷ []) (all ∷ all ∷ [])) F c))
  between_guaranteed = guaranteed_among line (1 ∷ 2 ∷ 3 ∷ []) (3 ∷ []) line_in.0 between 0 (omega arith) (all ∷ all ∷ []) refl

-- ## Two sources, a merge of them, and a sink for each of its outputs

-- in bay 0 source 1 alone offers, in bay 1 source 0 alone; the report's sink stalls in both
abbrev both : List Call
both = step 0 (2, 1) ∷ step 1 (1, 1) ∷ []

merging_fits : ends_fit merging (10 ∷ 20 ∷ []) (1 ∷ 2 ∷ []) ≡ true
unfolding ends_fit kind_count count_below
merging_fits = refl

other_run : (choices true merging (10 ∷ 20 ∷ []) (1 ∷ 2 ∷ []) ((1, 1) ∷ []) 2 ≡ 0 ∷ []) × (delivered true merging (10 ∷ 20 ∷ []) (1 ∷ 2 ∷ []) ((1, 1) ∷ []) 2 ≡ 10 ∷ [])
unfolding step_by refusal_by shape_ok ends_fit tab signals place_of all_below count_below kind_count ports_of ins outs on_side bit bits lowest
other_run = (refl, refl)

abbrev both_choose : ℕ → List ℕ
both_choose b = bay_choices merging (10 ∷ 20 ∷ []) (1 ∷ 2 ∷ []) both b 2

abbrev both_deliver : ℕ → ℕ → List ℕ
both_deliver = bay_delivered merging (10 ∷ 20 ∷ []) (1 ∷ 2 ∷ []) both

-- each bay has its own choice, the winner that its own state records, and so its own word
pub both_choose_lem : (both_choose 0 ≡ 1 ∷ []) × (both_choose 1 ≡ 0 ∷ []) × (both_deliver 0 2 ≡ 20 ∷ []) × (both_deliver 1 2 ≡ 10 ∷ [])
both_choose_lem =
    let choose = chooses merging (10 ∷ 20 ∷ []) (1 ∷ 2 ∷ []) merging_in merging_fits both (omega arith) in
    let say = delivers merging (10 ∷ 20 ∷ []) (1 ∷ 2 ∷ []) merging_in merging_fits both (omega arith) in
    (choose 0 (omega arith) 2 ∙ merging_run.0, choose 1 (omega arith) 2 ∙ other_run.0, say 0 (omega arith) 2 ∙ merging_run.1, say 1 (omega arith) 2 ∙ other_run.1)

-- with its choices each bay keeps the guarantee, over any calls
pub both_guaranteed : (calls : List Call) (b : ℕ) → b < 4
    → (F : List ℕ) × ((x : ℕ) → Memᴰ x F → x < 5)
    × ((c : ℕ) → c < 4
    → IsPrefix (bay_delivered merging (10 ∷ 20 ∷ []) (1 ∷ 2 ∷ []) calls b c)
    (put_by merging (10 ∷ 20 ∷ []) (1 ∷ 2 ∷ []) (bay_choices merging (10 ∷ 20 ∷ []) (1 ∷ 2 ∷ []) calls b) F c))
both_guaranteed = guaranteed_bays merging (10 ∷ 20 ∷ []) (1 ∷ 2 ∷ []) merging_in

-- ## Bays that take turns

-- a call of `next` on a net, words, ends and masks
abbrev asks : ℕ → Net × List ℕ × List ℕ × List ℕ → CallOn
asks want given = on given.0 given.1 given.2 (next given.3 want)

-- all four want a cycle, over any nets and streams: they are named one after another, and bay 3 waits for the fourth call
pub in_turn_lem : (net : Net) (a b c d : Net × List ℕ × List ℕ × List ℕ)
    → named (fresh_bays net).bays (asks 15 a ∷ asks 15 b ∷ asks 15 c ∷ asks 15 d ∷ []) ≡ 0 ∷ 1 ∷ 2 ∷ 3 ∷ []
unfolding fresh_bays next_bay first_wanting lowest bit
in_turn_lem net a b c d = refl

-- bays 0, 1 and 2 want a cycle in six calls; bay 1's sink is not ready
abbrev three : List ℕ
three = 4294967295 ∷ 4294967295 ∷ 4294967295 ∷ 0 ∷ 4294967295 ∷ 4294967295 ∷ 0 ∷ 0 ∷ []

abbrev panel : List Call
panel = next three 7 ∷ next three 7 ∷ next three 7 ∷ next three 7 ∷ next three 7 ∷ next three 7 ∷ []

-- each of them gets two
panel_calls : (calls_of line (1 ∷ 2 ∷ 3 ∷ []) (3 ∷ []) panel 0 ≡ all ∷ all ∷ []) × (calls_of line (1 ∷ 2 ∷ 3 ∷ []) (3 ∷ []) panel 1 ≡ wait ∷ wait ∷ [])
    × (calls_of line (1 ∷ 2 ∷ 3 ∷ []) (3 ∷ []) panel 2 ≡ all ∷ all ∷ []) × (calls_of line (1 ∷ 2 ∷ 3 ∷ []) (3 ∷ []) panel 3 ≡ [])
unfolding fresh_bays next_bay first_wanting lowest bit
panel_calls = (refl, refl, refl, refl)

-- and makes them as it would alone: bays 0 and 2 deliver the same, and bay 1 waits
abbrev panel_deliver : ℕ → List ℕ
panel_deliver b = bay_delivered line (1 ∷ 2 ∷ 3 ∷ []) (3 ∷ []) panel b 2

pub panel_deliver_lem : (panel_deliver 0 ≡ 6 ∷ []) × (panel_deliver 1 ≡ []) × (panel_deliver 2 ≡ 6 ∷ [])
panel_deliver_lem =
    let say = delivers line (1 ∷ 2 ∷ 3 ∷ []) (3 ∷ []) line_in.0 line_fits panel (omega arith) in (
      say 0 (omega arith) 2 ∙ ap alone panel_calls.0 ∙ waiting-run.0,
      say 1 (omega arith) 2 ∙ ap alone panel_calls.1 ∙ waiting-run.1,
      say 2 (omega arith) 2 ∙ ap alone panel_calls.2 ∙ waiting-run.0,
    )

-- the second call gets ends that do not fit: bay 1 is named, its step refused with 14, and nothing but the turn moves
abbrev once : Bays
once = record_after line (1 ∷ 2 ∷ 3 ∷ []) (3 ∷ []) (next three 7 ∷ [])

abbrev second : Turned
second = next_bay line once (1 ∷ 2 ∷ 3 ∷ []) (4 ∷ []) three 7

second_bay : second.bay ≡ 1
unfolding fresh_bays next_bay first_wanting lowest bit
second_bay = refl

line_unfit : ends_fit line (1 ∷ 2 ∷ 3 ∷ []) (4 ∷ []) ≡ false
unfolding ends_fit kind_count count_below
line_unfit = refl

second_number : second.step.refusal ≡ 14
second_number =
    let first : List Call = next three 7 ∷ [] in
    let four = four_kept line (1 ∷ 2 ∷ 3 ∷ []) (3 ∷ []) first in
    let turn = turn_kept line (1 ∷ 2 ∷ 3 ∷ []) (3 ∷ []) first in
    let shape = shape_kept_bays line (1 ∷ 2 ∷ 3 ∷ []) (3 ∷ []) line_in.0 first 1 (omega arith) in
    refusal-in line (1 ∷ 2 ∷ 3 ∷ []) (4 ∷ []) 1 (omega arith) once four turn (λ acc. shape) (next three 7) second_bay ∙ rw (line_in.0, line_unfit)

pub second_refused : second.step ≡ refused_bay 14 (with_turn 2 once)
second_refused =
    (next_is_step line once (1 ∷ 2 ∷ 3 ∷ []) (4 ∷ []) three 7).refused (λ e. omega (arith, second_bay)) (λ e. omega (arith, second_number))
    ∙ ap₂ (λ (n k : ℕ). refused_bay n (with_turn ((k + 1) % 4) once)) second_number second_bay

-- a stored turn beyond the four bays, of a net that is not accepted: `next` refuses the turn before it looks at the net, `step_bay` the net before the turn; and bit 4 is no bay's
pub lost_turn : (net : Net) (r : Bays) (words ends masks : List ℕ) (offer ready : ℕ) → accepted net ≡ false
    → (next_bay net (with_turn 7 r) words ends masks 1 ≡ no_bay 13 (with_turn 7 r)) × ((step_bay net (with_turn 7 r) 0 words ends offer ready).refusal ≡ 12)
    × (next_bay net (with_turn 7 r) words ends masks 16 ≡ no_bay 0 (with_turn 7 r))
unfolding next_bay step_bay refusal_bay
lost_turn net r words ends masks offer ready bad = (refl, rw (((earns_12 net).1 (state_at r 0) words ends offer ready).1 bad), refl)

-- a bay among four calls of `next` on other nets and streams, with a step between them
abbrev mixed : Net → List CallOn
mixed net =
    asks 7 (line, 1 ∷ 2 ∷ 3 ∷ [], 3 ∷ [], three) ∷ on line (1 ∷ 2 ∷ 3 ∷ []) (3 ∷ []) (step 3 all) ∷ asks 31 (line, 1 ∷ 2 ∷ 3 ∷ [], 4 ∷ [], three) ∷ asks 4 (net, [], [], [])
    ∷ asks 6 (line, [], [], three) ∷ []

mixed_wants : (net : Net) (m : CallOn) → Memᴰ m (mixed net) → Wants 2 m
unfolding bit
mixed_wants net m (Memᴰ.head e) = subst (Wants 2) (sym e) refl
mixed_wants net m (Memᴰ.tail (Memᴰ.head e)) = subst (Wants 2) (sym e) tt
mixed_wants net m (Memᴰ.tail (Memᴰ.tail (Memᴰ.head e))) = subst (Wants 2) (sym e) refl
mixed_wants net m (Memᴰ.tail (Memᴰ.tail (Memᴰ.tail (Memᴰ.head e)))) = subst (Wants 2) (sym e) refl
mixed_wants net m (Memᴰ.tail (Memᴰ.tail (Memᴰ.tail (Memᴰ.tail (Memᴰ.head e))))) = subst (Wants 2) (sym e) refl
mixed_wants net m (Memᴰ.tail (Memᴰ.tail (Memᴰ.tail (Memᴰ.tail (Memᴰ.tail i))))) = elim i [ ]

pub mixed_served : (net : Net) → Memᴰ 2 (take 4 (named (fresh_bays line).bays (mixed net)))
mixed_served net = served_in_four (fresh_bays line).bays (fresh_turn line) 2 (omega arith) (mixed net) (mixed_wants net) (omega arith)
