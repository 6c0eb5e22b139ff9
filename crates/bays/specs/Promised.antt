-- The promises over lists of calls: from any record, what decides a bay's answers and whose turn it is; and from a fresh record, on one net and one set of streams, the words of
-- each bay (requests 5, 6 and 8). They are written with `fresh_bays`, `step_bay` and `next_bay`: the contracts of `fresh_bays`, `step_bay` and `next` say that these calls answer exactly
-- so. proofs/Theorems.antt proves each one.
-- Assumes nothing.
use Rattle.std.specs.Prelude.{ℕ, ◌+◌, ◌%◌, ◌≤◌, ◌<◌, ◌≡◌, true, cond, not, ◌&&◌, ◌≢◌, leb, eqb, length, take}
use mathlib.Core.List.{List, [], ◌∷◌, ◌++◌, IsPrefix, Memᴰ}
use Rattle.blocks.specs.Folds.{bit}
use Rattle.nets.specs.Net.{block_at}
use Rattle.blocks.specs.declared.Net.{Net}
use Rattle.nets.proofs.Decided.{accepted}
use Rattle.cycles.specs.Streams.{ends_fit}
use Rattle.cycles.specs.State.{regs_of, shape_ok}
use Rattle.cycles.specs.Step.{refused_step}
use Rattle.blocks.specs.declared.State.{State}
use Rattle.cycles.specs.declared.Stepped.{Stepped}
use Rattle.queue.specs.Machine.{put_by, put}
use Rattle.queue.specs.Delivered.{Input, marked, over, report, pending}
use Rattle.queue.specs.Claims.{MergeFree, Comparable}
use Rattle.sim.specs.Calls.{step_of}
use Rattle.claims.specs.Promised.{step_in, delivered_of, end_state_of, choices_of}
use Rattle.bays.specs.Calls.{state_at, refused_bay, served_bay, fresh_bays, step_bay, masks_at, with_turn, serve_next, next_bay}
use Rattle.bays.specs.declared.Bays.{Bays}
use Rattle.bays.specs.declared.BayStepped.{BayStepped}
use Rattle.bays.specs.declared.Turned.{Turned}

-- ## A list of calls

-- `step_bay` with a bay and its masks, offer and ready; `next` with every bay's masks and the mask of the bays that want a cycle
pub data Call : Type 0 where
  step : ℕ → ℕ × ℕ → Call
  next : List ℕ → ℕ → Call

-- what bay b sees of an answer: the refusal, its own state, the marks and the words
abbrev pub seen_by : ℕ → BayStepped → Stepped
seen_by b a = record { refusal = a.refusal; state = state_at a.bays b; delivered = a.delivered; words = a.words }

module _ (net : Net) (words ends : List ℕ) where
  -- the bay that a call on record r is for: of `next` the one that it names, 4 for none
  abbrev pub bay_of : Bays → Call → ℕ
  bay_of r (step k masks) = k
  bay_of r (next masks want) = (next_bay net r words ends masks want).bay

  -- and that bay's masks
  abbrev pub masks_of : Bays → Call → ℕ × ℕ
  masks_of r (step k masks) = masks
  masks_of r (next masks want) = masks_at masks (next_bay net r words ends masks want).bay

  abbrev pub answer : Bays → Call → BayStepped
  answer r (step k masks) = step_bay net r k words ends masks.0 masks.1
  answer r (next masks want) = (next_bay net r words ends masks want).step

-- a call with a net, words and ends of its own
pub data CallOn : Type 0 where
  on : Net → List ℕ → List ℕ → Call → CallOn

-- the bay that it is for on record r, what it gives to that bay, and its answer
abbrev pub bay_on : Bays → CallOn → ℕ
bay_on r (on net words ends m) = bay_of net words ends r m

abbrev pub given_on : Bays → CallOn → Net × Input
given_on r (on net words ends m) = (net, record { words = words; ends = ends; offer = (masks_of net words ends r m).0; ready = (masks_of net words ends r m).1 })

abbrev pub answer_on : Bays → CallOn → BayStepped
answer_on r (on net words ends m) = answer net words ends r m

-- Such calls one after another from record r, refused ones included, where each gets the record that the last one returned: the record in the end; what is given to bay b, call by
-- call; and the answers that it sees.

abbrev pub end_record : Bays → List CallOn → Bays
end_record r [] = r
end_record r (m ∷ ms) = end_record (answer_on r m).bays ms

abbrev pub given_to : ℕ → Bays → List CallOn → List (Net × Input)
given_to b r [] = []
given_to b r (m ∷ ms) = cond (eqb (bay_on r m) b) (given_on r m ∷ []) [] ++ given_to b (answer_on r m).bays ms

abbrev pub answers_to : ℕ → Bays → List CallOn → List Stepped
answers_to b r [] = []
answers_to b r (m ∷ ms) = cond (eqb (bay_on r m) b) (seen_by b (answer_on r m) ∷ []) [] ++ answers_to b (answer_on r m).bays ms

-- the words that a list of answers delivers on channel c
abbrev pub said_in : List Stepped → ℕ → List ℕ
said_in [] c = []
said_in (t ∷ ts) c = marked t c ++ said_in ts c

module _ (net : Net) (words ends : List ℕ) where
  -- calls that are all on this net and over these streams
  abbrev pub all_calls : List Call → List CallOn
  all_calls [] = []
  all_calls (m ∷ ms) = on net words ends m ∷ all_calls ms

  -- from record r the masks of all those for bay b
  abbrev pub calls_from : Bays → List Call → ℕ → List (ℕ × ℕ)
  calls_from r [] b = []
  calls_from r (m ∷ ms) b = cond (eqb (bay_of net words ends r m) b) (masks_of net words ends r m ∷ []) [] ++ calls_from (answer net words ends r m).bays ms b

  -- the masks of "its own steps that weren't refused"
  abbrev pub own_steps : Bays → List Call → ℕ → List (ℕ × ℕ)
  own_steps r [] b = []
  own_steps r (m ∷ ms) b =
      cond (eqb (bay_of net words ends r m) b && eqb (answer net words ends r m).refusal 0) (masks_of net words ends r m ∷ []) [] ++ own_steps (answer net words ends r m).bays ms b

  -- from a fresh record: the record in the end, bay b's deliveries on channel c, its masks
  abbrev pub record_after : List Call → Bays
  record_after ms = end_record (fresh_bays net).bays (all_calls ms)

  abbrev pub bay_delivered : List Call → ℕ → ℕ → List ℕ
  bay_delivered ms b c = said_in (answers_to b (fresh_bays net).bays (all_calls ms)) c

  abbrev pub calls_of : List Call → ℕ → List (ℕ × ℕ)
  calls_of ms b = calls_from (fresh_bays net).bays ms b

  abbrev pub own_of : List Call → ℕ → List (ℕ × ℕ)
  own_of ms b = own_steps (fresh_bays net).bays ms b

  -- request 2's choices of a merge, block x, by what bay b delivers and by its state
  abbrev pub bay_choices : List Call → ℕ → ℕ → List ℕ
  bay_choices ms b x = bay_delivered ms b (report net x) ++ pending (regs_of (state_at (record_after ms) b) x)

-- ## One call

-- what an answer a for bay k is, where t is the step of the bay's own state: refused, it is the record handed in and delivers nothing; else it is that step, which is not refused
-- either, and moves the bay's state alone
pub record IsStep (r : Bays) (k : ℕ) (t : Stepped) (a : BayStepped) : Type 0 where
  pub refused : a.refusal ≢ 0 → a ≡ refused_bay a.refusal r
  pub worked : a.refusal ≡ 0 → t.refusal ≡ 0
  pub served : a.refusal ≡ 0 → a ≡ served_bay r k t

-- from any record
abbrev pub BayIsStep : Type 0
BayIsStep =
    (net : Net) (r : Bays) (k : ℕ) (words ends : List ℕ) (offer ready : ℕ)
    → IsStep r k (step_of net (state_at r k) words ends offer ready) (step_bay net r k words ends offer ready)

-- ## What decides a bay's answers

-- what a bay in state s is answered: `step` of that state, unless an accepted net meets a turn beyond the four bays
abbrev pub alone_step : ℕ → State → Net × Input → Stepped
alone_step turn s given = cond (accepted given.0 && leb 4 turn) (refused_step 13 s) (step_in given.0 s given.1)

-- "Refusals 13 and 16 look at the calling bay's state alone, and 13 at the turn": from any record of four states, by `step_bay` or by `next`.
abbrev pub BayAlone : Type 0
BayAlone =
    (r : Bays) → length r.states ≡ 4 → (b : ℕ) → b < 4 → (m : CallOn) → bay_on r m ≡ b
    → seen_by b (answer_on r m) ≡ alone_step r.turn (state_at r b) (given_on r m)

-- two records of four states that bay b cannot tell apart: its own state is the same, and the turns are both within the four bays or both beyond them
pub record Alike (b : ℕ) (r q : Bays) : Type 0 where
  pub four : length r.states ≡ 4
  pub four' : length q.states ≡ 4
  pub state : state_at r b ≡ state_at q b
  pub beyond : leb 4 r.turn ≡ leb 4 q.turn

-- "nothing that other bays do alters any answer of a bay, except whose turn the panel call picks": over any calls on any nets and streams, two lists that give a bay the same, call
-- by call, answer it the same, call by call: refusals, its states, marks and words; and leave records that it cannot tell apart either. A call of `next` gives to the bay that it names.
abbrev pub BaysFree : Type 0
BaysFree =
    (b : ℕ) → b < 4 → (r q : Bays) → Alike b r q → (calls others : List CallOn) → given_to b r calls ≡ given_to b q others
    → (answers_to b r calls ≡ answers_to b q others) × Alike b (end_record r calls) (end_record q others)

-- the calls of `step_bay` that give bay b so much, and no call for another bay
abbrev pub steps_of : ℕ → List (Net × Input) → List CallOn
steps_of b [] = []
steps_of b (g ∷ gs) = on g.0 g.1.words g.1.ends (step b (g.1.offer, g.1.ready)) ∷ steps_of b gs

-- So a bay is answered as if the others' calls had not been made.
abbrev pub OthersLeftOut : Type 0
OthersLeftOut = (b : ℕ) → b < 4 → (r : Bays) → length r.states ≡ 4 → (calls : List CallOn) → answers_to b r calls ≡ answers_to b r (steps_of b (given_to b r calls))

-- ## What decides a bay's deliveries and registers

-- "From a fresh record, a bay's deliveries and registers depend only on the net, the streams and its own steps that weren't refused": its state, with its count, and its
-- deliveries are those of `step` from the fresh state over these steps.
abbrev pub BaysApart : Type 0
BaysApart =
    (net : Net) (words ends : List ℕ) (calls : List Call) (b : ℕ) → b < 4
    → (state_at (record_after net words ends calls) b ≡ end_state_of net words ends (own_of net words ends calls b))
    × ((c : ℕ) → bay_delivered net words ends calls b c ≡ delivered_of net words ends (own_of net words ends calls b) c)

-- So what holds of the words and the state of every list of steps from the fresh state holds of each bay's words and state.
abbrev pub BaysCarry : Type 1
BaysCarry =
    (net : Net) (words ends : List ℕ) (C : (ℕ → List ℕ) → State → Type 0)
    → ((masks : List (ℕ × ℕ)) → C (delivered_of net words ends masks) (end_state_of net words ends masks))
    → (calls : List Call) (b : ℕ) → b < 4 → C (bay_delivered net words ends calls b) (state_at (record_after net words ends calls) b)

-- ## The record

-- Of an accepted net every bay's state is in shape in every record from a fresh one.
abbrev pub ShapeKeptBays : Type 0
ShapeKeptBays =
    (net : Net) (words ends : List ℕ) → accepted net ≡ true → (calls : List Call) (b : ℕ) → b < 4 → shape_ok net (state_at (record_after net words ends calls) b) ≡ true

-- The turn stays within the four bays.
abbrev pub TurnKept : Type 0
TurnKept = (net : Net) (words ends : List ℕ) (calls : List Call) → (record_after net words ends calls).turn < 4

-- So no call of a list from a fresh record is refused with 13, whatever the net.
abbrev pub Never13Bays : Type 0
Never13Bays = (net : Net) (words ends : List ℕ) (calls : List Call) (m : Call) → (answer net words ends (record_after net words ends calls) m).refusal ≢ 13

-- A bay's count, "held in its state", is the number of its own steps that were not refused.
abbrev pub CountIsSteps : Type 0
CountIsSteps =
    (net : Net) (words ends : List ℕ) (calls : List Call) (b : ℕ) → b < 4 → (state_at (record_after net words ends calls) b).count ≡ length (own_of net words ends calls b)

-- ## What decides a refusal

-- After any calls from a fresh record one that is for a bay, by `step_bay` or by `next`, earns 12 by the net, 14 by the streams, and 16 exactly where that bay has used its own cycles.
abbrev pub RefusedByCount : Type 0
RefusedByCount =
    (net : Net) (words ends : List ℕ) (calls : List Call) (m : Call) (b : ℕ) → b < 4 → bay_of net words ends (record_after net words ends calls) m ≡ b
    → (answer net words ends (record_after net words ends calls) m).refusal
    ≡ cond (not (accepted net)) 12 (cond (not (ends_fit net words ends)) 14 (cond (leb 1048576 (state_at (record_after net words ends calls) b).count) 16 0))

-- "Each bay now has its own 1,048,576": of an accepted net, over ends that fit, a bay's own steps are the first 1,048,576 that are asked of it, whatever is asked of the others.
abbrev pub OwnAllowance : Type 0
OwnAllowance =
    (net : Net) (words ends : List ℕ) → accepted net ≡ true → ends_fit net words ends ≡ true → (calls : List Call) (b : ℕ) → b < 4
    → own_of net words ends calls b ≡ take 1048576 (calls_of net words ends calls b)

-- ## Whose cycle is next

-- "Mask bits beyond the four bays are ignored."
abbrev pub BitsIgnored : Type 0
BitsIgnored =
    (net : Net) (r : Bays) (words ends masks : List ℕ) (want : ℕ) → next_bay net r words ends masks want ≡ next_bay net r words ends masks (want % 16)

-- "Steps outside this call don't move the turn."
abbrev pub StepKeepsTurn : Type 0
StepKeepsTurn = (net : Net) (r : Bays) (k : ℕ) (words ends : List ℕ) (offer ready : ℕ) → (step_bay net r k words ends offer ready).bays.turn ≡ r.turn

-- what an answer t of `next` is: one that names no bay changes nothing; one that names a bay is `step_bay` of it with its masks, and the turn after it; "A refused step counts as
-- service: it is reported, and moves the turn and nothing else"
pub record IsNext (net : Net) (r : Bays) (words ends masks : List ℕ) (t : Turned) : Type 0 where
  pub nobody : t.bay ≡ 4 → t.step ≡ refused_bay t.step.refusal r
  pub serves : t.bay ≢ 4 → (t.bay < 4) × (t ≡ serve_next net r words ends masks t.bay)
  pub refused : t.bay ≢ 4 → t.step.refusal ≢ 0 → t.step ≡ refused_bay t.step.refusal (with_turn ((t.bay + 1) % 4) r)

-- from any record
abbrev pub NextIsStep : Type 0
NextIsStep = (net : Net) (r : Bays) (words ends masks : List ℕ) (want : ℕ) → IsNext net r words ends masks (next_bay net r words ends masks want)

-- the bays that the calls of `next` in a list name, from record r on: each call gets the record that the last one returned, and a step names none
abbrev pub named : Bays → List CallOn → List ℕ
named r [] = []
named r (on net words ends (step k masks) ∷ ms) = named (answer net words ends r (step k masks)).bays ms
named r (on net words ends (next masks want) ∷ ms) = (next_bay net r words ends masks want).bay ∷ named (answer net words ends r (next masks want)).bays ms

-- bay b wants a cycle in a call, if it is one of `next`
abbrev pub Wants : ℕ → CallOn → Type 0
Wants b (on net words ends (step k masks)) = Unit
Wants b (on net words ends (next masks want)) = bit b want ≡ true

-- "From a turn within the four bays, a bay that wants a cycle in every call is served in at most 4 calls, whatever the others want": it is among the first four that are named,
-- from any such record, over any nets, streams and masks, with any steps outside this call between.
abbrev pub ServedInFour : Type 0
ServedInFour =
    (r : Bays) → r.turn < 4 → (b : ℕ) → b < 4 → (calls : List CallOn) → ((m : CallOn) → Memᴰ m calls → Wants b m) → 4 ≤ length (named r calls)
    → Memᴰ b (take 4 (named r calls))

-- ## The word guarantee

-- "The word guarantee is per bay: for every list of the bays' steps from a fresh record, refused ones included, each bay's deliveries keep it": for each bay ONE list F of
-- firings puts, on every channel, a list beginning with the words that the bay delivers there. Merges make that bay's choices (request 2).
abbrev pub GuaranteedBays : Type 0
GuaranteedBays =
    (net : Net) (words ends : List ℕ) → accepted net ≡ true → (calls : List Call) (b : ℕ) → b < 4
    → (F : List ℕ) × ((x : ℕ) → Memᴰ x F → x < net.size)
    × ((c : ℕ) → c < net.channels → IsPrefix (bay_delivered net words ends calls b c) (put_by net words ends (bay_choices net words ends calls b) F c))

-- Without merges no choices are needed (demand 3).
abbrev pub GuaranteedPlainBays : Type 0
GuaranteedPlainBays =
    (net : Net) (words ends : List ℕ) → accepted net ≡ true → MergeFree net → (calls : List Call) (b : ℕ) → b < 4
    → (F : List ℕ) × ((x : ℕ) → Memᴰ x F → x < net.size) × ((c : ℕ) → c < net.channels → IsPrefix (bay_delivered net words ends calls b c) (put net words ends F c))

-- So two bays, of one list of calls or of two, differ in a word only where their choices do: without merges never.
abbrev pub SameChoicesBays : Type 0
SameChoicesBays =
    (net : Net) (words ends : List ℕ) → accepted net ≡ true → (calls others : List Call) (b d : ℕ) → b < 4 → d < 4
    → ((x : ℕ) → x < net.size → (block_at net x).kind ≡ 7 → Comparable (bay_choices net words ends calls b x) (bay_choices net words ends others d x))
    → (c : ℕ) → c < net.channels → Comparable (bay_delivered net words ends calls b c) (bay_delivered net words ends others d c)

-- inputs that are all given with one net
abbrev pub all_on : Net → List Input → List (Net × Input)
all_on net [] = []
all_on net (n ∷ ns) = (net, n) ∷ all_on net ns

-- And the guarantee of a bay asks nothing of the others' calls (request 8): they may be on other nets and over other streams, as long as its own are on one net and one set of streams.
-- Its merges make the choices of these calls.
abbrev pub GuaranteedAmong : Type 0
GuaranteedAmong =
    (net : Net) (words ends : List ℕ) → accepted net ≡ true → (calls : List CallOn) (b : ℕ) → b < 4
    → (masks : List (ℕ × ℕ)) → given_to b (fresh_bays net).bays calls ≡ all_on net (over words ends masks)
    → (F : List ℕ) × ((x : ℕ) → Memᴰ x F → x < net.size)
    × ((c : ℕ) → c < net.channels → IsPrefix (said_in (answers_to b (fresh_bays net).bays calls) c) (put_by net words ends (choices_of net words ends masks) F c))
