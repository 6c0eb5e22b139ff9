-- The promises over lists of calls, written with `fresh_of` and `step_of`: the contracts of `sim::step::fresh` and `sim::step::step` say that these calls answer exactly so.
-- proofs/Theorems.antt proves each one. `put` and `put_by`, the words that firings of the queue machine put, are crate queue's.
-- Assumes nothing.
use Rattle.std.specs.Prelude.{ℕ, ◌+◌, ◌<◌, ◌≡◌, true, false, ◌≢◌, ◌↔◌, get_or, replicate}
use mathlib.Core.List.{List, [], ◌∷◌, ◌++◌, IsPrefix, Memᴰ}
use Rattle.blocks.specs.Firing.{first}
use Rattle.nets.specs.Net.{block_at}
use Rattle.nets.specs.Verdict.{VerdictIs}
use Rattle.blocks.specs.declared.Net.{Net}
use Rattle.nets.specs.Verdict.{Accepted}
use Rattle.nets.proofs.Decided.{accepted}
use Rattle.cycles.specs.State.{regs_of, plain_kind, shape_ok}
use Rattle.blocks.specs.declared.State.{State}
use Rattle.cycles.specs.declared.Stepped.{Stepped}
use Rattle.queue.specs.Machine.{put_by, put}
use Rattle.queue.specs.Delivered.{Input, marked, over, report, pending}
use Rattle.queue.specs.History.{holds}
use Rattle.queue.specs.Claims.{MergeFree, Comparable, any_buffer}
use Rattle.placements.specs.Calls.{place_of}
use Rattle.sim.specs.Calls.{fresh_of, step_of}

-- ## A list of steps

-- what `step` answers over one input: streams and masks
abbrev pub step_in : Net → State → Input → Stepped
step_in net s n = step_of net s n.words n.ends n.offer n.ready

-- "in step order, the words returned with a delivery mark for that channel": steps from state s, refused ones included, each given the state that the last one
-- returned
abbrev pub words_from : Net → State → List Input → ℕ → List ℕ
words_from net s [] c = []
words_from net s (n ∷ ns) c = marked (step_in net s n) c ++ words_from net (step_in net s n).state ns c

-- the state that the last one returns
abbrev pub state_from : Net → State → List Input → State
state_from net s [] = s
state_from net s (n ∷ ns) = state_from net (step_in net s n).state ns

-- from the fresh state, over one set of streams and a list of masks, offer and ready
abbrev pub delivered_of : Net → List ℕ → List ℕ → List (ℕ × ℕ) → ℕ → List ℕ
delivered_of net words ends masks c = words_from net (fresh_of net).state (over words ends masks) c

abbrev pub end_state_of : Net → List ℕ → List ℕ → List (ℕ × ℕ) → State
end_state_of net words ends masks = state_from net (fresh_of net).state (over words ends masks)

-- ## The word guarantee

-- "one claim about the whole list of steps, not one for each step": for every list of steps there is ONE list F of firings of the net's blocks that puts, on every
-- channel, a list beginning with the words delivered there.
abbrev pub Guaranteed : Type 0
Guaranteed =
    (net : Net) (words ends : List ℕ) → accepted net ≡ true → MergeFree net → (masks : List (ℕ × ℕ))
    → (F : List ℕ) × ((b : ℕ) → Memᴰ b F → b < net.size) × ((c : ℕ) → c < net.channels → IsPrefix (delivered_of net words ends masks c) (put net words ends F c))

-- "in any order": of any two lists of firings one puts, on each channel taken alone, a beginning of what the other puts.
abbrev pub FiringsComparable : Type 0
FiringsComparable =
    (net : Net) (words ends : List ℕ) → accepted net ≡ true → (F G : List ℕ) (c : ℕ) → c < net.channels → Comparable (put net words ends F c) (put net words ends G c)

-- So of two lists of steps over one set of streams one delivers, on each channel, a beginning of what the other delivers.
abbrev pub StepsComparable : Type 0
StepsComparable =
    (net : Net) (words ends : List ℕ) → accepted net ≡ true → MergeFree net → (masks others : List (ℕ × ℕ)) (c : ℕ) → c < net.channels
    → Comparable (delivered_of net words ends masks c) (delivered_of net words ends others c)

-- ## The word guarantee of nets with merges (request 2)

-- "A merge's choices are the words delivered on its report channel, then the recorded winner less 1, if there is one and its report hasn't gone": block b's, over the
-- whole list of steps.
abbrev pub choices_of : Net → List ℕ → List ℕ → List (ℕ × ℕ) → ℕ → List ℕ
choices_of net words ends masks b = delivered_of net words ends masks (report net b) ++ pending (regs_of (end_state_of net words ends masks) b)

-- "For every list of steps as in demand 3, but with any accepted net, some firings over those streams with the following choices put on every channel a list
-- beginning with the delivered words": as `Guaranteed`, with these choices and without MergeFree.
abbrev pub GuaranteedMerges : Type 0
GuaranteedMerges =
    (net : Net) (words ends : List ℕ) → accepted net ≡ true → (masks : List (ℕ × ℕ))
    → (F : List ℕ) × ((b : ℕ) → Memᴰ b F → b < net.size)
    × ((c : ℕ) → c < net.channels → IsPrefix (delivered_of net words ends masks c) (put_by net words ends (choices_of net words ends masks) F c))

-- "With the choices fixed, of two lists of firings one again puts, on each channel taken alone, a beginning of what the other puts": whatever the choices are.
abbrev pub ChoicesComparable : Type 0
ChoicesComparable =
    (net : Net) (words ends : List ℕ) (fixed : ℕ → List ℕ) → accepted net ≡ true → (F G : List ℕ) (c : ℕ) → c < net.channels
    → Comparable (put_by net words ends fixed F c) (put_by net words ends fixed G c)

-- So two lists of steps over one set of streams differ in a word only where their choices do: where at every merge one's choices begin the other's, one delivers, on
-- each channel, a beginning of what the other delivers.
abbrev pub ChoicesDecide : Type 0
ChoicesDecide =
    (net : Net) (words ends : List ℕ) → accepted net ≡ true → (masks others : List (ℕ × ℕ))
    → ((b : ℕ) → b < net.size → (block_at net b).kind ≡ 7 → Comparable (choices_of net words ends masks b) (choices_of net words ends others b))
    → (c : ℕ) → c < net.channels → Comparable (delivered_of net words ends masks c) (delivered_of net words ends others c)

-- Every choice that steps make is the number of an input.
abbrev pub ChoicesInRange : Type 0
ChoicesInRange =
    (net : Net) (words ends : List ℕ) → accepted net ≡ true → (masks : List (ℕ × ℕ)) (b : ℕ) → b < net.size → (block_at net b).kind ≡ 7
    → (t : ℕ) → Memᴰ t (choices_of net words ends masks b) → t < (block_at net b).m

-- ## Placements (request 3)

-- "Without merges, two placements that load, each stepped as in demand 3 over the same streams, deliver on each old channel lists of which one begins the other; show this for all codes
-- together". A placement that is not refused has a base net that passes all checks but those for its loops.
abbrev pub PlacementsAgree : Type 0
PlacementsAgree =
    (net : Net) (codes others : List ℕ) → MergeFree net → (place_of net codes).refusal ≡ 0 → (place_of net others).refusal ≡ 0
    → (words ends : List ℕ) (masks masks' : List (ℕ × ℕ)) (c : ℕ) → c < net.channels
    → Comparable (delivered_of (place_of net codes).net words ends masks c) (delivered_of (place_of net others).net words ends masks' c)

-- ## Buffers

-- "a buffer's words given out, followed by the word it holds, equal its first word, if any, followed by the words it took in": merges included, and each step may
-- have other streams. A buffer's port 0 is its input, port 1 its output.
abbrev pub BuffersKeep : Type 0
BuffersKeep =
    (net : Net) → accepted net ≡ true → (b : ℕ) → b < net.size → any_buffer (block_at net b).kind ≡ true → (steps : List Input)
    → words_from net (fresh_of net).state steps (get_or (block_at net b).ports 1 0) ++ holds (regs_of (state_from net (fresh_of net).state steps) b)
    ≡ first (plain_kind net b) ++ words_from net (fresh_of net).state steps (get_or (block_at net b).ports 0 0)

-- ## Refusals

-- `accepted` is the verdict by cases of crate nets
abbrev pub AcceptedIs : Type 0
AcceptedIs = (net : Net) → (accepted net ≡ true) ↔ VerdictIs net Accepted

-- "An accepted net is a net value that doesn't earn 12": both calls refuse with 12 exactly the others.
abbrev pub Earns12 : Type 0
Earns12 =
    (net : Net)
    → (((fresh_of net).refusal ≡ 12) ↔ (accepted net ≡ false))
    × ((s : State) (words ends : List ℕ) (offer ready : ℕ) → ((step_of net s words ends offer ready).refusal ≡ 12) ↔ (accepted net ≡ false))

-- A refused step returns the state handed in, nothing delivered.
abbrev pub RefusedUnchanged : Type 0
RefusedUnchanged =
    (net : Net) (s : State) (words ends : List ℕ) (offer ready : ℕ) → (step_of net s words ends offer ready).refusal ≢ 0
    → ((step_of net s words ends offer ready).state ≡ s)
    × ((step_of net s words ends offer ready).delivered ≡ replicate 128 0)
    × ((step_of net s words ends offer ready).words ≡ replicate 128 0)

-- Another one returns a state whose count is one higher.
abbrev pub CountRises : Type 0
CountRises =
    (net : Net) (s : State) (words ends : List ℕ) (offer ready : ℕ) → (step_of net s words ends offer ready).refusal ≡ 0
    → (step_of net s words ends offer ready).state.count ≡ s.count + 1

-- ## Shape

-- Of an accepted net the fresh state is in shape, and a step from a state in shape returns one.
abbrev pub ShapeKept : Type 0
ShapeKept =
    (net : Net) → accepted net ≡ true
    → (shape_ok net (fresh_of net).state ≡ true)
    × ((s : State) (words ends : List ℕ) (offer ready : ℕ) → shape_ok net s ≡ true → shape_ok net (step_of net s words ends offer ready).state ≡ true)

-- So no step of a list of steps from fresh is refused with 13, whatever the net.
abbrev pub Never13 : Type 0
Never13 = (net : Net) (steps : List Input) (n : Input) → (step_in net (state_from net (fresh_of net).state steps) n).refusal ≢ 13
