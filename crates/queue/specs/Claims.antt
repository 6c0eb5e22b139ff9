-- What is claimed of the queue machine and of steps, each claim under document 01's or request 2's words. proofs/Guarantee.antt proves them: `guaranteed`, `offers_next`,
-- `only_buffers_hold`, `comparable`, `same_words`, `guaranteed_merges`, `comparable_choices`, `same_choices`, `choices_unread`, `choices_in_range`, `buffer_law`.
-- Assumes nothing.
use Rattle.std.specs.Prelude.{ℕ, ◌<◌, ◌≡◌, Bool, true, false, ◌||◌, ◌≢◌, ◌⊎◌, get_or}
use mathlib.Core.List.{List, ◌++◌, IsPrefix, Memᴰ}
use Rattle.blocks.specs.Firing.{first}
use Rattle.nets.specs.Net.{block_at}
use Rattle.nets.specs.Loops.{is_buffer}
use Rattle.nets.specs.Verdict.{VerdictIs}
use Rattle.blocks.specs.declared.Net.{Net}
use Rattle.nets.specs.Verdict.{Accepted}
use Rattle.cycles.specs.Wires.{view_of}
use Rattle.cycles.specs.State.{regs_of, plain_kind}
use Rattle.cycles.specs.Step.{fresh_by}
use Rattle.queue.specs.Machine.{machine_of, put_by, put}
use Rattle.queue.specs.History.{holds, WholeFirings}
use Rattle.queue.specs.Delivered.{Input, delivered_from, last_from, delivered, end_state, with_next, report, choices}

-- "An accepted net is a net value that doesn't earn 12"
abbrev pub IsAccepted : Net → Type 0
IsAccepted net = VerdictIs net Accepted

-- "Merges are excluded": no block of kind 7
abbrev pub MergeFree : Net → Type 0
MergeFree net = (b : ℕ) → b < net.size → (block_at net b).kind ≢ 7

-- one list begins the other
abbrev pub Comparable : List ℕ → List ℕ → Type 0
Comparable xs ys = IsPrefix xs ys ⊎ IsPrefix ys xs

-- "Compared, channel by channel, is the list of all words ever put, those at the start included, with the list of words delivered .. one claim about the whole
-- list of steps, not one for each step": for every list of steps from fresh, refused ones included, there is ONE list of firings of the net's blocks that puts, on
-- every channel, a list beginning with the words delivered there.
abbrev pub Guaranteed : Type 0
Guaranteed =
    (ok : Bool) (net : Net) (words ends : List ℕ) → IsAccepted net → MergeFree net → (masks : List (ℕ × ℕ))
    → (F : List ℕ) × ((b : ℕ) → Memᴰ b F → b < net.size) × ((c : ℕ) → c < net.channels → IsPrefix (delivered ok net words ends masks c) (put net words ends F c))

-- The standard's section 5: "on each port, if valid is true, then the data wires carry the token value that appears 'next' in the sequence": with the steps taken,
-- and any masks for one more cycle, ONE list of firings puts, on every channel, a list beginning with the words delivered there, then the word that is valid
-- there in that cycle, if one is. A merge's choices are these words of its report channel.
abbrev pub OffersNext : Type 0
OffersNext =
    (ok : Bool) (net : Net) (words ends : List ℕ) → ok ≡ true → IsAccepted net → (masks : List (ℕ × ℕ)) (offer ready : ℕ)
    → (F : List ℕ) × ((b : ℕ) → Memᴰ b F → b < net.size)
    × ((c : ℕ) → c < net.channels
    → IsPrefix (with_next ok net words ends masks offer ready c) (put_by net words ends (λ b. with_next ok net words ends masks offer ready (report net b)) F c))

-- The standard's section 5: "Only buffers can hold tokens": after every list of steps from fresh each block has done whole firings over the words delivered at
-- its inputs, a merge with the choices of the steps, and all that they gave has left at its outputs, but for the word that a buffer holds.
abbrev pub OnlyBuffersHold : Type 0
OnlyBuffersHold =
    (ok : Bool) (net : Net) (words ends : List ℕ) → ok ≡ true → IsAccepted net → (masks : List (ℕ × ℕ)) (b : ℕ) → b < net.size
    → WholeFirings ((machine_of net words ends (choices ok net words ends masks)).kind b) (regs_of (end_state ok net words ends masks) b)
    (λ i. delivered ok net words ends masks ((view_of net words ends).inp b i)) (λ j. delivered ok net words ends masks ((view_of net words ends).out b j))

-- "Blocks fire one at a time in any order": of any two lists of firings one puts, on each channel taken alone, a beginning of what the other puts.
abbrev pub FiringsComparable : Type 0
FiringsComparable =
    (net : Net) (words ends : List ℕ) → IsAccepted net → (F G : List ℕ) (c : ℕ) → c < net.channels → Comparable (put net words ends F c) (put net words ends G c)

-- So two lists of steps over one set of streams never differ in a word: on each channel one delivers a beginning of what the other delivers.
abbrev pub StepsComparable : Type 0
StepsComparable =
    (ok : Bool) (net : Net) (words ends : List ℕ) → IsAccepted net → MergeFree net → (masks others : List (ℕ × ℕ)) (c : ℕ) → c < net.channels
    → Comparable (delivered ok net words ends masks c) (delivered ok net words ends others c)

-- ## Merges

-- Request 2: "For every list of steps as in demand 3, but with any accepted net, some firings over those streams with the following choices put on every channel a
-- list beginning with the delivered words."
abbrev pub GuaranteedMerges : Type 0
GuaranteedMerges =
    (ok : Bool) (net : Net) (words ends : List ℕ) → IsAccepted net → (masks : List (ℕ × ℕ))
    → (F : List ℕ) × ((b : ℕ) → Memᴰ b F → b < net.size)
    × ((c : ℕ) → c < net.channels → IsPrefix (delivered ok net words ends masks c) (put_by net words ends (choices ok net words ends masks) F c))

-- "With the choices fixed, of two lists of firings one again puts, on each channel taken alone, a beginning of what the other puts": whatever the choices are.
abbrev pub ChoicesComparable : Type 0
ChoicesComparable =
    (net : Net) (words ends : List ℕ) (fixed : ℕ → List ℕ) → IsAccepted net → (F G : List ℕ) (c : ℕ) → c < net.channels
    → Comparable (put_by net words ends fixed F c) (put_by net words ends fixed G c)

-- So two lists of steps over one set of streams differ in a word only where their choices do.
abbrev pub ChoicesDecide : Type 0
ChoicesDecide =
    (ok : Bool) (net : Net) (words ends : List ℕ) → IsAccepted net → (masks others : List (ℕ × ℕ))
    → ((b : ℕ) → b < net.size → (block_at net b).kind ≡ 7 → Comparable (choices ok net words ends masks b) (choices ok net words ends others b))
    → (c : ℕ) → c < net.channels → Comparable (delivered ok net words ends masks c) (delivered ok net words ends others c)

-- Without merges nobody reads the choices.
abbrev pub ChoicesUnread : Type 0
ChoicesUnread = (net : Net) (words ends : List ℕ) → MergeFree net → (fixed : ℕ → List ℕ) (F : List ℕ) (c : ℕ) → put_by net words ends fixed F c ≡ put net words ends F c

-- Every choice that steps make is the number of an input.
abbrev pub ChoicesInRange : Type 0
ChoicesInRange =
    (ok : Bool) (net : Net) (words ends : List ℕ) → ok ≡ true → IsAccepted net → (masks : List (ℕ × ℕ)) (b : ℕ) → b < net.size → (block_at net b).kind ≡ 7
    → (t : ℕ) → Memᴰ t (choices ok net words ends masks b) → t < (block_at net b).m

-- ## Buffers

abbrev pub any_buffer : ℕ → Bool
any_buffer kind = is_buffer false kind || is_buffer true kind

-- "Over every list of steps of one net from its fresh state, a buffer's words given out, followed by the word it holds, equal its first word, if any, followed by
-- the words it took in": merges included, and each step may have other streams. A buffer's port 0 is its input, port 1 its output.
abbrev pub BuffersKeep : Type 0
BuffersKeep =
    (ok : Bool) (net : Net) → ok ≡ true → IsAccepted net → (b : ℕ) → b < net.size → any_buffer (block_at net b).kind ≡ true → (steps : List Input)
    → delivered_from ok net (fresh_by ok net) steps (get_or (block_at net b).ports 1 0) ++ holds (regs_of (last_from ok net (fresh_by ok net) steps) b)
    ≡ first (plain_kind net b) ++ delivered_from ok net (fresh_by ok net) steps (get_or (block_at net b).ports 0 0)
