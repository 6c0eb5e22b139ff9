-- Section 5 of the standard (document 001, "The argument for correctness") over the calls' own definitions, in its order: what it says of every port in every cycle,
-- its corollary, and which blocks hold tokens. Its tokens are our words, its ports our channels. proofs/Section5.antt proves each one.
-- "The next token in the sequence" of a merge is the one that the queue machine puts with the merge's choices (request 2).
-- Assumes nothing.
use Rattle.std.specs.Prelude.{ℕ, ◌<◌, ◌≡◌, true, false, cond, eqb, get_or}
use mathlib.Core.List.{List, [], ◌∷◌, ◌++◌, IsPrefix, Memᴰ}
use Rattle.blocks.specs.Signals.{empty}
use Rattle.blocks.specs.declared.Sig.{Sig}
use Rattle.nets.specs.Block.{ins}
use Rattle.nets.specs.Net.{block_at}
use Rattle.blocks.specs.declared.Net.{Net}
use Rattle.nets.proofs.Decided.{accepted}
use Rattle.cycles.specs.Wires.{view_of}
use Rattle.cycles.specs.Cycle.{signals_of}
use Rattle.cycles.specs.State.{regs_of}
use Rattle.blocks.specs.declared.State.{State}
use Rattle.queue.specs.Machine.{machine_of, put_by}
use Rattle.queue.specs.Delivered.{Input, over, offered, report}
use Rattle.queue.specs.History.{WholeFirings}
use Rattle.queue.specs.Claims.{any_buffer}
use Rattle.handshake.specs.Table.{Column, column_at, Over, offered_first, Protocol}
use Rattle.sim.specs.Calls.{fresh_of, step_of}
use Rattle.claims.specs.Promised.{step_in, words_from, delivered_of, end_state_of, choices_of}

-- what channel c shows, valid and word, in a cycle from state s
abbrev pub shows_from : Net → State → List ℕ → List ℕ → ℕ → ℕ → ℕ → Sig
shows_from net s words ends offer ready c = (signals_of net words ends offer ready (regs_of s)).shows c

-- "An upstream block must continue to provide the same valid token until the downstream block is ready": a channel that is valid and does not deliver in a step that is
-- not refused shows the same in a cycle from the state that the step returns, over the same streams, whatever the masks. From every state, merges included. (A refused
-- step returns the state that it is handed, so any number of them may stand between the two.)
abbrev pub StaysOffered : Type 0
StaysOffered =
    (net : Net) → accepted net ≡ true → (s : State) (words ends : List ℕ) (offer ready : ℕ) → (step_of net s words ends offer ready).refusal ≡ 0
    → (c : ℕ) → c < net.channels → (shows_from net s words ends offer ready c).valid ≡ true → get_or (step_of net s words ends offer ready).delivered c 0 ≡ 0
    → (offer' ready' : ℕ) → shows_from net (step_of net s words ends offer ready).state words ends offer' ready' c ≡ shows_from net s words ends offer ready c

-- the words delivered on channel c, then the word, if any, that is valid there in one more cycle with these masks
abbrev pub with_next_of : Net → List ℕ → List ℕ → List (ℕ × ℕ) → ℕ → ℕ → ℕ → List ℕ
with_next_of net words ends masks offer ready c =
    delivered_of net words ends masks c ++ offered (signals_of net words ends offer ready (regs_of (end_state_of net words ends masks))) c

-- "on each port, if valid is true, then the data wires carry the token value that appears 'next' in the sequence": for every list of steps and the masks of one more
-- cycle ONE list F of firings puts, on every channel, a list beginning with the words delivered there, then the word that is valid there in that cycle, if one is,
-- delivered or not. A merge's choices are these words of its report channel.
abbrev pub OffersNext : Type 0
OffersNext =
    (net : Net) (words ends : List ℕ) → accepted net ≡ true → (masks : List (ℕ × ℕ)) (offer ready : ℕ)
    → (F : List ℕ) × ((b : ℕ) → Memᴰ b F → b < net.size)
    × ((c : ℕ) → c < net.channels
    → IsPrefix (with_next_of net words ends masks offer ready c) (put_by net words ends (λ b. with_next_of net words ends masks offer ready (report net b)) F c))

-- the table of channel c: a column, with data, valid and ready, for each step that is not refused
abbrev pub table_of : Net → State → List Input → ℕ → List Column
table_of net s [] c = []
table_of net s (n ∷ ns) c = cond (eqb (step_in net s n).refusal 0) (column_at net s n c ∷ []) [] ++ table_of net (step_in net s n).state ns c

-- "once valid has been asserted, it must stay asserted until the next cycle in which ready is asserted", with the same word; "observing the data values on a port in
-- cycles where both valid and ready were true" gives the words delivered; and the words offered are these, each once, and then the one that still waits, if one does.
-- Over one set of streams from every state, merges and refused steps included.
abbrev pub DeliveredOffered : Type 0
DeliveredOffered =
    (net : Net) (words ends : List ℕ) → accepted net ≡ true → (s : State) (steps : List Input) → Over net words ends steps → (c : ℕ) → c < net.channels
    → Protocol (table_of net s steps c) (words_from net s steps c)

-- the words ever offered on channel c, each once, delivered or not
abbrev pub ever_offered : Net → List ℕ → List ℕ → List (ℕ × ℕ) → ℕ → List ℕ
ever_offered net words ends masks c = offered_first false (table_of net (fresh_of net).state (over words ends masks) c)

-- Both together: for every list of steps ONE list F of firings, with the choices that the steps make, puts, on every channel, a list beginning with the words ever
-- offered there.
abbrev pub OffersBegin : Type 0
OffersBegin =
    (net : Net) (words ends : List ℕ) → accepted net ≡ true → (masks : List (ℕ × ℕ))
    → (F : List ℕ) × ((b : ℕ) → Memᴰ b F → b < net.size)
    × ((c : ℕ) → c < net.channels → IsPrefix (ever_offered net words ends masks c) (put_by net words ends (choices_of net words ends masks) F c))

-- A merge's choices are the words ever offered on its report channel: the recorded winner whose report hasn't gone is the one that still waits there.
abbrev pub ChoicesOffered : Type 0
ChoicesOffered =
    (net : Net) (words ends : List ℕ) → accepted net ≡ true → (masks : List (ℕ × ℕ)) (b : ℕ) → b < net.size → (block_at net b).kind ≡ 7
    → choices_of net words ends masks b ≡ ever_offered net words ends masks (report net b)

-- "Only buffers can hold tokens", of the words: after every list of steps each block has done whole firings over the words delivered at its inputs, and all that
-- they gave has been delivered at its outputs, but for the word that a buffer holds. A merge fires with the choices that the steps make.
abbrev pub OnlyBuffersHold : Type 0
OnlyBuffersHold =
    (net : Net) (words ends : List ℕ) → accepted net ≡ true → (masks : List (ℕ × ℕ)) (b : ℕ) → b < net.size
    → WholeFirings ((machine_of net words ends (choices_of net words ends masks)).kind b) (regs_of (end_state_of net words ends masks) b)
    (λ i. delivered_of net words ends masks ((view_of net words ends).inp b i)) (λ j. delivered_of net words ends masks ((view_of net words ends).out b j))

-- "Only buffers can hold tokens", of the registers: a block that is no buffer has zero registers after a step in which one of its inputs delivers, so nothing of the
-- word is left in it. From every state that is not refused, merges included.
abbrev pub NothingLeft : Type 0
NothingLeft =
    (net : Net) → accepted net ≡ true → (s : State) (words ends : List ℕ) (offer ready : ℕ) → (step_of net s words ends offer ready).refusal ≡ 0
    → (b : ℕ) → b < net.size → any_buffer (block_at net b).kind ≡ false → (i : ℕ) → i < ins (block_at net b)
    → get_or (step_of net s words ends offer ready).delivered (get_or (block_at net b).ports i 0) 0 ≡ 1
    → regs_of (step_of net s words ends offer ready).state b ≡ empty
