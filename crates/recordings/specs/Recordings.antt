-- The promises over traces that runs wrote (request 7), with the definitions that the contracts of `run`, `gather` and `compare` cite. proofs/Theorems.antt proves each one.
-- Assumes nothing.
use Rattle.std.specs.Prelude.{ℕ, zero, suc, ◌+◌, ◌*◌, ◌^◌, ◌<◌, ◌≡◌, ◌≢◌, true, List, [], ◌∷◌, ◌++◌, length, get_or, take}
use Rattle.nets.specs.Net.{block_at}
use Rattle.blocks.specs.declared.Block.{Block}
use Rattle.blocks.specs.declared.Net.{Net}
use Rattle.nets.proofs.Decided.{accepted}
use Rattle.stored.specs.Sizes.{All, Sized}
use Rattle.blocks.specs.declared.State.{State}
use Rattle.queue.specs.Claims.{MergeFree, Comparable}
use Rattle.sim.specs.Calls.{fresh_of}
use Rattle.runs.specs.declared.Run.{Run}
use Rattle.runs.specs.Runs.{run_of, trace_after}
use Rattle.claims.specs.Promised.{delivered_of, choices_of}
use Rattle.compare.specs.declared.Compared.TheVariants.{Differ}
use Rattle.compare.specs.Compare.{compared_of}
use Rattle.compare.specs.Gather.{words_in, gathered_of, gathered_into}

-- What the types of a net and of its words have (as `Sized`, which says it of a net's values): 8 bits for each m, 32 for each word. A word that has more would not fit its record.
pub record Typed (net : Net) (words : List ℕ) : Type 0 where
  pub sized : Sized net
  pub counts : All (λ (b : Block). b.m < 2 ^ 8) net.blocks
  pub streams : All (λ w. w < 2 ^ 32) words

-- ## Runs one after another, each given the state that the last one returned

-- what a run is given beside the net, the state and the streams: its masks and its trace buffer
pub record Given : Type 0 where
  pub masks : List ℕ
  pub buffer : List ℕ

abbrev pub ran_by : Net → State → List ℕ → List ℕ → Given → Run
ran_by net s words ends g = run_of net s words ends g.masks (length g.buffer)

-- the trace that it wrote: so many bytes at the beginning of its buffer, and not the whole buffer
abbrev pub wrote_by : Net → State → List ℕ → List ℕ → Given → List ℕ
wrote_by net s words ends g = take (8 * (ran_by net s words ends g).records) (trace_after net s words ends g.masks g.buffer)

-- the masks of the first n cycles, offer and ready for each
unfoldable pub mask_pairs : List ℕ → ℕ → List (ℕ × ℕ)
mask_pairs masks zero = []
mask_pairs masks (suc n) = mask_pairs masks n ++ ((get_or masks (2 * n) 0, get_or masks (2 * n + 1) 0) ∷ [])

-- the traces of runs from state s, one after another
abbrev pub trace_from : Net → State → List ℕ → List ℕ → List Given → List ℕ
trace_from net s words ends [] = []
trace_from net s words ends (g ∷ gs) = wrote_by net s words ends g ++ trace_from net (ran_by net s words ends g).state words ends gs

-- the masks of the cycles that they did
abbrev pub done_from : Net → State → List ℕ → List ℕ → List Given → List (ℕ × ℕ)
done_from net s words ends [] = []
done_from net s words ends (g ∷ gs) = mask_pairs g.masks (ran_by net s words ends g).cycles ++ done_from net (ran_by net s words ends g).state words ends gs

-- from fresh
abbrev pub trace_of_runs : Net → List ℕ → List ℕ → List Given → List ℕ
trace_of_runs net words ends gs = trace_from net (fresh_of net).state words ends gs

abbrev pub done_of : Net → List ℕ → List ℕ → List Given → List (ℕ × ℕ)
done_of net words ends gs = done_from net (fresh_of net).state words ends gs

-- ## What is gathered

-- The words gathered from the records that a run from fresh wrote are, on each channel, those that its cycles delivered, for every length of the trace buffer.
abbrev pub GatheredRun : Type 0
GatheredRun =
    (net : Net) (words ends : List ℕ) → Typed net words → (g : Given) (c : ℕ) → c < 128
    → words_in (wrote_by net (fresh_of net).state words ends g) c ≡ delivered_of net words ends (mask_pairs g.masks (ran_by net (fresh_of net).state words ends g).cycles) c

-- The same of runs one after another.
abbrev pub GatheredRuns : Type 0
GatheredRuns =
    (net : Net) (words ends : List ℕ) → Typed net words → (gs : List Given) (c : ℕ) → c < 128
    → words_in (trace_of_runs net words ends gs) c ≡ delivered_of net words ends (done_of net words ends gs) c

-- Such a trace is whole records: no channel of it is refused with 22.
abbrev pub WholeRecords : Type 0
WholeRecords = (net : Net) (words ends : List ℕ) (gs : List Given) (c room : ℕ) → (gathered_of (trace_of_runs net words ends gs) c room).refusal ≢ 22

-- ## What is compared

-- `gather` of a trace into a list: that it is not refused, and the words that it put, so many of the list as it counted
pub record Call : Type 0 where
  pub trace : List ℕ
  pub list : List ℕ

abbrev pub Gathers : ℕ → Call → Type 0
Gathers c k = (gathered_of k.trace c (length k.list)).refusal ≡ 0

abbrev pub gathered_by : ℕ → Call → List ℕ
gathered_by c k = take (gathered_of k.trace c (length k.list)).count (gathered_into k.trace c k.list)

-- both calls gather, and `compare` of what they put is no difference
abbrev pub Agree : ℕ → Call → Call → Type 0
Agree c k l = Gathers c k → Gathers c l → (n : ℕ) → compared_of (gathered_by c k) (gathered_by c l) ≢ Differ n

-- "Two runs from fresh of one merge-free net over the same streams never give a difference": whatever the masks and the trace buffers, on whatever channel number; and so it is with
-- runs that go on.
abbrev pub NeverDiffer : Type 0
NeverDiffer =
    (net : Net) (words ends : List ℕ) → Typed net words → accepted net ≡ true → MergeFree net → (gs hs : List Given) (c : ℕ) (list other : List ℕ)
    → Agree c (record { trace = trace_of_runs net words ends gs; list = list }) (record { trace = trace_of_runs net words ends hs; list = other })

-- With merges: as long as both make the same choices, which is that at every merge one's choices (request 2) begin the other's.
abbrev pub NeverDifferChoices : Type 0
NeverDifferChoices =
    (net : Net) (words ends : List ℕ) → Typed net words → accepted net ≡ true → (gs hs : List Given)
    → ((b : ℕ) → b < net.size → (block_at net b).kind ≡ 7
    → Comparable (choices_of net words ends (done_of net words ends gs) b) (choices_of net words ends (done_of net words ends hs) b))
    → (c : ℕ) (list other : List ℕ)
    → Agree c (record { trace = trace_of_runs net words ends gs; list = list }) (record { trace = trace_of_runs net words ends hs; list = other })
