-- Tables of channels worked out: the one that the standard's section 5 draws; a sink that stalls, with a refused step in between; a merge that keeps its winner; a net
-- that stands still where the queue machine goes on; and what changed streams do.
-- Assumes nothing.
use Prim.Native.Nat.{ℕ, zero, suc, ◌+◌, ◌<◌}
use mathlib.Core.Path.{◌≡◌, refl, ap, ◌∙◌}
use mathlib.Core.Bool.{Bool, true, false}
use mathlib.Core.List.Memᴰ
use mathlib.Core.List.{List, [], ◌∷◌, ◌++◌}
use native.Mathlib.Omega.{arith}
use lib.ListN.{replicate}
use Rattle.blocks.specs.Folds.{all_below, count_below, lowest, bit, bits}
use Rattle.blocks.specs.Ports.{ports_of}
use Rattle.blocks.specs.Words.{operate, reach}
use Rattle.blocks.proofs.Folds.{clash}
use Rattle.nets.specs.Block.{ins, outs, on_side, ports_ok, block_ok}
use Rattle.nets.specs.Net.{block_zero, fields_ok, kind_count, port_count, connected, place_of}
use Rattle.blocks.specs.declared.Net.{Net}
use Rattle.nets.proofs.Accepting.{rises, acceptable, accepted_test}
use Rattle.cycles.specs.Streams.{ends_fit}
use Rattle.cycles.specs.Wires.{view_of}
use Rattle.cycles.specs.Cycle.{Signals, signals, signals_of}
use Rattle.cycles.specs.State.{tab, regs_of, shape_ok}
use Rattle.cycles.specs.Step.{refusal_by, state_after, step_by, fresh_by}
use Rattle.blocks.specs.declared.State.{State}
use Rattle.cycles.specs.declared.Stepped.{Stepped}
use Rattle.cycles.proofs.Steps.{step-cases}
use Rattle.queue.specs.Machine.{fire, machine_of, put}
use Rattle.queue.specs.Delivered.{Input, marked, delivered_from, last_from, over, delivered, end_state, choices}
use Rattle.queue.specs.History.{holds, WholeFirings}
use Rattle.queue.specs.Claims.{IsAccepted}
use Rattle.queue.proofs.Circuit.{moved}
use Rattle.queue.proofs.Marks.{marked_refused, marked-worked}
use Rattle.queue.proofs.Guarantee.{only_buffers_hold}
use Rattle.queue.proofs.Trial.{block, counter, counter_accepted, counter_steps}
use Rattle.handshake.specs.Table.{Column, column_of, table_from, Over, observed, offered_first, still_offered, Protocol}
use Rattle.handshake.proofs.Protocol.{table-protocol, over_same}

-- a column: data, valid, ready
abbrev col : ℕ → Bool → Bool → Column
col w v r = record { word = w; valid = v; ready = r }

-- ## Cycle by cycle: each is worked out by itself, from the state that the last one leads to, as a whole list would be worked out anew from its start for every cycle

record Leads (net : Net) (words ends : List ℕ) (s : State) (offer ready : ℕ) (s' : State) : Type 0 where
  works : (step_by true net s words ends offer ready).refusal ≡ 0
  leads : (step_by true net s words ends offer ready).state ≡ s'

record Shows (net : Net) (words ends : List ℕ) (c : ℕ) (s : State) (masks : List (ℕ × ℕ)) (l : List Column) : Type 0 where
  table_is : table_from true net s (over words ends masks) c ≡ l

module _ {net : Net} {words ends : List ℕ} {c : ℕ} where
  ends_here : {s : State} → Shows net words ends c s [] []
  ends_here = record { table_is = refl }

  adds : {offer ready : ℕ} {s s' : State} {masks : List (ℕ × ℕ)} {l : List Column} (a : Column) → Leads net words ends s offer ready s'
      → column_of (signals_of net words ends offer ready (regs_of s)) c ≡ a → Shows net words ends c s' masks l → Shows net words ends c s ((offer, ready) ∷ masks) (a ∷ l)
  adds a e f h = record { table_is = rw (e.works, f, e.leads, h.table_is) }

-- ## The standard's own table, on the channel from a source to a sink: data c c c X d d e, valid 1 1 1 0 1 1 1, ready 0 0 1 X 0 1 0, for the words 10, 20, 30

abbrev pub direct : Net
direct = record { size = 2; channels = 1; blocks = block 0 0 0 0 0 0 ∷ block 1 0 0 0 0 0 ∷ replicate 62 (block 0 0 0 0 0 0) }

pub direct_accepted : IsAccepted direct
unfolding acceptable rises place_of fields_ok connected kind_count port_count all_below count_below block_ok block_zero ports_ok ports_of ins outs on_side
direct_accepted = accepted_test direct (0 ∷ 1 ∷ []) (0 ∷ 1 ∷ []) refl

-- the state after k cycles, of which p delivered; the mark says whether the source is held
abbrev direct_state : ℕ → ℕ → ℕ → State
direct_state k p mark = record { count = k; words = p ∷ replicate 63 0; marks = mark ∷ replicate 63 0 }

abbrev direct_masks : List (ℕ × ℕ)
direct_masks = (1, 0) ∷ (0, 0) ∷ (0, 1) ∷ (0, 0) ∷ (1, 0) ∷ (0, 1) ∷ (1, 0) ∷ []

abbrev direct_columns : List Column
direct_columns = col 10 true false ∷ col 10 true false ∷ col 10 true true ∷ col 0 false false ∷ col 20 true false ∷ col 20 true true ∷ col 30 true false ∷ []

abbrev DirectLeads : State → ℕ → ℕ → State → Type 0
DirectLeads = Leads direct (10 ∷ 20 ∷ 30 ∷ []) (3 ∷ [])

direct_shows : Shows direct (10 ∷ 20 ∷ 30 ∷ []) (3 ∷ []) 0 (fresh_by true direct) direct_masks direct_columns
unfolding step_by refusal_by shape_ok ends_fit tab signals place_of all_below count_below kind_count ports_of ins outs on_side bit bits
direct_shows =
    let one : DirectLeads (fresh_by true direct) 1 0 (direct_state 1 0 1) = record { works = refl; leads = refl } in
    let two : DirectLeads (direct_state 1 0 1) 0 0 (direct_state 2 0 1) = record { works = refl; leads = refl } in
    let three : DirectLeads (direct_state 2 0 1) 0 1 (direct_state 3 1 0) = record { works = refl; leads = refl } in
    let four : DirectLeads (direct_state 3 1 0) 0 0 (direct_state 4 1 0) = record { works = refl; leads = refl } in
    let five : DirectLeads (direct_state 4 1 0) 1 0 (direct_state 5 1 1) = record { works = refl; leads = refl } in
    let six : DirectLeads (direct_state 5 1 1) 0 1 (direct_state 6 2 0) = record { works = refl; leads = refl } in
    let seven : DirectLeads (direct_state 6 2 0) 1 0 (direct_state 7 2 1) = record { works = refl; leads = refl } in
    adds (col 10 true false) one refl (adds (col 10 true false) two refl (adds (col 10 true true) three refl (adds (col 0 false false) four refl
    (adds (col 20 true false) five refl (adds (col 20 true true) six refl (adds (col 30 true false) seven refl ends_here))))))

-- the source is asked for 10 in the first cycle, for 20 in the fifth and for 30 in the last; in the fourth it offers nothing
pub standard_table : table_from true direct (fresh_by true direct) (over (10 ∷ 20 ∷ 30 ∷ []) (3 ∷ []) direct_masks) 0 ≡ direct_columns
standard_table = direct_shows.table_is

-- "token-transfer cycles": 10 and 20 are observed; each of the three words is offered once, and 30 still waits
pub standard_words : (observed direct_columns ≡ 10 ∷ 20 ∷ []) × (offered_first false direct_columns ≡ 10 ∷ 20 ∷ 30 ∷ []) × (still_offered [] direct_columns ≡ 30 ∷ [])
standard_words = (refl, refl, refl)

-- ## A counter whose sink stalls

-- the counter's sink is ready, stalls, is ready over ends that earn 14, and is ready twice again: 1 waits for one cycle, and the refused step leaves no column
pub counter_table : table_from true counter (fresh_by true counter) counter_steps 1 ≡ col 0 true true ∷ col 1 true false ∷ col 1 true true ∷ col 2 true true ∷ []
unfolding step_by refusal_by shape_ok ends_fit tab signals place_of all_below count_below kind_count ports_of ins outs on_side bit bits operate
counter_table = refl

-- its steps are over one set of streams but for the refused one, so the law speaks of this table
counter_over : Over counter [] [] counter_steps
unfolding ends_fit kind_count count_below
counter_over n (Memᴰ.head e) f = (ap (λ (x : Input). x.words) e, ap (λ (x : Input). x.ends) e)
counter_over n (Memᴰ.tail (Memᴰ.head e)) f = (ap (λ (x : Input). x.words) e, ap (λ (x : Input). x.ends) e)
counter_over n (Memᴰ.tail (Memᴰ.tail (Memᴰ.head e))) f = clash f (ap (λ (x : Input). ends_fit counter x.words x.ends) e)
counter_over n (Memᴰ.tail (Memᴰ.tail (Memᴰ.tail (Memᴰ.head e)))) f = (ap (λ (x : Input). x.words) e, ap (λ (x : Input). x.ends) e)
counter_over n (Memᴰ.tail (Memᴰ.tail (Memᴰ.tail (Memᴰ.tail (Memᴰ.head e))))) f = (ap (λ (x : Input). x.words) e, ap (λ (x : Input). x.ends) e)
counter_over n (Memᴰ.tail (Memᴰ.tail (Memᴰ.tail (Memᴰ.tail (Memᴰ.tail m))))) f = elim m [ ]

pub counter_protocol : Protocol (table_from true counter (fresh_by true counter) counter_steps 1) (delivered_from true counter (fresh_by true counter) counter_steps 1)
counter_protocol = table-protocol true counter [] [] counter_accepted 1 (omega arith) counter_steps counter_over (fresh_by true counter)

-- two cycles, in the second of which the sink stalls
abbrev stalled_words : ℕ → List ℕ
stalled_words = delivered true counter [] [] ((0, 1) ∷ (0, 0) ∷ [])

abbrev stalled_holds : ℕ → List ℕ
stalled_holds b = holds (regs_of (last_from true counter (fresh_by true counter) (over [] [] ((0, 1) ∷ (0, 0) ∷ []))) b)

-- a cycle of the counter, and the state after the first: the data buffer holds 1
abbrev counted : State → ℕ → Stepped
counted s ready = step_by true counter s [] [] 0 ready

abbrev counted_once : State
counted_once = record { count = 1; words = 0 ∷ 0 ∷ 0 ∷ 0 ∷ 1 ∷ replicate 59 0; marks = 0 ∷ 0 ∷ 0 ∷ 0 ∷ 1 ∷ replicate 59 0 }

counted-once : (counted (fresh_by true counter) 1).state ≡ counted_once
unfolding step_by refusal_by shape_ok ends_fit tab signals place_of all_below count_below kind_count ports_of ins outs on_side bit bits operate
counted-once = refl

both_cycles : (c : ℕ) (a b : List ℕ) → marked (counted (fresh_by true counter) 1) c ≡ a → marked (counted counted_once 0) c ≡ b → stalled_words c ≡ a ++ (b ++ [])
both_cycles c a b e f = rw (counted-once, e, f)

-- the fork has taken 0 and given it to both; of 1, which it has not taken, one copy has left early, and the adder has given 1 and 2 for 0 and 1
pub counter_whole : (stalled_words 0 ≡ 0 ∷ []) × (stalled_words 1 ≡ 0 ∷ []) × (stalled_words 2 ≡ 0 ∷ 1 ∷ []) × (stalled_words 3 ≡ 1 ∷ 2 ∷ [])
unfolding step_by refusal_by shape_ok ends_fit tab signals place_of all_below count_below kind_count ports_of ins outs on_side bit bits operate
counter_whole =
    (both_cycles 0 (0 ∷ []) [] refl refl, both_cycles 1 (0 ∷ []) [] refl refl, both_cycles 2 (0 ∷ []) (1 ∷ []) refl refl, both_cycles 3 (1 ∷ []) (2 ∷ []) refl refl)

-- the control buffer has taken 1 and 2, given 1 and holds 2; the data buffer has given its first word 0 and holds 1
pub counter_holds : (stalled_words 4 ≡ 1 ∷ []) × (stalled_holds 3 ≡ 2 ∷ []) × (stalled_holds 4 ≡ 1 ∷ [])
unfolding step_by refusal_by shape_ok ends_fit tab signals place_of all_below count_below kind_count ports_of ins outs on_side bit bits operate
counter_holds =
    let second : (b : ℕ) → stalled_holds b ≡ holds (regs_of (counted counted_once 0).state b) = λ b. ap (λ (s : State). holds (regs_of (counted s 0).state b)) counted-once in
    (both_cycles 4 (1 ∷ []) [] refl refl, second 3 ∙ refl, second 4 ∙ refl)

-- the law, of each of its blocks
pub counter_fires : (masks : List (ℕ × ℕ)) (b : ℕ) → b < 5
    → WholeFirings ((machine_of counter [] [] (choices true counter [] [] masks)).kind b) (regs_of (end_state true counter [] [] masks) b)
    (λ i. delivered true counter [] [] masks ((view_of counter [] []).inp b i)) (λ j. delivered true counter [] [] masks ((view_of counter [] []).out b j))
counter_fires = only_buffers_hold true counter [] [] refl counter_accepted

-- ## Two sources, a merge of them, and a sink for each of its outputs

abbrev pub merging : Net
merging =
    record {
      size = 5;
      channels = 4;
      blocks =
          block 0 0 0 0 0 0 ∷ block 0 0 0 1 0 0 ∷ record { kind = 7; m = 2; value = 0; ports = 0 ∷ 1 ∷ 2 ∷ 3 ∷ replicate 6 0 } ∷ block 1 0 0 2 0 0 ∷ block 1 0 0 3 0 0
          ∷ replicate 59 (block 0 0 0 0 0 0);
    }

pub merging_accepted : IsAccepted merging
unfolding acceptable rises place_of fields_ok connected kind_count port_count all_below count_below block_ok block_zero ports_ok ports_of ins outs on_side
merging_accepted = accepted_test merging (0 ∷ 0 ∷ 1 ∷ 2 ∷ 2 ∷ []) (0 ∷ 0 ∷ 1 ∷ 2 ∷ 2 ∷ []) refl

-- the state after k cycles: the words and marks of the two sources and of the merge
abbrev merging_state : ℕ → ℕ → ℕ → ℕ → ℕ → ℕ → ℕ → State
merging_state k a b w x y z = record { count = k; words = a ∷ b ∷ w ∷ replicate 61 0; marks = x ∷ y ∷ z ∷ replicate 61 0 }

abbrev MergingLeads : State → ℕ → ℕ → State → Type 0
MergingLeads = Leads merging (10 ∷ 20 ∷ []) (1 ∷ 2 ∷ [])

abbrev MergingShows : ℕ → List Column → Type 0
MergingShows c = Shows merging (10 ∷ 20 ∷ []) (1 ∷ 2 ∷ []) c (fresh_by true merging) ((2, 0) ∷ (3, 1) ∷ (0, 2) ∷ (0, 3) ∷ [])

-- Source 1 alone offers and no sink is ready: the merge records its winner all the same, which section 5 of the standard does not say. Then both offer and the
-- data's sink is ready; no source is asked and the report's sink is ready; no source is asked and both sinks are ready.
merging_shows : MergingShows 2 (col 20 true false ∷ col 20 true true ∷ col 0 false false ∷ col 10 true true ∷ [])
    × MergingShows 3 (col 1 true false ∷ col 1 true false ∷ col 1 true true ∷ col 0 true true ∷ [])
    × MergingShows 1 (col 20 true false ∷ col 20 true false ∷ col 20 true true ∷ col 0 false false ∷ [])
unfolding step_by refusal_by shape_ok ends_fit tab signals place_of all_below count_below lowest kind_count ports_of ins outs on_side bit bits
merging_shows =
    let one : MergingLeads (fresh_by true merging) 2 0 (merging_state 1 0 0 2 0 1 0) = record { works = refl; leads = refl } in
    let two : MergingLeads (merging_state 1 0 0 2 0 1 0) 3 1 (merging_state 2 0 0 2 1 1 1) = record { works = refl; leads = refl } in
    let three : MergingLeads (merging_state 2 0 0 2 1 1 1) 0 2 (merging_state 3 0 1 0 1 0 0) = record { works = refl; leads = refl } in
    let four : MergingLeads (merging_state 3 0 1 0 1 0 0) 0 3 (merging_state 4 1 1 0 0 0 0) = record { works = refl; leads = refl } in (
      adds (col 20 true false) one refl (adds (col 20 true true) two refl (adds (col 0 false false) three refl (adds (col 10 true true) four refl ends_here))),
      adds (col 1 true false) one refl (adds (col 1 true false) two refl (adds (col 1 true true) three refl (adds (col 0 true true) four refl ends_here))),
      adds (col 20 true false) one refl (adds (col 20 true false) two refl (adds (col 20 true true) three refl (adds (col 0 false false) four refl ends_here))),
    )

abbrev merging_table : ℕ → List Column
merging_table = table_from true merging (fresh_by true merging) (over (10 ∷ 20 ∷ []) (1 ∷ 2 ∷ []) ((2, 0) ∷ (3, 1) ∷ (0, 2) ∷ (0, 3) ∷ []))

-- 20 of source 1 and its number 1 wait until they are taken, though 10 of source 0 has come: it goes next
pub merging_table_lem : (merging_table 2 ≡ col 20 true false ∷ col 20 true true ∷ col 0 false false ∷ col 10 true true ∷ [])
    × (merging_table 3 ≡ col 1 true false ∷ col 1 true false ∷ col 1 true true ∷ col 0 true true ∷ [])
    × (merging_table 1 ≡ col 20 true false ∷ col 20 true false ∷ col 20 true true ∷ col 0 false false ∷ [])
merging_table_lem = (merging_shows.0.table_is, merging_shows.1.table_is, merging_shows.2.table_is)

-- over any masks and streams
pub merging_protocol : (words ends : List ℕ) (masks : List (ℕ × ℕ)) (c : ℕ) → c < 4
    → Protocol (table_from true merging (fresh_by true merging) (over words ends masks) c) (delivered true merging words ends masks c)
merging_protocol words ends masks c h =
    table-protocol true merging words ends merging_accepted c h (over words ends masks) (over_same merging words ends masks) (fresh_by true merging)

-- ## "The hardware may deadlock .. where the specification would proceed": selects 0, 1 and words 5, 6 through a demux, whose outputs are added

abbrev crossing : Net
crossing =
    record {
      size = 5;
      channels = 5;
      blocks =
          block 0 0 0 0 0 0 ∷ block 0 0 0 1 0 0 ∷ record { kind = 6; m = 2; value = 0; ports = 0 ∷ 1 ∷ 2 ∷ 3 ∷ replicate 6 0 } ∷ block 2 0 0 2 3 4 ∷ block 1 0 0 4 0 0
          ∷ replicate 59 (block 0 0 0 0 0 0);
    }

pub crossing_accepted : IsAccepted crossing
unfolding acceptable rises place_of fields_ok connected kind_count port_count all_below count_below block_ok block_zero ports_ok ports_of ins outs on_side
crossing_accepted = accepted_test crossing (0 ∷ 0 ∷ 1 ∷ 2 ∷ 3 ∷ []) (0 ∷ 0 ∷ 1 ∷ 2 ∷ 3 ∷ []) refl

abbrev crossing_words : List ℕ
crossing_words = 0 ∷ 1 ∷ 5 ∷ 6 ∷ []

abbrev crossing_ends : List ℕ
crossing_ends = 2 ∷ 4 ∷ []

abbrev crossing_steps : List (ℕ × ℕ) → List Input
crossing_steps masks = over crossing_words crossing_ends masks

-- the state after k cycles: both sources are held
abbrev crossing_state : ℕ → State
crossing_state k = record { count = k; words = replicate 64 0; marks = 1 ∷ 1 ∷ replicate 62 0 }

abbrev crossing_signals : State → ℕ → ℕ → Signals
crossing_signals s offer ready = signals_of crossing crossing_words crossing_ends offer ready (regs_of s)

-- what holds of the five channels
five : (P : ℕ → Type 0) → P 0 → P 1 → P 2 → P 3 → P 4 → (c : ℕ) → c < 5 → P c
five P p q r s t zero h = p
five P p q r s t (suc zero) h = q
five P p q r s t (suc (suc zero)) h = r
five P p q r s t (suc (suc (suc zero))) h = s
five P p q r s t (suc (suc (suc (suc zero)))) h = t
five P p q r s t (suc (suc (suc (suc (suc c))))) h = absurd (omega arith)

-- In a cycle from there, whatever the masks, the select 0 and the word 5 wait at the demux, as the adder waits for 6: nothing moves, and the registers stay.
crossing_still : (k offer ready : ℕ) → (c : ℕ) → c < 5 → moved (crossing_signals (crossing_state k) offer ready) c ≡ []
unfolding ends_fit signals place_of all_below count_below kind_count ports_of ins outs on_side bit bits operate reach
crossing_still k offer ready = five (λ (c : ℕ). moved (crossing_signals (crossing_state k) offer ready) c ≡ []) refl refl refl refl refl

crossing_next : (k offer ready : ℕ) → state_after crossing (crossing_state k) crossing_words crossing_ends (crossing_signals (crossing_state k) offer ready) ≡ crossing_state (k + 1)
unfolding ends_fit tab signals place_of all_below count_below kind_count ports_of ins outs on_side bit bits operate reach
crossing_next k offer ready = refl

abbrev Waits : List (ℕ × ℕ) → ℕ → State → Type 0
Waits ms c s = delivered_from true crossing s (crossing_steps ms) c ≡ []

crossing_waits : (masks : List (ℕ × ℕ)) (k c : ℕ) → c < 5 → Waits masks c (crossing_state k)
crossing_waits [] k c h = refl
crossing_waits (m ∷ ms) k c h = step (λ k. crossing_waits ms k c h)
  where
    step : ((k : ℕ) → Waits ms c (crossing_state k)) → Waits (m ∷ ms) c (crossing_state k)
    step rec =
        step-cases true crossing (crossing_state k) crossing_words crossing_ends m.0 m.1 (λ t. marked t c ++ delivered_from true crossing t.state (crossing_steps ms) c ≡ [])
        (λ z. rw (marked_refused (refusal_by true crossing (crossing_state k) crossing_words crossing_ends false 1) (crossing_state k) c (omega arith)) (rec k))
        (λ p. let g : Signals = crossing_signals (crossing_state k) m.0 m.1 in
        rw (marked-worked crossing crossing_accepted.0.fields (crossing_state k) crossing_words crossing_ends g c h, crossing_still k m.0 m.1 c h, crossing_next k m.0 m.1)
        (rec (k + 1)))

crossing_begins : (c : ℕ) → c < 5 → marked (step_by true crossing (fresh_by true crossing) crossing_words crossing_ends 3 1) c ≡ []
unfolding step_by refusal_by shape_ok ends_fit tab signals place_of all_below count_below kind_count ports_of ins outs on_side bit bits operate reach
crossing_begins = five (λ (c : ℕ). marked (step_by true crossing (fresh_by true crossing) crossing_words crossing_ends 3 1) c ≡ []) refl refl refl refl refl

crossing_held : (step_by true crossing (fresh_by true crossing) crossing_words crossing_ends 3 1).state ≡ crossing_state 1
unfolding step_by refusal_by shape_ok ends_fit tab signals place_of all_below count_below kind_count ports_of ins outs on_side bit bits operate reach
crossing_held = refl

-- in the first cycle both sources offer; whatever comes then, no channel ever delivers
pub crossing_stands : (masks : List (ℕ × ℕ)) (c : ℕ) → c < 5 → delivered true crossing crossing_words crossing_ends ((3, 1) ∷ masks) c ≡ []
crossing_stands masks c h = rw (crossing_begins c h, crossing_held) (crossing_waits masks 1 c h)

-- the queue machine puts 5 and 6, and their sum
pub crossing_goes_on : put crossing crossing_words crossing_ends (0 ∷ 1 ∷ 2 ∷ 0 ∷ 1 ∷ 2 ∷ 3 ∷ []) 4 ≡ 11 ∷ []
unfolding ends_fit place_of count_below kind_count ports_of ins outs on_side operate reach fire
crossing_goes_on = refl

-- ## One set of streams is needed: the source joined to a sink offers 1, which waits; over another stream the next step offers 2, over an empty one nothing

abbrev changed : List ℕ → List ℕ → List Column
changed words ends =
    let first : Input = record { words = 1 ∷ []; ends = 1 ∷ []; offer = 1; ready = 0 } in
    let second : Input = record { words = words; ends = ends; offer = 0; ready = 0 } in
    table_from true direct (fresh_by true direct) (first ∷ second ∷ []) 0

pub streams_changed : (changed (2 ∷ []) (1 ∷ []) ≡ col 1 true false ∷ col 2 true false ∷ []) × (changed [] (0 ∷ []) ≡ col 1 true false ∷ col 0 false false ∷ [])
unfolding step_by refusal_by shape_ok ends_fit tab signals place_of all_below count_below kind_count ports_of ins outs on_side bit bits
streams_changed = (refl, refl)
