-- Choices of merges worked out: a block that two users share through a merge, while a sink stalls and while none does; and a merge whose word has gone and whose report
-- has not. Beside them what the queue machine puts with these choices.
-- Assumes nothing.
use Prim.Native.Nat.{ℕ, ◌<◌}
use mathlib.Core.Path.{◌≡◌, refl, ap, ap₂, ◌∙◌}
use mathlib.Core.Bool.{true}
use mathlib.Core.List.{List, [], ◌∷◌, ◌++◌}
use lib.ListN.{replicate}
use Rattle.blocks.specs.Folds.{all_below, count_below, lowest, bit, bits}
use Rattle.blocks.specs.Ports.{ports_of}
use Rattle.blocks.specs.Words.{operate, reach}
use Rattle.nets.specs.Block.{ins, outs, on_side, ports_ok, block_ok}
use Rattle.nets.specs.Net.{block_zero, fields_ok, kind_count, port_count, connected, place_of}
use Rattle.blocks.specs.declared.Block.{Block}
use Rattle.blocks.specs.declared.Net.{Net}
use Rattle.nets.proofs.Accepting.{rises, acceptable, accepted_test}
use Rattle.cycles.specs.Streams.{ends_fit}
use Rattle.cycles.specs.Wires.{view_of}
use Rattle.cycles.specs.Cycle.{signals}
use Rattle.cycles.specs.State.{tab, regs_of, shape_ok}
use Rattle.cycles.specs.Step.{refusal_by, step_by, fresh_by}
use Rattle.blocks.specs.declared.State.{State}
use Rattle.cycles.specs.declared.Stepped.{Stepped}
use Rattle.queue.specs.Machine.{fire, machine_of, put_by, put}
use Rattle.queue.specs.Delivered.{marked, delivered, end_state, pending, choices}
use Rattle.queue.specs.History.{WholeFirings}
use Rattle.queue.specs.Claims.{IsAccepted}
use Rattle.queue.proofs.Guarantee.{only_buffers_hold}
use Rattle.queue.proofs.Trial.{block}
use Rattle.handshake.proofs.Tables.{merging, merging_accepted}

-- ## examples/shared.net: a merge shares "add 100" between two users, and its report steers the demux that sends the results back

abbrev branching : ℕ → ℕ → ℕ → ℕ → ℕ → ℕ → Block
branching kind m a b c d = record { kind = kind; m = m; value = 0; ports = a ∷ b ∷ c ∷ d ∷ replicate 6 0 }

abbrev pub shared : Net
shared =
    record {
      size = 9;
      channels = 9;
      blocks =
          block 0 0 0 0 0 0 ∷ block 0 0 0 1 0 0 ∷ branching 7 2 0 1 2 3 ∷ block 8 0 0 2 4 0 ∷ block 3 0 100 4 5 0 ∷ block 8 0 0 3 6 0 ∷ branching 6 2 6 5 7 8 ∷ block 1 0 0 7 0 0
          ∷ block 1 0 0 8 0 0 ∷ replicate 55 (block 0 0 0 0 0 0);
    }

pub shared_accepted : IsAccepted shared
unfolding acceptable rises place_of fields_ok connected kind_count port_count all_below count_below block_ok block_zero ports_ok ports_of ins outs on_side
shared_accepted = let ranks : List ℕ = 0 ∷ 0 ∷ 1 ∷ 2 ∷ 3 ∷ 2 ∷ 4 ∷ 5 ∷ 5 ∷ [] in accepted_test shared ranks ranks refl

-- user 0 has 1, 2 and user 1 has 11, 12
abbrev pub shared_words : List ℕ
shared_words = 1 ∷ 2 ∷ 11 ∷ 12 ∷ []

abbrev pub shared_ends : List ℕ
shared_ends = 2 ∷ 4 ∷ []

-- user 1 alone offers at first; then both do, and user 1's sink stalls
abbrev pub stall : List (ℕ × ℕ)
stall = (2, 3) ∷ (3, 1) ∷ []

-- both offer, and nothing stalls
abbrev pub free : List (ℕ × ℕ)
free = (3, 3) ∷ (3, 3) ∷ []

abbrev shared_delivers : List (ℕ × ℕ) → ℕ → List ℕ
shared_delivers = delivered true shared shared_words shared_ends

abbrev shared_chooses : List (ℕ × ℕ) → List ℕ
shared_chooses masks = choices true shared shared_words shared_ends masks 2

-- Two cycles, the second worked out from the state s that the first leads to, as a list of cycles would be worked out anew from its start for each.
abbrev shared_step : State → ℕ × ℕ → Stepped
shared_step s m = step_by true shared s shared_words shared_ends m.0 m.1

module _ (m n : ℕ × ℕ) (s : State) (e : (shared_step (fresh_by true shared) m).state ≡ s) where
  both_deliver_lem : (c : ℕ) (a b : List ℕ) → marked (shared_step (fresh_by true shared) m) c ≡ a → marked (shared_step s n) c ≡ b → shared_delivers (m ∷ n ∷ []) c ≡ a ++ (b ++ [])
  both_deliver_lem c a b p q = rw (e, p, q)

  both_choose_lem : (a b d : List ℕ) → marked (shared_step (fresh_by true shared) m) 3 ≡ a → marked (shared_step s n) 3 ≡ b → pending (regs_of (shared_step s n).state 2) ≡ d
      → shared_chooses (m ∷ n ∷ []) ≡ (a ++ (b ++ [])) ++ d
  unfolding ports_of ins
  both_choose_lem a b d p q r = ap₂ (λ (l k : List ℕ). l ++ k) (both_deliver_lem 3 a b p q) (ap (λ (x : State). pending (regs_of (shared_step x n).state 2)) e ∙ r)

-- the state after the first cycle: the words and marks of the sources and of the two data buffers
abbrev shared_state : ℕ → ℕ → ℕ → ℕ → ℕ → ℕ → State
shared_state p q x y w report = record { count = 1; words = p ∷ q ∷ 0 ∷ w ∷ 0 ∷ report ∷ replicate 58 0; marks = x ∷ y ∷ 0 ∷ 1 ∷ 0 ∷ 1 ∷ replicate 58 0 }

-- 11 of user 1 has been chosen and reported; its result waits, so the merge waits with input 0 recorded, whose report has not gone
pub shared-run : (shared_chooses stall ≡ 1 ∷ 0 ∷ []) × (shared_delivers stall 3 ≡ 1 ∷ []) × (shared_delivers stall 2 ≡ 11 ∷ []) × (shared_delivers stall 8 ≡ [])
unfolding step_by refusal_by shape_ok ends_fit tab signals place_of all_below count_below kind_count ports_of ins outs on_side bit bits lowest reach operate
shared-run =
    let s : State = shared_state 0 1 0 0 11 1 in
    let first : (shared_step (fresh_by true shared) (2, 3)).state ≡ s = refl in
    let says = both_deliver_lem (2, 3) (3, 1) s first in
    (both_choose_lem (2, 3) (3, 1) s first (1 ∷ []) [] (0 ∷ []) refl refl refl, says 3 (1 ∷ []) [] refl refl, says 2 (11 ∷ []) [] refl refl, says 8 [] [] refl refl)

-- with no stall the choices are others, and so are the words: user 0 has its result
pub shared_free : (shared_chooses free ≡ 0 ∷ 0 ∷ []) × (shared_delivers free 7 ≡ 101 ∷ [])
unfolding step_by refusal_by shape_ok ends_fit tab signals place_of all_below count_below kind_count ports_of ins outs on_side bit bits lowest reach operate
shared_free =
    let s : State = shared_state 1 0 0 1 1 0 in
    let first : (shared_step (fresh_by true shared) (3, 3)).state ≡ s = refl in
    (both_choose_lem (3, 3) (3, 3) s first (0 ∷ []) (0 ∷ []) [] refl refl refl, both_deliver_lem (3, 3) (3, 3) s first 7 [] (101 ∷ []) refl refl)

-- the queue machine with the choices 1, 0: the merge is asked three times and fires twice
abbrev shared_puts : ℕ → List ℕ
shared_puts = put_by shared shared_words shared_ends (λ b. 1 ∷ 0 ∷ []) (0 ∷ 0 ∷ 1 ∷ 2 ∷ 3 ∷ 4 ∷ 5 ∷ 6 ∷ 2 ∷ 2 ∷ [])

pub shared_puts_lem : (shared_puts 2 ≡ 11 ∷ 1 ∷ []) × (shared_puts 3 ≡ 1 ∷ 0 ∷ []) × (shared_puts 8 ≡ 111 ∷ [])
unfolding fire ends_fit count_below kind_count ports_of ins outs reach operate
shared_puts_lem = (refl, refl, refl)

-- ## Two sources, a merge of them, and a sink for each of its outputs

-- source 1 alone offers, and the report's sink stalls: its word has gone, its report has not, so that the choice is the recorded winner
pub merging_run : (choices true merging (10 ∷ 20 ∷ []) (1 ∷ 2 ∷ []) ((2, 1) ∷ []) 2 ≡ 1 ∷ [])
    × (delivered true merging (10 ∷ 20 ∷ []) (1 ∷ 2 ∷ []) ((2, 1) ∷ []) 2 ≡ 20 ∷ [])
    × (delivered true merging (10 ∷ 20 ∷ []) (1 ∷ 2 ∷ []) ((2, 1) ∷ []) 3 ≡ [])
unfolding step_by refusal_by shape_ok ends_fit tab signals place_of all_below count_below kind_count ports_of ins outs on_side bit bits lowest
merging_run = (refl, refl, refl)

-- other stalls, the same choice: at first no sink is ready, then the data's
pub merging_later : (choices true merging (10 ∷ 20 ∷ []) (1 ∷ 2 ∷ []) ((2, 0) ∷ (0, 1) ∷ []) 2 ≡ 1 ∷ [])
    × (delivered true merging (10 ∷ 20 ∷ []) (1 ∷ 2 ∷ []) ((2, 0) ∷ (0, 1) ∷ []) 2 ≡ 20 ∷ [])
unfolding step_by refusal_by shape_ok ends_fit tab signals place_of all_below count_below kind_count ports_of ins outs on_side bit bits lowest
merging_later = (refl, refl)

abbrev merging_puts : List ℕ → List ℕ → ℕ → List ℕ
merging_puts cs = put_by merging (10 ∷ 20 ∷ []) (1 ∷ 2 ∷ []) (λ b. cs)

-- with that choice the machine puts 20, and 10 stays in its queue
pub merging_puts_lem : (merging_puts (1 ∷ []) (0 ∷ 1 ∷ 2 ∷ 2 ∷ []) 2 ≡ 20 ∷ []) × (merging_puts (1 ∷ []) (0 ∷ 1 ∷ 2 ∷ 2 ∷ []) 3 ≡ 1 ∷ [])
unfolding fire ends_fit count_below kind_count ports_of ins outs
merging_puts_lem = (refl, refl)

-- a choice that is no input's number, one whose input has no word, and none at all: the merge does not fire
pub merging_rests : (merging_puts (2 ∷ []) (0 ∷ 1 ∷ 2 ∷ []) 2 ≡ []) × (merging_puts (1 ∷ []) (0 ∷ 2 ∷ []) 2 ≡ []) × (put merging (10 ∷ 20 ∷ []) (1 ∷ 2 ∷ []) (0 ∷ 1 ∷ 2 ∷ []) 2 ≡ [])
unfolding fire ends_fit count_below kind_count ports_of ins outs
merging_rests = (refl, refl, refl)

-- only buffers hold words: the law, of each of its blocks
pub merging_fires : (words ends : List ℕ) (masks : List (ℕ × ℕ)) (b : ℕ) → b < 5
    → WholeFirings ((machine_of merging words ends (choices true merging words ends masks)).kind b) (regs_of (end_state true merging words ends masks) b)
    (λ i. delivered true merging words ends masks ((view_of merging words ends).inp b i)) (λ j. delivered true merging words ends masks ((view_of merging words ends).out b j))
merging_fires words ends = only_buffers_hold true merging words ends refl merging_accepted
