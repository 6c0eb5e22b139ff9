-- Two nets that meet what the claims ask for, with their steps worked out: document 01's trial net over its six cycles, and a counter with a loop, whose sink
-- stalls and one of whose steps is refused. Beside them what lists of firings put.
-- Assumes nothing.
use Prim.Native.Nat.{ℕ, ◌<◌}
use mathlib.Core.Path.{◌≡◌, refl}
use mathlib.Core.Bool.{Bool, true, not}
use mathlib.Core.List.{List, [], ◌∷◌, IsPrefix, Memᴰ}
use borrow.Author.Tests.{not-true, eqb-false}
use lib.ListN.{replicate}
use Rattle.blocks.specs.Folds.{all_below, count_below, bit, bits}
use Rattle.blocks.specs.Ports.{ports_of}
use Rattle.blocks.specs.Words.{operate}
use Rattle.blocks.proofs.Folds.{all_at}
use Rattle.nets.specs.Block.{ins, outs, on_side, ports_ok, block_ok}
use Rattle.nets.specs.Net.{block_at, is_kind, block_zero, fields_ok, kind_count, port_count, connected, place_of}
use Rattle.blocks.specs.declared.Block.{Block}
use Rattle.blocks.specs.declared.Net.{Net}
use Rattle.nets.proofs.Accepting.{rises, acceptable, accepted_test}
use Rattle.nets.proofs.Trials.{line, line_accepted}
use Rattle.cycles.specs.Streams.{ends_fit}
use Rattle.cycles.specs.Cycle.{signals}
use Rattle.cycles.specs.State.{tab, shape_ok, regs_of}
use Rattle.cycles.specs.Step.{refusal_by, step_by, fresh_by}
use Rattle.queue.specs.Machine.{fire, put}
use Rattle.queue.specs.Delivered.{Input, delivered_from, last_from, delivered}
use Rattle.queue.specs.History.{holds}
use Rattle.queue.specs.Claims.{IsAccepted, MergeFree}
use Rattle.queue.proofs.Guarantee.{guaranteed}

-- a computed test for nets without merges
abbrev pub no_merge : Net → ℕ → Bool
no_merge net b = not (is_kind net 7 b)

pub free_test : (net : Net) → all_below (no_merge net) net.size ≡ true → MergeFree net
free_test net e b h = eqb-false (block_at net b).kind 7 (not-true (is_kind net 7 b) (all_at (no_merge net) net.size e b h))

-- ## Source 1, 2, 3; data buffer; add 5; sink

pub line_free : MergeFree line
unfolding all_below
line_free = free_test line refl

-- over any masks
pub line_guaranteed : (masks : List (ℕ × ℕ))
    → (F : List ℕ) × ((b : ℕ) → Memᴰ b F → b < 4)
    × ((c : ℕ) → c < 3 → IsPrefix (delivered true line (1 ∷ 2 ∷ 3 ∷ []) (3 ∷ []) masks c) (put line (1 ∷ 2 ∷ 3 ∷ []) (3 ∷ []) F c))
line_guaranteed = guaranteed true line (1 ∷ 2 ∷ 3 ∷ []) (3 ∷ []) line_accepted line_free

-- six cycles, all masks set
abbrev line_words : ℕ → List ℕ
line_words = let all : ℕ × ℕ = (4294967295, 4294967295) in delivered true line (1 ∷ 2 ∷ 3 ∷ []) (3 ∷ []) (all ∷ all ∷ all ∷ all ∷ all ∷ all ∷ [])

pub line_run : (line_words 0 ≡ 1 ∷ 2 ∷ 3 ∷ []) × (line_words 1 ≡ 1 ∷ 2 ∷ 3 ∷ []) × (line_words 2 ≡ 6 ∷ 7 ∷ 8 ∷ [])
unfolding step_by refusal_by shape_ok ends_fit tab signals place_of all_below count_below kind_count ports_of ins outs on_side bit operate
line_run = (refl, refl, refl)

-- firings that can't fire, or of no block of the net, change nothing; over ends that earn 14 nothing is put
pub line_puts : (put line (1 ∷ 2 ∷ 3 ∷ []) (3 ∷ []) (2 ∷ 0 ∷ 1 ∷ 0 ∷ 9 ∷ 1 ∷ 2 ∷ 0 ∷ 0 ∷ 2 ∷ 1 ∷ 2 ∷ []) 2 ≡ 6 ∷ 7 ∷ 8 ∷ [])
    × (put line (1 ∷ 2 ∷ 3 ∷ []) (4 ∷ []) (0 ∷ 1 ∷ 2 ∷ []) 0 ≡ [])
unfolding fire ends_fit count_below kind_count ports_of ins outs operate
line_puts = (refl, refl)

-- ## A counter: a fork to a sink and to add 1, then a control buffer and a data buffer that starts with 0, back to the fork

abbrev pub block : ℕ → ℕ → ℕ → ℕ → ℕ → ℕ → Block
block kind m value a b c = record { kind = kind; m = m; value = value; ports = a ∷ b ∷ c ∷ replicate 7 0 }

abbrev pub counter : Net
counter =
    record {
      size = 5;
      channels = 5;
      blocks = block 4 2 0 0 1 2 ∷ block 1 0 0 1 0 0 ∷ block 3 0 1 2 3 0 ∷ block 10 0 0 3 4 0 ∷ block 9 0 0 4 0 0 ∷ replicate 59 (block 0 0 0 0 0 0);
    }

-- forward from the data buffer; ready from the control buffer on
pub counter_accepted : IsAccepted counter
unfolding acceptable rises place_of fields_ok connected kind_count port_count all_below count_below block_ok block_zero ports_ok ports_of ins outs on_side
counter_accepted = accepted_test counter (1 ∷ 2 ∷ 2 ∷ 3 ∷ 0 ∷ []) (2 ∷ 3 ∷ 3 ∷ 0 ∷ 1 ∷ []) refl

pub counter_free : MergeFree counter
unfolding all_below
counter_free = free_test counter refl

pub counter_guaranteed : (masks : List (ℕ × ℕ))
    → (F : List ℕ) × ((b : ℕ) → Memᴰ b F → b < 5) × ((c : ℕ) → c < 5 → IsPrefix (delivered true counter [] [] masks c) (put counter [] [] F c))
counter_guaranteed = guaranteed true counter [] [] counter_accepted counter_free

-- its sink is ready, stalls, is ready over ends that earn 14, and is ready again
abbrev pub counter_steps : List Input
counter_steps =
    let give : List ℕ → ℕ → Input = λ ends ready. record { words = []; ends = ends; offer = 0; ready = ready } in
    give [] 1 ∷ give [] 0 ∷ give (0 ∷ []) 1 ∷ give [] 1 ∷ give [] 1 ∷ []

abbrev counter_words : ℕ → List ℕ
counter_words = delivered_from true counter (fresh_by true counter) counter_steps

-- to the sink go 0, 1, 2; into the data buffer came 1, 2, 3, and out of it went its first word 0, then 1, 2, and it holds 3
pub counter_run : (counter_words 1 ≡ 0 ∷ 1 ∷ 2 ∷ []) × (counter_words 4 ≡ 1 ∷ 2 ∷ 3 ∷ []) × (counter_words 0 ≡ 0 ∷ 1 ∷ 2 ∷ [])
    × (holds (regs_of (last_from true counter (fresh_by true counter) counter_steps) 4) ≡ 3 ∷ [])
unfolding step_by refusal_by shape_ok ends_fit tab signals place_of all_below count_below kind_count ports_of ins outs on_side bit bits operate
counter_run = (refl, refl, refl, refl)

-- two cycles, the sink ready
pub counter_words_lem : delivered true counter [] [] ((0, 1) ∷ (0, 1) ∷ []) 1 ≡ 0 ∷ 1 ∷ []
unfolding step_by refusal_by shape_ok ends_fit tab signals place_of all_below count_below kind_count ports_of ins outs on_side bit bits operate
counter_words_lem = refl

-- the queue machine counts too
pub counter_puts : put counter [] [] (0 ∷ 2 ∷ 3 ∷ 4 ∷ 0 ∷ 2 ∷ 3 ∷ 4 ∷ 0 ∷ []) 1 ≡ 0 ∷ 1 ∷ 2 ∷ []
unfolding fire ends_fit count_below kind_count ports_of ins outs operate
counter_puts = refl
