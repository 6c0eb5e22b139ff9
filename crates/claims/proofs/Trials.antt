-- Document 01's starred trial runs, as the change requests leave them, proved together over the definitions. And nets that meet what the promises ask for, over the
-- definitions of the calls: that of its program netrun, with what its six cycles deliver and with buffers placed on its channels, and two with a merge, with the choices made.
-- Assumes nothing.
use Prim.Native.Nat.{ℕ, zero, suc, ◌<◌}
use mathlib.Core.Path.{◌≡◌, refl, sym, ap, ◌∙◌, subst₂}
use mathlib.Core.Bool.{Bool, true}
use mathlib.Core.Logic.{inl}
use mathlib.Core.List.{List, [], ◌∷◌, IsPrefix, Memᴰ}
use native.Mathlib.Omega.{arith}
use Rattle.blocks.specs.Folds.{all_below}
use Rattle.blocks.proofs.Trials.{BlockTrials, block_trials}
use Rattle.nets.specs.Verdict.{number_of}
use Rattle.nets.specs.Net.{block_at}
use Rattle.blocks.specs.declared.Net.{Net}
use Rattle.nets.specs.Verdict.{DataLoop, ControlLoop}
use Rattle.nets.proofs.Decided.{verdict_of, verdict_of_lem, accepted, accepted_is}
use Rattle.nets.proofs.Trials.{trial, data_buffer_on_itself, control-buffer_on_itself, line, line_accepted}
use Rattle.queue.specs.Machine.{put_by}
use Rattle.queue.specs.Delivered.{delivered, choices}
use Rattle.queue.specs.Claims.{MergeFree, Comparable}
use Rattle.queue.proofs.Words.{prefix_refl}
use Rattle.queue.proofs.Trial.{line_free, line_run}
use Rattle.handshake.proofs.Tables.{merging, merging_accepted}
use Rattle.handshake.proofs.Chosen.{shared, shared_accepted, shared_words, shared_ends, stall, shared-run, merging_run, merging_later}
use Rattle.placed.specs.Placed.{placed}
use Rattle.lockstep.proofs.Trials.{one_accepted, mended, mended_too}
use Rattle.placements.specs.Calls.{codes_ok, place_of}
use Rattle.placements.proofs.Theorems.{placed-loads, loads-placed}
use Rattle.claims.specs.Promised.{delivered_of, choices_of}
use Rattle.claims.proofs.Theorems.{same_delivered, same_chosen, guaranteed_merges, same_choices, placements_agree}

-- `trial kind` is a source joined to a sink, and beside them a buffer of this kind joined to itself
pub record Trials : Type 0 where
  -- 4294967295 + 1 = 0; 0 - 1 = 4294967295; less 3, 3 = 0; demux of 2, select 1: output 1 V; select 2: the same; full data buffer, output R: R in; empty control buffer, word 7,
  -- output not R: R in, holds 7; two-way fork, marks 1, output 1 delivers: R in, marks 0
  pub blocks : BlockTrials
  -- data buffer on itself: 11
  pub data_on_itself : number_of (verdict_of (trial 8)) ≡ 11
  -- control buffer on itself: 10
  pub control_on_itself : number_of (verdict_of (trial 10)) ≡ 10

pub trials : Trials
trials =
    record {
      blocks = block_trials;
      data_on_itself = ap number_of (verdict_of_lem (trial 8) ControlLoop data_buffer_on_itself);
      control_on_itself = ap number_of (verdict_of_lem (trial 10) DataLoop control-buffer_on_itself);
    }

-- ## Source 1, 2, 3; data buffer; add 5; sink: six cycles, all masks set

abbrev six : List (ℕ × ℕ)
six = let all : ℕ × ℕ = (4294967295, 4294967295) in all ∷ all ∷ all ∷ all ∷ all ∷ all ∷ []

abbrev line_words : ℕ → List ℕ
line_words = delivered_of line (1 ∷ 2 ∷ 3 ∷ []) (3 ∷ []) six

pub line_in : (accepted line ≡ true) × MergeFree line
line_in = (accepted_is line line_accepted, line_free)

-- what the calls deliver, and choose, is what was worked out for an accepted net
module _ (net : Net) (acc : accepted net ≡ true) (words ends : List ℕ) (masks : List (ℕ × ℕ)) where
  pub as_accepted : (c : ℕ) → delivered_of net words ends masks c ≡ delivered true net words ends masks c
  as_accepted c = sym (same_delivered net words ends masks c) ∙ ap (λ (ok : Bool). delivered ok net words ends masks c) acc

  pub as_chosen : (b : ℕ) → choices_of net words ends masks b ≡ choices true net words ends masks b
  as_chosen b = sym (same_chosen net words ends masks b) ∙ ap (λ (ok : Bool). choices ok net words ends masks b) acc

pub line_delivers : (line_words 0 ≡ 1 ∷ 2 ∷ 3 ∷ []) × (line_words 1 ≡ 1 ∷ 2 ∷ 3 ∷ []) × (line_words 2 ≡ 6 ∷ 7 ∷ 8 ∷ [])
line_delivers = let say = as_accepted line line_in.0 (1 ∷ 2 ∷ 3 ∷ []) (3 ∷ []) six in (say 0 ∙ line_run.0, say 1 ∙ line_run.1, say 2 ∙ line_run.2)

-- ## Placements on its channels: nothing, and a control buffer on channel 2

pub line_placed : ((place_of line (0 ∷ 0 ∷ 0 ∷ [])).refusal ≡ 0) × ((place_of line (0 ∷ 0 ∷ 2 ∷ [])).refusal ≡ 0)
unfolding codes_ok all_below
line_placed = (
  loads-placed line (0 ∷ 0 ∷ 0 ∷ []) line_accepted.0 refl (record { each = refl; blocks_fit = omega arith; channels_fit = omega arith }) line_accepted,
  loads-placed line (0 ∷ 0 ∷ 2 ∷ []) line_accepted.0 refl (record { each = refl; blocks_fit = omega arith; channels_fit = omega arith }) one_accepted,
)

-- whatever the masks of the second are, one list begins the other; of the first the six cycles deliver nine words
pub line_agrees : (masks : List (ℕ × ℕ)) (c : ℕ) → c < 3
    → Comparable (line_words c) (delivered_of (placed line (0 ∷ 0 ∷ 2 ∷ [])) (1 ∷ 2 ∷ 3 ∷ []) (3 ∷ []) masks c)
line_agrees masks c h =
    subst₂ (λ (a b : Net). Comparable (delivered_of a (1 ∷ 2 ∷ 3 ∷ []) (3 ∷ []) six c) (delivered_of b (1 ∷ 2 ∷ 3 ∷ []) (3 ∷ []) masks c))
    (placed-loads line (0 ∷ 0 ∷ 0 ∷ []) line_placed.0).gives (placed-loads line (0 ∷ 0 ∷ 2 ∷ []) line_placed.1).gives
    (placements_agree line (0 ∷ 0 ∷ 0 ∷ []) (0 ∷ 0 ∷ 2 ∷ []) line_free line_placed.0 line_placed.1 (1 ∷ 2 ∷ 3 ∷ []) (3 ∷ []) six masks c h)

-- the data buffer on itself, refused with 11, has placements that load
pub looped_placed : ((place_of (trial 8) (0 ∷ 2 ∷ [])).refusal ≡ 0) × ((place_of (trial 8) (3 ∷ 2 ∷ [])).refusal ≡ 0)
unfolding codes_ok all_below
looped_placed = (
  loads-placed (trial 8) (0 ∷ 2 ∷ []) data_buffer_on_itself.0 refl (record { each = refl; blocks_fit = omega arith; channels_fit = omega arith }) mended,
  loads-placed (trial 8) (3 ∷ 2 ∷ []) data_buffer_on_itself.0 refl (record { each = refl; blocks_fit = omega arith; channels_fit = omega arith }) mended_too,
)

-- ## A block that two users share through a merge (examples/shared.net)

pub shared_in : accepted shared ≡ true
shared_in = accepted_is shared shared_accepted

-- over any masks
pub shared_guaranteed : (masks : List (ℕ × ℕ))
    → (F : List ℕ) × ((b : ℕ) → Memᴰ b F → b < 9)
    × ((c : ℕ) → c < 9 → IsPrefix (delivered_of shared shared_words shared_ends masks c) (put_by shared shared_words shared_ends (choices_of shared shared_words shared_ends masks) F c))
shared_guaranteed = guaranteed_merges shared shared_words shared_ends shared_in

-- while user 1's sink stalls, one choice is reported and one pending
pub shared_chooses_lem : (choices_of shared shared_words shared_ends stall 2 ≡ 1 ∷ 0 ∷ []) × (delivered_of shared shared_words shared_ends stall 3 ≡ 1 ∷ [])
shared_chooses_lem = (as_chosen shared shared_in shared_words shared_ends stall 2 ∙ shared-run.0, as_accepted shared shared_in shared_words shared_ends stall 3 ∙ shared-run.1)

-- ## Two sources, a merge of them, and a sink for each of its outputs

pub merging_in : accepted merging ≡ true
merging_in = accepted_is merging merging_accepted

abbrev merging_delivers : List (ℕ × ℕ) → ℕ → List ℕ
merging_delivers = delivered_of merging (10 ∷ 20 ∷ []) (1 ∷ 2 ∷ [])

abbrev merging_chooses : List (ℕ × ℕ) → ℕ → List ℕ
merging_chooses = choices_of merging (10 ∷ 20 ∷ []) (1 ∷ 2 ∷ [])

-- two lists of steps with other stalls, which make the same choice
abbrev at_once : List (ℕ × ℕ)
at_once = (2, 1) ∷ []

abbrev later : List (ℕ × ℕ)
later = (2, 0) ∷ (0, 1) ∷ []

-- the word has gone, its report has not
pub merging_chooses_lem : (merging_chooses at_once 2 ≡ 1 ∷ []) × (merging_delivers at_once 2 ≡ 20 ∷ []) × (merging_chooses later 2 ≡ 1 ∷ [])
merging_chooses_lem =
    let chosen = as_chosen merging merging_in (10 ∷ 20 ∷ []) (1 ∷ 2 ∷ []) in
    (chosen at_once 2 ∙ merging_run.0, as_accepted merging merging_in (10 ∷ 20 ∷ []) (1 ∷ 2 ∷ []) at_once 2 ∙ merging_run.1, chosen later 2 ∙ merging_later.0)

-- block 2 is its only merge
only-merge : (P : ℕ → Type 0) → P 2 → (b : ℕ) → b < 5 → (block_at merging b).kind ≡ 7 → P b
only-merge P p zero h e = absurd (omega arith)
only-merge P p (suc zero) h e = absurd (omega arith)
only-merge P p (suc (suc zero)) h e = p
only-merge P p (suc (suc (suc zero))) h e = absurd (omega arith)
only-merge P p (suc (suc (suc (suc zero)))) h e = absurd (omega arith)
only-merge P p (suc (suc (suc (suc (suc b))))) h e = absurd (omega arith)

-- so they deliver the same, as far as both have delivered
pub merging_decides : (c : ℕ) → c < 4 → Comparable (merging_delivers at_once c) (merging_delivers later c)
merging_decides =
    same_choices merging (10 ∷ 20 ∷ []) (1 ∷ 2 ∷ []) merging_in at_once later
    (only-merge (λ (b : ℕ). Comparable (merging_chooses at_once b) (merging_chooses later b))
    (inl (subst₂ IsPrefix (sym merging_chooses_lem.0) (sym merging_chooses_lem.2) (prefix_refl (1 ∷ [])))))
