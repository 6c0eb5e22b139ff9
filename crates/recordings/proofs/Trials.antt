-- Document 01's net recorded twice over 1, 2, 3: ours, where nothing stalls, and a card's, whose sink is ready in two cycles only. The hypotheses of the promises are met, words come, and
-- one list begins the other.
-- Assumes nothing.
use Prim.Native.Nat.{ℕ, ◌*◌, ◌/◌, ◌%◌, ◌^◌, ◌<◌}
use mathlib.Core.Path.{◌≡◌, refl, sym, ap, ap₂, subst, ◌∙◌}
use mathlib.Core.Bool.{Bool, true}
use mathlib.Core.List.{List, [], ◌∷◌}
use native.Mathlib.Omega.{arith}
use lib.Dec.{eqb}
use lib.ListN.{length, replicate, length-replicate}
use Rattle.blocks.specs.Folds.{all_below, count_below, bit}
use Rattle.blocks.specs.Ports.{ports_of}
use Rattle.blocks.specs.Words.{operate}
use Rattle.nets.specs.Block.{ins, outs, on_side}
use Rattle.nets.specs.Net.{kind_count, place_of}
use Rattle.blocks.specs.declared.Block.{Block}
use Rattle.nets.proofs.Trials.{block, line}
use Rattle.forms.proofs.Examples.{all_same, line_sized}
use Rattle.cycles.specs.Streams.{ends_fit}
use Rattle.cycles.specs.State.{tab, shape_ok}
use Rattle.cycles.specs.Cycle.{signals}
use Rattle.cycles.specs.Step.{refusal_by, step_by, fresh_by}
use Rattle.queue.specs.Delivered.{delivered}
use Rattle.sim.specs.Calls.{fresh_of}
use Rattle.runs.specs.Runs.{run_refusal, run_of}
use Rattle.claims.specs.Promised.{delivered_of}
use Rattle.claims.proofs.Trials.{line_in, as_accepted}
use Rattle.compare.specs.declared.Compared.TheVariants.{SecondBegins}
use Rattle.compare.specs.Compare.{shared, compared_of}
use Rattle.compare.specs.Gather.{words_in}
use Rattle.recordings.specs.Recordings.{Typed, Given, ran_by, mask_pairs, wrote_by}
use Rattle.recordings.proofs.Low.{low_fresh}
use Rattle.recordings.proofs.RunRecords.{done_all}
use Rattle.recordings.proofs.Theorems.{gathered_run}

pub line_typed : Typed line (1 ∷ 2 ∷ 3 ∷ [])
line_typed =
    record {
      sized = line_sized;
      counts = (omega arith, (omega arith, (omega arith, (omega arith, all_same (λ (b : Block). b.m < 2 ^ 8) (block 0 0 0) (omega arith) 60))));
      streams = (omega arith, (omega arith, (omega arith, tt)));
    }

-- a run with room for a delivery on every channel in each of its cycles
abbrev given : List ℕ → Given
given masks = record { masks = masks; buffer = replicate (1024 * (length masks / 2)) 0 }

abbrev recorded : List ℕ → List ℕ
recorded masks = words_in (wrote_by line (fresh_of line).state (1 ∷ 2 ∷ 3 ∷ []) (3 ∷ []) (given masks)) 2

-- what its trace has at the sink is what its cycles deliver there
recorded_is : (masks : List ℕ) → refusal_by true line (fresh_by true line) (1 ∷ 2 ∷ 3 ∷ []) (3 ∷ []) (eqb (length masks % 2) 1) (length masks / 2) ≡ 0
    → recorded masks ≡ delivered true line (1 ∷ 2 ∷ 3 ∷ []) (3 ∷ []) (mask_pairs masks (length masks / 2)) 2
unfolding run_of fresh_of
recorded_is masks e =
    gathered_run line (1 ∷ 2 ∷ 3 ∷ []) (3 ∷ []) line_typed (given masks) 2 (omega arith)
    ∙ ap (λ (n : ℕ). delivered_of line (1 ∷ 2 ∷ 3 ∷ []) (3 ∷ []) (mask_pairs masks n) 2) cycles
    ∙ as_accepted line line_in.0 (1 ∷ 2 ∷ 3 ∷ []) (3 ∷ []) (mask_pairs masks (length masks / 2)) 2
  where
    passes : run_refusal line (fresh_of line).state (1 ∷ 2 ∷ 3 ∷ []) (3 ∷ []) masks ≡ 0
    passes = subst (λ (ok : Bool). refusal_by ok line (fresh_by ok line) (1 ∷ 2 ∷ 3 ∷ []) (3 ∷ []) (eqb (length masks % 2) 1) (length masks / 2) ≡ 0) (sym line_in.0) e

    cycles : (ran_by line (fresh_of line).state (1 ∷ 2 ∷ 3 ∷ []) (3 ∷ []) (given masks)).cycles ≡ length masks / 2
    cycles =
        done_all line (1 ∷ 2 ∷ 3 ∷ []) (3 ∷ []) line_typed (fresh_of line).state masks (length (given masks).buffer) (low_fresh line (1 ∷ 2 ∷ 3 ∷ []) (3 ∷ []) line_typed) passes
        (omega (arith, length-replicate {A = ℕ} (1024 * (length masks / 2)) 0))

abbrev ours : List ℕ
ours = replicate 12 4294967295

abbrev card : List ℕ
card = 1 ∷ 0 ∷ 1 ∷ 0 ∷ 1 ∷ 0 ∷ 1 ∷ 1 ∷ 1 ∷ 0 ∷ 1 ∷ 1 ∷ []

pub ours_recorded : recorded ours ≡ 6 ∷ 7 ∷ 8 ∷ []
unfolding mask_pairs step_by refusal_by shape_ok ends_fit tab signals place_of all_below count_below kind_count ports_of ins outs on_side bit operate
ours_recorded = recorded_is ours refl ∙ refl

pub card_recorded : recorded card ≡ 6 ∷ 7 ∷ []
unfolding mask_pairs step_by refusal_by shape_ok ends_fit tab signals place_of all_below count_below kind_count ports_of ins outs on_side bit operate
card_recorded = recorded_is card refl ∙ refl

pub laid_beside : compared_of (recorded ours) (recorded card) ≡ SecondBegins
unfolding shared compared_of
laid_beside = ap₂ compared_of ours_recorded card_recorded ∙ refl
