-- The run that netrun shows (document 01, "Trial runs": "reads a form, gives each source 1, 2, 3, sets all masks for 6 cycles"): what it gives to `run`, what comes of a form and
-- what the trace then holds. That every source of an accepted net gets 1, 2, 3 is `each_source` (proofs/Theorems.antt).
-- Assumes nothing.
use Rattle.std.specs.Prelude.{ℕ, ◌+◌, ◌*◌, ◌%◌, ◌≡◌, cond, List, eqb, length, replicate}
use Rattle.nets.specs.Net.{kind_count}
use Rattle.blocks.specs.declared.Net.{Net}
use Rattle.forms.specs.Calls.{Loaded}
use Rattle.stored.specs.declared.Loading.{Loading}
use Rattle.cycles.specs.State.{tab}
use Rattle.sim.specs.Calls.{fresh_of}
use Rattle.runs.specs.Runs.{run_of, trace_after}
use Rattle.runs.specs.declared.Run.{Run}
use Rattle.sample.specs.declared.Sampled.{Sampled}

-- the words of 32 sources, one source after another: 1, 2, 3 over and over
unfoldable pub sample_words : List ℕ
sample_words = tab 96 (λ i. i % 3 + 1)

-- the ends of n sources with 3 words each
unfoldable pub ends_for : ℕ → List ℕ
ends_for n = tab n (λ k. 3 * k + 3)

-- an offer mask and a ready mask for each of 6 cycles
abbrev pub sample_masks : List ℕ
sample_masks = replicate 12 4294967295

unfoldable pub sample_run : Net → ℕ → Run
sample_run net room = run_of net (fresh_of net).state sample_words (ends_for (kind_count net 0)) sample_masks room

unfoldable pub sample_trace : Net → List ℕ → List ℕ
sample_trace net trace = trace_after net (fresh_of net).state sample_words (ends_for (kind_count net 0)) sample_masks trace

abbrev pub shown_of : Run → Sampled
shown_of r = record { refusal = r.refusal; cycles = r.cycles; records = r.records }

-- r is what comes of the form f with a trace that held `trace`, and after is what the trace then holds
pub record SampledForm (f trace : List ℕ) (r : Sampled) (after : List ℕ) : Type 0 where
  pub loading : Loading
  pub right : Loaded f loading
  pub answer :
      r ≡ cond (eqb loading.refusal 0) (shown_of (sample_run loading.net (length trace))) (record { refusal = loading.refusal; cycles = 0; records = 0 })
  pub held : after ≡ cond (eqb loading.refusal 0) (sample_trace loading.net trace) trace
