-- What the sample run gives to `run` is what its definition says, and its answer is that of the definition.
-- Assumes nothing.
use mathlib.Core.Path.{◌≡◌, ap}
use mathlib.Core.List.{List}
use Prim.Native.Nat.{ℕ, ◌+◌, ◌*◌, ◌≤◌}
use borrow.Author.Tests.{leb-true, eq-eqb, ne_eqb}
use lib.Dec.{leb}
use lib.ListN.{length, take}
use Rattle.blocks.proofs.Folds.{and_1}
use Rattle.nets.specs.Net.{kind_count}
use Rattle.nets.specs.Verdict.{Joined}
use Rattle.blocks.specs.declared.Net.{Net}
use Rattle.forms.specs.Calls.{Loaded}
use Rattle.stored.specs.declared.Loading.{Loading}
use Rattle.cycles.proofs.States.{length-tab}
use Rattle.blocks.specs.declared.State.{State}
use Rattle.sim.specs.Calls.{fresh_of}
use Rattle.runs.specs.Runs.{run_of, trace_after}
use Rattle.runs.specs.declared.Run.{Run}
use Rattle.sample.specs.Sample.{sample_words, ends_for, sample_masks, sample_run, sample_trace, shown_of, SampledForm}
use Rattle.sample.proofs.Fills.{tab-front}

pub few_sources : (net : Net) → Joined net → kind_count net 0 ≤ 32
few_sources net j = leb-true (kind_count net 0) 32 (and_1 (leb (kind_count net 0) 32) (leb (kind_count net 1) 32) j.ends)

pub length-ends : (n : ℕ) → length (ends_for n) ≡ n
unfolding ends_for
length-ends n = length-tab n (λ k. 3 * k + 3)

-- the ends of the first sources
pub ends-front : (m n : ℕ) → m ≤ n → take m (ends_for n) ≡ ends_for m
unfolding ends_for
ends-front m n h = tab-front m n (λ k. 3 * k + 3) h

-- the answer of a run over what is given is that of the sample run, and so is what it leaves in the trace
module _ (net : Net) (s : State) (words ends : List ℕ) (e : s ≡ (fresh_of net).state) (f : words ≡ sample_words) (g : ends ≡ ends_for (kind_count net 0)) where
  pub run_is : (room : ℕ) (r : Run) → r ≡ run_of net s words ends sample_masks room → r ≡ sample_run net room
  unfolding sample_run
  run_is room r h = cc

  pub trace_is : (trace after : List ℕ) → after ≡ trace_after net s words ends sample_masks trace → after ≡ sample_trace net trace
  unfolding sample_trace
  trace_is trace after h = cc

module _ (f trace : List ℕ) (l : Loading) (p : Loaded f l) where
  -- a form that does not load
  pub form-refused : (l.refusal ≡ 0 → ⊥) → SampledForm f trace (record { refusal = l.refusal; cycles = 0; records = 0 }) trace
  form-refused z =
      let t = ne_eqb l.refusal 0 z in record { loading = l; right = p; answer = rw t; held = rw t }

  -- a form that loads
  pub form_ran : l.refusal ≡ 0 → (r : Run) (after : List ℕ) → r ≡ sample_run l.net (length trace) → after ≡ sample_trace l.net trace → SampledForm f trace (shown_of r) after
  form_ran z r after e h =
      let t = eq-eqb l.refusal 0 z in record { loading = l; right = p; answer = rw t (ap shown_of e); held = rw t h }
