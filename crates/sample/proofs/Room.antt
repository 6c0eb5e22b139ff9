-- A run writes no more records than its trace has room for.
-- Assumes nothing.
use mathlib.Core.Path.{◌≡◌, refl, subst⁻¹}
use mathlib.Core.Bool.{Bool, true, false, cond}
use mathlib.Core.List.{List, ◌++◌}
use Prim.Native.Nat.{ℕ, zero, suc, ◌+◌, ◌*◌, ◌/◌, ◌≤◌}
use native.Mathlib.Omega.{arith}
use borrow.Author.Tests.{ltb-false}
use lib.Dec.{eqb, ltb}
use lib.ListN.{length}
use Rattle.blocks.specs.declared.Net.{Net}
use Rattle.blocks.specs.declared.State.{State}
use Rattle.cycles.specs.declared.Stepped.{Stepped}
use Rattle.nets.specs.Net.{kind_count}
use Rattle.sim.specs.Calls.{fresh_of}
use Rattle.runs.specs.Runs.{Ran, begun, records_in, onward, step_at, ran_for, ran_of, run_of, run_refusal}
use Rattle.sample.specs.Sample.{sample_words, ends_for, sample_masks, sample_run, shown_of, SampledForm}
use Rattle.sample.specs.declared.Sampled.{Sampled}

abbrev Fits : ℕ → Ran → Type 0
Fits room p = 8 * length p.records ≤ room

-- one of two runs, of which the second is taken only where it fits
tested : (room : ℕ) (p q : Ran) (t : Bool) → ltb room (8 * length q.records) ≡ t → Fits room p → Fits room (cond t p q)
tested room p q true e h = h
tested room p q false e h = ltb-false room (8 * length q.records) e

either : (room : ℕ) (p q : Ran) (t : Bool) → Fits room p → Fits room q → Fits room (cond t p q)
either room p q true h k = h
either room p q false h k = k

onward-fits : (room : ℕ) (p : Ran) (t : Stepped) → Fits room p → Fits room (onward room p t)
unfolding onward
onward-fits room p t h =
    tested room (record { state = p.state; ending = 1; cycles = p.cycles; records = p.records })
    (record { state = t.state; ending = 0; cycles = p.cycles + 1; records = p.records ++ records_in p.state.count t })
    (ltb room (8 * length (p.records ++ records_in p.state.count t))) refl h

module _ (net : Net) (s : State) (words ends masks : List ℕ) (room : ℕ) where
  begun-fits : Fits room (begun s)
  begun-fits = omega arith

  ran_fits : (k : ℕ) → Fits room (ran_for net s words ends masks room k)
  unfolding ran_for
  ran_fits zero = begun-fits
  ran_fits (suc k) =
      let p : Ran = ran_for net s words ends masks room k in
      let t : Stepped = step_at net words ends masks p.state k in
      either room p (onward room p t) (eqb p.ending 1) (ran_fits k) (onward-fits room p t (ran_fits k))

  -- the records that a run says it wrote have room
  pub records_fit : 8 * (run_of net s words ends masks room).records ≤ room
  unfolding run_of ran_of
  records_fit =
      either room (ran_for net s words ends masks room (length masks / 2)) (begun s) (eqb (run_refusal net s words ends masks) 0)
      (ran_fits (length masks / 2)) begun-fits

sample_fits : (net : Net) (refusal room : ℕ) (t : Bool) → 8 * (cond t (shown_of (sample_run net room)) (record { refusal = refusal; cycles = 0; records = 0 })).records ≤ room
unfolding sample_run
sample_fits net refusal room true = records_fit net (fresh_of net).state sample_words (ends_for (kind_count net 0)) sample_masks room
sample_fits net refusal room false = omega arith

-- the same of the sample run of a form
pub sampled_fits : (f trace : List ℕ) (r : Sampled) (after : List ℕ) → SampledForm f trace r after → 8 * r.records ≤ length trace
sampled_fits f trace r after p =
    subst⁻¹ (λ (s : Sampled). 8 * s.records ≤ length trace) p.answer (sample_fits p.loading.net p.loading.refusal (length trace) (eqb p.loading.refusal 0))
