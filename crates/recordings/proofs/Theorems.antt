-- The promises of specs/Recordings.antt, proved.
-- Assumes nothing.
use Prim.Native.Nat.{ℕ, ◌%◌, ◌<◌, ◌≤◌}
use native.Mathlib.Omega.{arith}
use mathlib.Core.Path.{◌≡◌, refl, sym, ap, ap₂, subst, subst₂, ◌∙◌}
use mathlib.Core.Logic.{◌≢◌, inl}
use mathlib.Core.Bool.{true}
use mathlib.Core.List.{List, [], ◌∷◌, ◌++◌, append-nil}
use borrow.Author.Tests.{ltb-true, ltb-false, le-ltb, ne_eqb}
use lib.Dec.{ltb}
use lib.ListN.{length, replicate, get_or-replicate, length-replicate}
use Rattle.blocks.proofs.Options.{test}
use Rattle.nets.specs.Net.{block_at}
use Rattle.blocks.specs.declared.Net.{Net}
use Rattle.nets.proofs.Decided.{accepted, accepted_true}
use Rattle.nets.proofs.Nets.{channels-high}
use Rattle.cycles.specs.Cycle.{signals_of}
use Rattle.cycles.specs.State.{regs_of}
use Rattle.blocks.specs.declared.State.{State}
use Rattle.cycles.specs.declared.Stepped.{Stepped}
use Rattle.cycles.proofs.Steps.{step-cases, mark_at}
use Rattle.queue.specs.Delivered.{Input, marked, over}
use Rattle.queue.specs.Claims.{Comparable}
use Rattle.sim.specs.Calls.{fresh_of, step_of}
use Rattle.claims.specs.Promised.{step_in, words_from, delivered_of, choices_of}
use Rattle.claims.proofs.Theorems.{same_choices}
use Rattle.trace.proofs.TraceBytes.{length-trace}
use Rattle.recorded.specs.Recorded.{records_read, channel_of}
use Rattle.compare.specs.declared.Compared.TheVariants.{Differ}
use Rattle.compare.specs.Compare.{compared_of}
use Rattle.compare.specs.Gather.{words_on, words_in, gathered_of}
use Rattle.compare.proofs.Answers.{never-22, put_words}
use Rattle.compare.proofs.Meaning.{never_differ as comparable-never}
use Rattle.recordings.specs.Recordings as claims
use Rattle.recordings.specs.Recordings.{Typed, Given, ran_by, wrote_by, mask_pairs, trace_of_runs, done_of}
use Rattle.recordings.specs.Recordings.{Call, Agree}
use Rattle.recordings.proofs.Low.{low_fresh}
use Rattle.recordings.proofs.RunRecords.{records_by, trace_is, gathered}

pub gathered_runs : claims.GatheredRuns
gathered_runs net words ends typed gs c h = gathered net words ends typed (fresh_of net).state (low_fresh net words ends typed) gs c h

-- one run is a list of one
pub gathered_run : claims.GatheredRun
gathered_run net words ends typed g c h =
    ap (λ (t : List ℕ). words_in t c) (sym (append-nil (wrote_by net (fresh_of net).state words ends g))) ∙ gathered_runs net words ends typed (g ∷ []) c h
    ∙ ap (λ (ms : List (ℕ × ℕ)). delivered_of net words ends ms c) (append-nil (mask_pairs g.masks (ran_by net (fresh_of net).state words ends g).cycles))

-- a list of that length has the room
pub whole-records : claims.WholeRecords
whole-records net words ends gs c room e =
    never-22 (trace_of_runs net words ends gs) c (replicate room 0) whole
    (subst (λ (n : ℕ). (gathered_of (trace_of_runs net words ends gs) c n).refusal ≡ 22) (sym (length-replicate {A = ℕ} room 0)) e)
  where
    fresh : State
    fresh = (fresh_of net).state

    whole : length (trace_of_runs net words ends gs) % 8 ≡ 0
    whole = omega (arith, ap length (trace_is net words ends fresh gs), length-trace (records_by net words ends fresh gs))

-- ## Channel numbers beyond the net's channels have no words

-- a record's channel is below 128
no_words : (c : ℕ) → 128 ≤ c → (rs : List ℕ) → words_on c rs ≡ []
unfolding words_on
no_words c h [] = refl
no_words c h (r ∷ rs) = rw (ne_eqb (channel_of r) c (λ e. omega (arith, e, h))) (no_words c h rs)

module _ (net : Net) (c : ℕ) (h : net.channels ≤ c) (low : c < 128) where
  silent : (s : State) (n : Input) → marked (step_in net s n) c ≡ []
  unfolding step_of
  silent s n =
      step-cases (accepted net) net s n.words n.ends n.offer n.ready (λ (t : Stepped). marked t c ≡ []) (λ z. rw (get_or-replicate {A = ℕ} 128 c 0 0 low))
      (λ p. rw (mark_at net s n.words n.ends (signals_of net n.words n.ends n.offer n.ready (regs_of s)) c low, le-ltb c net.channels h))

  none_from : (s : State) (ns : List Input) → words_from net s ns c ≡ []
  none_from s [] = refl
  none_from s (n ∷ ns) = ap₂ (λ (a b : List ℕ). a ++ b) (silent s n) (none_from (step_in net s n).state ns)

-- ## What is compared

module _ (net : Net) (words ends : List ℕ) (typed : Typed net words) where
  -- the words of a trace of runs from fresh
  abbrev recorded_on : ℕ → List Given → List ℕ
  recorded_on c gs = words_in (trace_of_runs net words ends gs) c

  beyond : (gs : List Given) (c : ℕ) → net.channels ≤ c → recorded_on c gs ≡ []
  beyond gs c h =
      test (ltb c 128)
      (λ q. gathered_runs net words ends typed gs c (ltb-true c 128 q)
      ∙ none_from net c h (ltb-true c 128 q) (fresh_of net).state (over words ends (done_of net words ends gs)))
      (λ q. no_words c (ltb-false c 128 q) (records_read (trace_of_runs net words ends gs)))

  module _ (acc : accepted net ≡ true) (gs hs : List Given)
      (chosen : (b : ℕ) → b < net.size → (block_at net b).kind ≡ 7
      → Comparable (choices_of net words ends (done_of net words ends gs) b) (choices_of net words ends (done_of net words ends hs) b)) (c : ℕ) where
    one-begins : Comparable (recorded_on c gs) (recorded_on c hs)
    one-begins = test (ltb c net.channels) (λ q. inside (ltb-true c net.channels q)) (λ q. outside (ltb-false c net.channels q))
      where
        inside : c < net.channels → Comparable (recorded_on c gs) (recorded_on c hs)
        inside h =
            let low : c < 128 = omega (arith, h, channels-high net (accepted_true net acc).0.fields) in
            subst₂ Comparable (sym (gathered_runs net words ends typed gs c low)) (sym (gathered_runs net words ends typed hs c low))
            (same_choices net words ends acc (done_of net words ends gs) (done_of net words ends hs) chosen c h)

        outside : net.channels ≤ c → Comparable (recorded_on c gs) (recorded_on c hs)
        outside h = subst₂ Comparable (sym (beyond gs c h)) (sym (beyond hs c h)) (inl ([], refl))

-- what holds of the words holds of what the calls put
agree : (c : ℕ) (k l : Call) → Comparable (words_in k.trace c) (words_in l.trace c) → Agree c k l
agree c k l one g h =
    subst₂ (λ (xs ys : List ℕ). (n : ℕ) → compared_of xs ys ≢ Differ n) (sym (put_words k.trace c k.list g)) (sym (put_words l.trace c l.list h))
    (comparable-never (words_in k.trace c) (words_in l.trace c) one)

pub never_differ_choices : claims.NeverDifferChoices
never_differ_choices net words ends typed acc gs hs chosen c list other =
    agree c (record { trace = trace_of_runs net words ends gs; list = list }) (record { trace = trace_of_runs net words ends hs; list = other })
    (one-begins net words ends typed acc gs hs chosen c)

-- without merges there is no choice
pub never_differ : claims.NeverDiffer
never_differ net words ends typed acc free gs hs c list other = never_differ_choices net words ends typed acc gs hs (λ b h e. absurd (free b h e)) c list other
