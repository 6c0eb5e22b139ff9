-- What waits on the channels of a net between the steps of a list: the words that the last cycle offered and that were not taken. They are offered in the next cycle,
-- whatever its masks (`stays` of crate blocks), and on the report channel of a merge they are its pending choice. So the choices that steps make are the words
-- delivered on the report channel, and then the one that waits there.
-- Assumes nothing.
use Prim.Native.Nat.{ℕ, ◌+◌, ◌<◌}
use mathlib.Core.Path.{◌≡◌, refl, sym, ap, ◌∙◌, subst}
use mathlib.Core.Bool.{Bool, true, false, cond, not, ◌&&◌}
use mathlib.Core.List.{List, [], ◌∷◌, ◌++◌, append_assoc, IsPrefix}
use native.Mathlib.Omega.{arith}
use borrow.Author.Tests.{ne_eqb}
use lib.Dec.{eqb}
use Rattle.blocks.specs.Kinds.{kind_of}
use Rattle.blocks.specs.Ports.{n_out}
use Rattle.blocks.specs.Equations.{fresh_reg}
use Rattle.blocks.proofs.Folds.{clash}
use Rattle.nets.specs.Net.{block_at}
use Rattle.blocks.specs.declared.Net.{Net}
use Rattle.nets.proofs.Nets.{channels-high}
use Rattle.cycles.specs.Streams.{stream_of, mask_of}
use Rattle.cycles.specs.Wires.{view_of}
use Rattle.cycles.specs.Cycle.{Signals, signals_of, next_at}
use Rattle.cycles.specs.State.{regs_of, fresh_state}
use Rattle.cycles.specs.Step.{refusal_by, refused_step, state_after, stepped_by, step_by, fresh_by}
use Rattle.blocks.specs.declared.State.{State}
use Rattle.cycles.specs.declared.Stepped.{Stepped}
use Rattle.cycles.proofs.Joins.{out_range}
use Rattle.cycles.proofs.Solution.{solves}
use Rattle.cycles.proofs.States.{regs_of_lem, fresh_regs}
use Rattle.cycles.proofs.Steps.{step-cases}
use Rattle.cycles.proofs.Sustained.{keeps_after}
use Rattle.queue.specs.Delivered.{marked, delivered_from, last_from, over, offered, delivered, report, pending, choices}
use Rattle.queue.specs.Claims.{IsAccepted}
use Rattle.queue.proofs.Words.{prefix_refl, prefix_trans, prefix_under}
use Rattle.queue.proofs.Cycle.{Works}
use Rattle.queue.proofs.Circuit.{ports_at, Cycles, cycles, moved}
use Rattle.queue.proofs.Marks.{marked_refused, marked-worked}
use Rattle.queue.proofs.Choices.{pending_next}

-- the word, if any, that a cycle offers on channel c and that is not taken
abbrev pub untaken : Signals → ℕ → List ℕ
untaken g c = cond ((g.shows c).valid && not (g.ready c)) ((g.shows c).word ∷ []) []

-- what is offered is delivered or waits
pub offered_is : (g : Signals) (c : ℕ) → offered g c ≡ moved g c ++ untaken g c
offered_is g c = go (g.shows c).valid (g.ready c)
  where
    go : (v y : Bool)
        → cond v ((g.shows c).word ∷ []) [] ≡ cond (v && y) ((g.shows c).word ∷ []) [] ++ cond (v && not y) ((g.shows c).word ∷ []) []
    go true true = refl
    go true false = refl
    go false y = refl

-- a cycle from state s, and the state after it
abbrev pub cycle_from : Net → List ℕ → List ℕ → State → ℕ → ℕ → Signals
cycle_from net words ends s offer ready = signals_of net words ends offer ready (regs_of s)

abbrev pub next : Net → List ℕ → List ℕ → State → ℕ → ℕ → State
next net words ends s offer ready = state_after net s words ends (cycle_from net words ends s offer ready)

-- what waits after a step that answers t, where W waits before it
abbrev pub waits_by : Net → List ℕ → List ℕ → (ℕ → List ℕ) → State → ℕ × ℕ → Stepped → ℕ → List ℕ
waits_by net words ends W s m t = cond (eqb t.refusal 0) (untaken (cycle_from net words ends s m.0 m.1)) W

module _ (ok : Bool) (net : Net) (words ends : List ℕ) where
  -- what waits after the steps of a list of masks, where W waits before them: a refused one changes nothing
  abbrev pub waits_from : (ℕ → List ℕ) → State → List (ℕ × ℕ) → ℕ → List ℕ
  waits_from W s [] = W
  waits_from W s (m ∷ ms) = let t : Stepped = step_by ok net s words ends m.0 m.1 in waits_from (waits_by net words ends W s m t) t.state ms

  -- from the fresh state, where nothing waits
  abbrev pub waits : List (ℕ × ℕ) → ℕ → List ℕ
  waits = waits_from (λ c. []) (fresh_by ok net)

module _ (net : Net) (words ends : List ℕ) (acc : IsAccepted net) where
  abbrev g : State → ℕ → ℕ → Signals
  g = cycle_from net words ends

  abbrev after : State → ℕ → ℕ → State
  after = next net words ends

  -- every block's equations hold in a cycle
  pub works : (s : State) (offer ready : ℕ) → Cycles (view_of net words ends) (mask_of net offer ready) (g s offer ready) (regs_of s) (regs_of (after s offer ready))
  works s offer ready =
      cycles (view_of net words ends) (mask_of net offer ready) (g s offer ready) (regs_of s) (regs_of (after s offer ready)) (solves net words ends acc offer ready (regs_of s))
      (λ b h. regs_of_lem net acc.0.fields (s.count + 1) (next_at (view_of net words ends) (g s offer ready) (regs_of s)) b h)

  pub report_in : (b : ℕ) → b < net.size → (block_at net b).kind ≡ 7 → report net b < net.channels
  report_in b hb e =
      out_range net words ends acc.0.fields acc.0.joins b 1 hb
      (subst (λ (k : ℕ). 1 < n_out (kind_of k (block_at net b).m (block_at net b).value (stream_of net words ends b))) (sym e) (omega arith))

  -- W is what waits in state s: it is offered in the next cycle, whatever its masks, and on the report channel of a merge it is the pending choice
  pub record Waits (W : ℕ → List ℕ) (s : State) : Type 0 where
    pub stays : (offer ready c : ℕ) → c < net.channels → IsPrefix (W c) (offered (g s offer ready) c)
    pub reports : (b : ℕ) → b < net.size → (block_at net b).kind ≡ 7 → pending (regs_of s b) ≡ W (report net b)

  pub nothing_waits : Waits (λ c. []) (fresh_state net)
  nothing_waits =
      record {
        stays = λ offer ready c h. (offered (g (fresh_state net) offer ready) c, refl);
        reports = λ b hb e.
            ap pending (fresh_regs net acc.0.fields words ends b hb)
            ∙ subst (λ (k : ℕ). pending (fresh_reg (kind_of k (block_at net b).m (block_at net b).value (stream_of net words ends b))) ≡ []) (sym e) refl;
      }

  pub waits_next : (W : ℕ → List ℕ) (s : State) (offer ready : ℕ) → Waits W s → Waits (untaken (g s offer ready)) (after s offer ready)
  waits_next W s offer ready h =
      record {
        stays = λ offer' ready' c hc. kept offer' ready' c hc (d.shows c).valid (d.ready c) refl refl;
        reports = λ b hb e.
            pending_next (mask_of net offer ready b) (ports_at (view_of net words ends) d b) (regs_of s b) (regs_of (after s offer ready) b) (block_at net b).m []
            (subst (λ (k : ℕ). At b k) e (works s offer ready b hb))
            (rw (h.reports b hb e) (h.stays offer ready (report net b) (report_in b hb e)));
      }
    where
      d : Signals
      d = g s offer ready

      At : ℕ → ℕ → Type 0
      At b k =
          Works (kind_of k (block_at net b).m (block_at net b).value (stream_of net words ends b)) (mask_of net offer ready b) (ports_at (view_of net words ends) d b)
          (regs_of s b) (regs_of (after s offer ready) b)

      kept : (offer' ready' c : ℕ) → c < net.channels → (v y : Bool) → (d.shows c).valid ≡ v → d.ready c ≡ y
          → IsPrefix (cond (v && not y) ((d.shows c).word ∷ []) []) (offered (g (after s offer ready) offer' ready') c)
      kept offer' ready' c hc true false p q = rw (keeps_after net acc words ends offer ready offer' ready' s c hc p q, p) (prefix_refl ((d.shows c).word ∷ []))
      kept offer' ready' c hc true true p q = (offered (g (after s offer ready) offer' ready') c, refl)
      kept offer' ready' c hc false y p q = (offered (g (after s offer ready) offer' ready') c, refl)

  -- ## The steps of a list

  wide : (c : ℕ) → c < net.channels → c < 128
  wide c h = omega (arith, channels-high net acc.0.fields)

  module _ (ok : Bool) where
    -- after steps that deliver the words E and end in state s, W' is what waits; and what waited before, W, has been delivered or waits still
    pub record Along (W E W' : ℕ → List ℕ) (s : State) : Type 0 where
      pub known : Waits W' s
      pub grows : (c : ℕ) → c < net.channels → IsPrefix (W c) (E c ++ W' c)

    abbrev later : State → List (ℕ × ℕ) → ℕ → List ℕ
    later s ms = delivered_from ok net s (over words ends ms)

    abbrev GoesAlong : State → List (ℕ × ℕ) → Type 0
    GoesAlong s ms = (W : ℕ → List ℕ) → Waits W s → Along W (later s ms) (waits_from ok net words ends W s ms) (last_from ok net s (over words ends ms))

    -- a step that answers t, and then the steps from its state
    abbrev Continues : State → ℕ × ℕ → List (ℕ × ℕ) → Stepped → Type 0
    Continues s m ms t =
        GoesAlong t.state ms → (W : ℕ → List ℕ) → Waits W s
        → Along W (λ c. marked t c ++ later t.state ms c) (waits_from ok net words ends (waits_by net words ends W s m t) t.state ms)
        (last_from ok net t.state (over words ends ms))

    after-refused : (s : State) (m : ℕ × ℕ) (ms : List (ℕ × ℕ)) (n : ℕ) → (n ≡ 0 → ⊥) → Continues s m ms (refused_step n s)
    after-refused s m ms n z rec W h =
        let r = rec W h in
        rw (ne_eqb n 0 z)
        (record { known = r.known; grows = λ c hc. rw (marked_refused n s c (wide c hc)) (r.grows c hc) })

    after_cycle : (s : State) (m : ℕ × ℕ) (ms : List (ℕ × ℕ)) → Continues s m ms (stepped_by net s words ends (g s m.0 m.1))
    after_cycle s m ms rec W h =
        let d : Signals = g s m.0 m.1 in
        let s' : State = after s m.0 m.1 in
        let U : ℕ → List ℕ = untaken d in
        let W' : ℕ → List ℕ = waits_from ok net words ends U s' ms in
        let r = rec U (waits_next W s m.0 m.1 h) in
        record {
          known = r.known;
          grows = λ c hc.
              rw (marked-worked net acc.0.fields s words ends d c hc, append_assoc (moved d c) (later s' ms c) (W' c))
              (prefix_trans (W c) (moved d c ++ U c) (moved d c ++ (later s' ms c ++ W' c))
              (subst (λ (l : List ℕ). IsPrefix (W c) l) (offered_is d c) (h.stays m.0 m.1 c hc))
              (prefix_under (moved d c) (U c) (later s' ms c ++ W' c) (r.grows c hc)));
        }

    pub along : (ms : List (ℕ × ℕ)) (s : State) → GoesAlong s ms
    along [] s = λ W h. record { known = h; grows = λ c hc. prefix_refl (W c) }
    along (m ∷ ms) s =
        step-cases ok net s words ends m.0 m.1 (Continues s m ms) (λ z. after-refused s m ms (refusal_by ok net s words ends false 1) z) (λ p. after_cycle s m ms)
        (along ms (step_by ok net s words ends m.0 m.1).state)

    -- from the fresh state
    pub waiting : (masks : List (ℕ × ℕ)) → Waits (waits_from ok net words ends (λ c. []) (fresh_state net) masks) (last_from ok net (fresh_state net) (over words ends masks))
    waiting masks = (along masks (fresh_state net) (λ c. []) nothing_waits).known

  -- A merge's choices are the words delivered on its report channel, and then the one that waits there.
  pub choices_are : (ok : Bool) → ok ≡ true → (masks : List (ℕ × ℕ)) (b : ℕ) → b < net.size → (block_at net b).kind ≡ 7
      → choices ok net words ends masks b ≡ delivered ok net words ends masks (report net b) ++ waits ok net words ends masks (report net b)
  choices_are true q masks b hb e = ap (λ (l : List ℕ). delivered true net words ends masks (report net b) ++ l) ((waiting true masks).reports b hb e)
  choices_are false q masks b hb e = clash q refl
