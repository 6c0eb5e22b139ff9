-- A list of steps, followed step by step by firings with choices that begin with those that the steps make: a refused step changes nothing, and a cycle is two passes
-- of firings through the data order, which put every word that it offers, delivered or not. One pass more puts every word that the next cycle offers, whatever its masks.
-- Assumes nothing.
use Prim.Native.Nat.{ℕ, ◌<◌}
use mathlib.Core.Path.{◌≡◌, refl, sym, ap, ◌∙◌, subst}
use mathlib.Core.Bool.{Bool, false}
use mathlib.Core.Logic.{◌≢◌, ⊎_elim}
use mathlib.Core.List.Memᴰ
use mathlib.Core.List.{List, [], ◌∷◌, ◌++◌, append-nil, append_assoc, IsPrefix, Memᴰ}
use native.Mathlib.Omega.{arith}
use borrow.Author.Tests.{eqb-true, eqb-false, ne_eqb}
use Rattle.blocks.specs.Kinds.{kind_of}
use Rattle.blocks.specs.Equations.{fresh_reg}
use Rattle.blocks.proofs.Options.{test}
use Rattle.blocks.proofs.Numbers.{by_kind}
use Rattle.nets.specs.Net.{block_at, is_kind}
use Rattle.blocks.specs.declared.Net.{Net}
use Rattle.nets.proofs.Nets.{channels-high}
use Rattle.cycles.specs.Streams.{stream_of, mask_of}
use Rattle.cycles.specs.Wires.{View}
use Rattle.cycles.specs.Cycle.{Signals}
use Rattle.cycles.specs.State.{regs_of, fresh_state}
use Rattle.cycles.specs.Step.{refusal_by, refused_step, stepped_by, step_by}
use Rattle.blocks.specs.declared.State.{State}
use Rattle.cycles.specs.declared.Stepped.{Stepped}
use Rattle.cycles.proofs.Wiring.{Wired}
use Rattle.cycles.proofs.Solution.{Orders}
use Rattle.cycles.proofs.States.{fresh_regs}
use Rattle.cycles.proofs.Steps.{step-cases}
use Rattle.queue.specs.Machine.{Queues, run, start, machine_of}
use Rattle.queue.specs.Delivered.{marked, delivered_from, last_from, over, offered, report}
use Rattle.queue.specs.Claims.{IsAccepted}
use Rattle.queue.proofs.Words.{prefix_trans, prefix_under}
use Rattle.queue.proofs.Confluence.{run-append}
use Rattle.queue.proofs.Sound.{ins_of, Sound, run_later}
use Rattle.queue.proofs.Cycle.{Works, IfMerge, Steered}
use Rattle.queue.proofs.Circuit.{ports_at, Cycles, moved, deliver}
use Rattle.queue.proofs.Choices.{steer}
use Rattle.queue.proofs.Machines.{carried, machine_wired}
use Rattle.queue.proofs.Simulation.{Follow, Sim, Order, order_inside, sim_same, sim-offers, sim-cycle}
use Rattle.queue.proofs.Orders.{sequence, ordered, everywhere}
use Rattle.queue.proofs.Marks.{marked_refused, marked-worked}
use Rattle.queue.proofs.Fresh.{sim_begin}
use Rattle.queue.proofs.Waits.{untaken, offered_is, cycle_from, waits_by, waits_from, next, works, report_in, Waits, nothing_waits, waits_next, along, waiting}

plain_is : (P : ℕ → List ℕ → Type 0) (m value : ℕ) (xs : List ℕ) (k : ℕ) → k ≢ 7 → IfMerge P (kind_of k m value xs)
plain_is P m value xs =
    by_kind (λ k. k ≢ 7 → IfMerge P (kind_of k m value xs)) (λ n. tt) (λ n. tt) (λ n. tt) (λ n. tt) (λ n. tt) (λ n. tt) (λ n. tt) (λ n. absurd (n refl))
    (λ n. tt) (λ n. tt) (λ n. tt) (λ k n. tt)

-- what a cycle offers, on top of the words D, it delivers or leaves waiting
delivered_or_waits : (g : Signals) (D : ℕ → List ℕ) (c : ℕ) → D c ++ offered g c ≡ deliver g D c ++ untaken g c
delivered_or_waits g D c = ap (λ (l : List ℕ). D c ++ l) (offered_is g c) ∙ sym (append_assoc (D c) (moved g c) (untaken g c))

module _ (ok : Bool) (net : Net) (words ends : List ℕ) (acc : IsAccepted net) (chosen : ℕ → List ℕ) (o : Orders net) where
  abbrev v : View
  v = machine_of net words ends chosen

  abbrev w : Wired (machine_of net words ends chosen)
  w = machine_wired net words ends chosen o.fields o.joins

  abbrev order : List ℕ
  order = sequence net words ends chosen o.fields o.joins o.forth o.data_order

  -- firings of the net's blocks
  abbrev Inside : List ℕ → Type 0
  Inside F = (b : ℕ) → Memᴰ b F → b < net.size

  -- every merge's choices begin with the words that l has for its report channel
  abbrev Begin : (ℕ → List ℕ) → Type 0
  Begin l = (b : ℕ) → b < net.size → (block_at net b).kind ≡ 7 → IsPrefix (l (report net b)) (chosen b)

  at_merges : (l : ℕ → List ℕ) → Begin l → (b : ℕ) → b < net.size → IfMerge (λ m cs. IsPrefix (l (report net b)) cs) (v.kind b)
  at_merges l h b hb =
      test (is_kind net 7 b) (λ e. rw e (h b hb (eqb-true (block_at net b).kind 7 e)))
      (λ e. rw e
      (plain_is (λ m cs. IsPrefix (l (report net b)) cs) (block_at net b).m (block_at net b).value (stream_of net words ends b) (block_at net b).kind
      (eqb-false (block_at net b).kind 7 e)))

  in_order : Order v w [] order
  in_order = ordered net words ends chosen o.fields o.joins o.forth o.data_order

  every_block : (b : ℕ) → b < net.size → Memᴰ b order
  every_block = everywhere net words ends chosen o.fields o.joins o.forth o.data_order

  order_in : Inside order
  order_in = order_inside v w in_order

  inside-once : (F : List ℕ) → Inside F → Inside (F ++ order)
  inside-once F i b m = ⊎_elim (λ z. i b z) (order_in b) (Memᴰ.append_cases F m)

  -- The circuit in state s, with the words D delivered and the words W waiting, against the machine after the firings F: it has put both.
  pub record Follows (D W : ℕ → List ℕ) (s : State) (F : List ℕ) : Type 0 where
    pub inside : Inside F
    pub simulates : Sim v D (regs_of s) (run v F (start v))
    pub ever : (c : ℕ) → c < net.channels → IsPrefix (D c ++ W c) ((run v F (start v)).puts c)

  -- A cycle is the order twice, where the choices begin with what its report channels offer.
  module _ (s : State) (offer ready : ℕ) (D : ℕ → List ℕ) (h : Begin (λ c. D c ++ offered (cycle_from net words ends s offer ready) c)) where
    abbrev g : Signals
    g = cycle_from net words ends s offer ready

    abbrev s' : State
    s' = next net words ends s offer ready

    machine-works : Cycles v (mask_of net offer ready) g (regs_of s) (regs_of s')
    machine-works b hb =
        carried net words ends chosen (λ K. Works K (mask_of net offer ready b) (ports_at v g b) (regs_of s b) (regs_of s' b))
        (λ m cs a. record { showing = a.showing; taking = a.taking; going = a.going }) b (works net words ends acc s offer ready b hb)

    steered : (b : ℕ) → b < net.size → (q : Queues) → Sound v q b → (y : Follow v q D (regs_of s b) b) → Steered (v.kind b) (ports_at v g b) (regs_of s b) y.done
    steered b hb q so y =
        steer (mask_of net offer ready b) (ports_at v g b) (regs_of s b) (regs_of s' b) (D (report net b)) y.done (ins_of v q b) (v.kind b) (machine-works b hb)
        (λ k l. so.can k (omega (arith, y.behind))) y.placed (y.outs_at 1) (at_merges (λ c. D c ++ offered g c) h b hb)

    -- what it offers is put by the first
    follow-offers : (F : List ℕ) → Sim v D (regs_of s) (run v F (start v)) → (c : ℕ) → c < net.channels → IsPrefix (D c ++ offered g c) ((run v (F ++ order) (start v)).puts c)
    follow-offers F x =
        rw (run-append v w F order (start v))
        (sim-offers v w (mask_of net offer ready) D g (regs_of s) (regs_of s') machine-works steered order in_order every_block (run v F (start v)) x)

    follow-cycle : (W : ℕ → List ℕ) (F : List ℕ) → Follows D W s F → Follows (deliver g D) (untaken g) s' (F ++ order ++ order)
    follow-cycle W F x =
        record {
          inside = inside-once (F ++ order) (inside-once F x.inside);
          simulates =
              rw (run-append v w (F ++ order) order (start v), run-append v w F order (start v))
              (sim-cycle v w (mask_of net offer ready) D g (regs_of s) (regs_of s') machine-works steered order in_order every_block (run v F (start v)) x.simulates);
          ever = λ c hc.
              let once : List ℕ = (run v (F ++ order) (start v)).puts c in
              prefix_trans (deliver g D c ++ untaken g c) once ((run v (F ++ order ++ order) (start v)).puts c)
              (subst (λ (l : List ℕ). IsPrefix l once) (delivered_or_waits g D c) (follow-offers F x.simulates c hc))
              (rw (run-append v w (F ++ order) order (start v)) ((run_later v order (run v (F ++ order) (start v))).puts_grow c));
        }

  -- ## Steps

  -- firings after which the machine follows the circuit in state s, with the words D delivered and the words W waiting
  abbrev pub Firings : (ℕ → List ℕ) → (ℕ → List ℕ) → State → Type 0
  Firings D W s = (F : List ℕ) × Follows D W s F

  wide : (c : ℕ) → c < net.channels → c < 128
  wide c h = omega (arith, channels-high net o.fields)

  firings_same : (D E W : ℕ → List ℕ) (s : State) → ((c : ℕ) → c < net.channels → E c ≡ D c) → Firings D W s → Firings E W s
  firings_same D E W s e f = (
    f.0,
    record {
      inside = f.1.inside;
      simulates = sim_same v w D E (regs_of s) (run v f.0 (start v)) e f.1.simulates;
      ever = λ c hc. rw (e c hc) (f.1.ever c hc);
    },
  )

  abbrev later : State → List (ℕ × ℕ) → ℕ → List ℕ
  later s ms = delivered_from ok net s (over words ends ms)

  abbrev waiting-after : (ℕ → List ℕ) → State → List (ℕ × ℕ) → ℕ → List ℕ
  waiting-after = waits_from ok net words ends

  -- steps that go on from state s
  abbrev GoesOn : State → List (ℕ × ℕ) → Type 0
  GoesOn s ms =
      (D W : ℕ → List ℕ) → Waits net words ends acc W s → Firings D W s → Begin (λ c. (D c ++ later s ms c) ++ waiting-after W s ms c)
      → Firings (λ c. D c ++ later s ms c) (waiting-after W s ms) (last_from ok net s (over words ends ms))

  -- what is delivered with a step that answers t, and then with the steps of a list of masks: on top of the words D
  abbrev onward : (ℕ → List ℕ) → Stepped → List (ℕ × ℕ) → ℕ → List ℕ
  onward D t ms c = D c ++ (marked t c ++ later t.state ms c)

  abbrev waiting_by : (ℕ → List ℕ) → State → ℕ × ℕ → Stepped → List (ℕ × ℕ) → ℕ → List ℕ
  waiting_by W s m t ms = waiting-after (waits_by net words ends W s m t) t.state ms

  -- a step that answers t, and then steps that go on from its state
  abbrev Continues : State → ℕ × ℕ → List (ℕ × ℕ) → Stepped → Type 0
  Continues s m ms t =
      GoesOn t.state ms → (D W : ℕ → List ℕ) → Waits net words ends acc W s → Firings D W s → Begin (λ c. onward D t ms c ++ waiting_by W s m t ms c)
      → Firings (onward D t ms) (waiting_by W s m t ms) (last_from ok net t.state (over words ends ms))

  -- what is said of a merge's report channel holds of an equal list
  begin_same : (k l : ℕ → List ℕ) → ((c : ℕ) → c < net.channels → l c ≡ k c) → Begin l → Begin k
  begin_same k l e h b hb q = subst (λ (x : List ℕ). IsPrefix x (chosen b)) (e (report net b) (report_in net words ends acc b hb q)) (h b hb q)

  after-refused : (s : State) (m : ℕ × ℕ) (ms : List (ℕ × ℕ)) (n : ℕ) → (n ≡ 0 → ⊥) → Continues s m ms (refused_step n s)
  after-refused s m ms n z rec D W wt f =
      let same : (c : ℕ) → c < net.channels → onward D (refused_step n s) ms c ≡ D c ++ later s ms c =
      λ c h. ap (λ (l : List ℕ). D c ++ (l ++ later s ms c)) (marked_refused n s c (wide c h)) in
      rw (ne_eqb n 0 z)
      (λ y. firings_same (λ c. D c ++ later s ms c) (onward D (refused_step n s) ms) (waiting-after W s ms) (last_from ok net s (over words ends ms)) same
      (rec D W wt f
      (begin_same (λ c. (D c ++ later s ms c) ++ waiting-after W s ms c) (λ c. onward D (refused_step n s) ms c ++ waiting-after W s ms c)
      (λ c h. ap (λ (l : List ℕ). l ++ waiting-after W s ms c) (same c h)) y)))

  after_cycle : (s : State) (m : ℕ × ℕ) (ms : List (ℕ × ℕ)) → Continues s m ms (stepped_by net s words ends (cycle_from net words ends s m.0 m.1))
  after_cycle s m ms rec D W wt f y =
      let d : Signals = cycle_from net words ends s m.0 m.1 in
      let s' : State = next net words ends s m.0 m.1 in
      let U : ℕ → List ℕ = untaken d in
      let D' : ℕ → List ℕ = λ c. deliver d D c ++ later s' ms c in
      let W' : ℕ → List ℕ = waiting-after U s' ms in
      let known : Waits net words ends acc U s' = waits_next net words ends acc W s m.0 m.1 wt in
      let same : (c : ℕ) → c < net.channels → onward D (stepped_by net s words ends d) ms c ≡ D' c =
      λ c h. ap (λ (l : List ℕ). D c ++ (l ++ later s' ms c)) (marked-worked net o.fields s words ends d c h) ∙ sym (append_assoc (D c) (moved d c) (later s' ms c)) in
      let all : Begin (λ c. D' c ++ W' c) =
      begin_same (λ c. D' c ++ W' c) (λ c. onward D (stepped_by net s words ends d) ms c ++ W' c) (λ c h. ap (λ (l : List ℕ). l ++ W' c) (same c h)) y in
      let first : Begin (λ c. D c ++ offered d c) =
      λ b hb q. let c : ℕ = report net b in
      prefix_trans (D c ++ offered d c) (D' c ++ W' c) (chosen b)
      (rw (delivered_or_waits d D c, append_assoc (deliver d D c) (later s' ms c) (W' c))
      (prefix_under (deliver d D c) (U c) (later s' ms c ++ W' c) ((along net words ends acc ok ms s' U known).grows c (report_in net words ends acc b hb q)))) (all b hb q) in
      firings_same D' (onward D (stepped_by net s words ends d) ms) W' (last_from ok net s' (over words ends ms)) same
      (rec (deliver d D) U known (f.0 ++ order ++ order, follow-cycle s m.0 m.1 D first W f.0 f.1) all)

  goes_on : (ms : List (ℕ × ℕ)) (s : State) → GoesOn s ms
  goes_on [] s = λ D W wt f y. firings_same D (λ c. D c ++ []) W s (λ c h. append-nil (D c)) f
  goes_on (m ∷ ms) s =
      step-cases ok net s words ends m.0 m.1 (Continues s m ms) (λ z. after-refused s m ms (refusal_by ok net s words ends false 1) z) (λ p. after_cycle s m ms)
      (goes_on ms (step_by ok net s words ends m.0 m.1).state)

  -- after a list of steps from the fresh state
  pub from_fresh : (masks : List (ℕ × ℕ)) → let W : ℕ → List ℕ = waiting-after (λ c. []) (fresh_state net) masks in
      Begin (λ c. later (fresh_state net) masks c ++ W c) → Firings (later (fresh_state net) masks) W (last_from ok net (fresh_state net) (over words ends masks))
  from_fresh masks =
      goes_on masks (fresh_state net) (λ c. []) (λ c. []) (nothing_waits net words ends acc) (
        [],
        record {
          inside = λ b m. elim m [ ];
          simulates = sim_begin v w (regs_of (fresh_state net)) (λ b h.
              carried net words ends chosen (λ K. regs_of (fresh_state net) b ≡ fresh_reg K) (λ m cs e. e) b (fresh_regs net o.fields words ends b h));
          ever = λ c h. ((run v [] (start v)).puts c, refl);
        },
      )

  -- and with the words of one more cycle
  pub offers-after : (masks : List (ℕ × ℕ)) (offer ready : ℕ)
      → let s : State = last_from ok net (fresh_state net) (over words ends masks) in
      let all : ℕ → List ℕ = λ c. later (fresh_state net) masks c ++ offered (cycle_from net words ends s offer ready) c in
      Begin all → (F : List ℕ) × Inside F × ((c : ℕ) → c < net.channels → IsPrefix (all c) ((run v F (start v)).puts c))
  offers-after masks offer ready h =
      let s : State = last_from ok net (fresh_state net) (over words ends masks) in
      let g : Signals = cycle_from net words ends s offer ready in
      let D : ℕ → List ℕ = later (fresh_state net) masks in
      let W : ℕ → List ℕ = waiting-after (λ c. []) (fresh_state net) masks in
      let known : Waits net words ends acc W s = waiting net words ends acc ok masks in
      let f = from_fresh masks (λ b hb q.
      let c : ℕ = report net b in
      prefix_trans (D c ++ W c) (D c ++ offered g c) (chosen b)
      (prefix_under (D c) (W c) (offered g c) (known.stays offer ready c (report_in net words ends acc b hb q))) (h b hb q)) in
      (f.0 ++ order, inside-once f.0 f.1.inside, follow-offers s offer ready D h f.0 f.1.simulates)
