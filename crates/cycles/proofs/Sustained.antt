-- A channel that is valid and does not deliver shows the same word in the next cycle over the same streams, whatever the masks: from what holds of each block
-- (`stays` of crate blocks) along the data order. It holds from every state, in shape or not, merges included.
-- Assumes nothing.
use Prim.Native.Nat.{ℕ, zero, suc, ◌+◌, ◌<◌}
use mathlib.Core.Path.{◌≡◌, sym, ap, ◌∙◌, subst}
use mathlib.Core.Bool.{Bool, true, false}
use mathlib.Core.List.{List}
use native.Mathlib.Omega.{arith}
use Rattle.blocks.specs.Ports.{n_in, n_out}
use Rattle.blocks.specs.Equations.{out_of}
use Rattle.blocks.specs.declared.Sig.{Sig}
use Rattle.blocks.specs.declared.Reg.{Reg}
use Rattle.blocks.proofs.Local.{waits}
use Rattle.blocks.proofs.Stays.{stays}
use Rattle.nets.specs.Verdict.{VerdictIs}
use Rattle.blocks.specs.declared.Net.{Net}
use Rattle.nets.specs.Verdict.{Accepted}
use Rattle.cycles.specs.Streams.{mask_of}
use Rattle.cycles.specs.Wires.{View, view_of, producer, out_port}
use Rattle.cycles.specs.Cycle.{Signals, signals_of, next_at}
use Rattle.cycles.specs.State.{regs_of}
use Rattle.cycles.specs.Step.{refusal_by, state_after, step_by}
use Rattle.cycles.specs.Solved.{Solved}
use Rattle.blocks.specs.declared.State.{State}
use Rattle.cycles.specs.declared.Stepped.{Stepped}
use Rattle.cycles.proofs.Joins.{inp_range, leaves}
use Rattle.cycles.proofs.Solution.{Orders, orders, earlier, solves}
use Rattle.cycles.proofs.States.{regs_of_lem}
use Rattle.cycles.proofs.Steps.{step-worked}

-- what channel c shows in one cycle, where it is valid and does not deliver, it shows in the other
abbrev pub Keeps : Signals → Signals → ℕ → Type 0
Keeps g g' c = (g.shows c).valid ≡ true → g.ready c ≡ false → g'.shows c ≡ g.shows c

-- Two cycles one after the other: the registers of the second are the next ones of the first.
module _ (net : Net) (words ends : List ℕ) (o : Orders net) (offer ready offer' ready' : ℕ) (r r' : ℕ → Reg) (g g' : Signals)
    (solved : Solved net words ends offer ready r g.shows g.ready)
    (solved' : Solved net words ends offer' ready' r' g'.shows g'.ready)
    (next : (b : ℕ) → b < net.size → r' b ≡ next_at (view_of net words ends) g r b) where
  abbrev v : View
  v = view_of net words ends

  abbrev mask : ℕ → Bool
  mask = mask_of net offer ready

  abbrev mask' : ℕ → Bool
  mask' = mask_of net offer' ready'

  -- at output j of block b, from its inputs
  at_output : (b j : ℕ) → b < net.size → j < n_out (v.kind b) → (waits (v.kind b) ≡ true → (i : ℕ) → i < n_in (v.kind b) → Keeps g g' (v.inp b i))
      → Keeps g g' (v.out b j)
  at_output b j hb hj held e q =
      solved'.showing b j hb hj
      ∙ ap (λ (a : Reg). out_of (v.kind b) (mask' b) a (λ i. g'.shows (v.inp b i)) j) (next b hb)
      ∙ stays (mask b) (mask' b) (r b) (λ i. g.shows (v.inp b i)) (λ i. g'.shows (v.inp b i)) (λ i. g.ready (v.inp b i)) (λ j. (g.shows (v.out b j)).valid) (λ j. g.ready (v.out b j))
      (v.kind b)
      (record {
        showing = λ k hk. ap (λ (z : Sig). z.valid) (solved.showing b k hb hk);
        taking = λ i hi. solved.taking b i hb hi;
        holding = held;
      }) j hj (ap (λ (z : Sig). z.valid) (sym (solved.showing b j hb hj)) ∙ e) q
      ∙ sym (solved.showing b j hb hj)

  -- along the data order
  keeps : (n c : ℕ) → c < net.channels → o.data_order.place (producer net c) < n → Keeps g g' c
  keeps zero c hc l = absurd (omega arith)
  keeps (suc n) c hc l =
      let p = leaves net words ends o.fields o.joins c hc in
      subst (Keeps g g') p.2
      (at_output (producer net c) (out_port net c) p.0 p.1
      (λ wt i hi. let less = earlier net words ends o.fields o.joins o.forth o.data_order (producer net c) i p.0 wt hi in
      keeps n (v.inp (producer net c) i) (inp_range net words ends o.fields o.joins (producer net c) i p.0 hi) (omega (arith, less))))

  pub all_keep : (c : ℕ) → c < net.channels → Keeps g g' c
  all_keep c hc = keeps (suc (o.data_order.place (producer net c))) c hc (omega arith)

module _ (net : Net) (acc : VerdictIs net Accepted) (words ends : List ℕ) (offer ready offer' ready' : ℕ) where
  -- the cycle from a state, and one from the state after it
  pub keeps_after : (s : State) (c : ℕ) → c < net.channels
      → Keeps (signals_of net words ends offer ready (regs_of s))
      (signals_of net words ends offer' ready' (regs_of (state_after net s words ends (signals_of net words ends offer ready (regs_of s))))) c
  keeps_after s =
      let o : Orders net = orders net acc in
      let g : Signals = signals_of net words ends offer ready (regs_of s) in
      let s' : State = state_after net s words ends g in
      all_keep net words ends o offer ready offer' ready' (regs_of s) (regs_of s') g (signals_of net words ends offer' ready' (regs_of s'))
      (solves net words ends acc offer ready (regs_of s)) (solves net words ends acc offer' ready' (regs_of s'))
      (λ b hb. regs_of_lem net o.fields (s.count + 1) (next_at (view_of net words ends) g (regs_of s)) b hb)

  -- a step that is not refused, and a cycle from the state that it returns
  pub keeps_stepped : (ok : Bool) (s : State) → refusal_by ok net s words ends false 1 ≡ 0 → (c : ℕ) → c < net.channels
      → Keeps (signals_of net words ends offer ready (regs_of s)) (signals_of net words ends offer' ready' (regs_of (step_by ok net s words ends offer ready).state)) c
  keeps_stepped ok s e c hc =
      subst (λ (t : Stepped). Keeps (signals_of net words ends offer ready (regs_of s)) (signals_of net words ends offer' ready' (regs_of t.state)) c)
      (sym (step-worked ok net s words ends offer ready e)) (keeps_after s c hc)
