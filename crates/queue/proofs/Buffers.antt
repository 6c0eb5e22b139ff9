-- A buffer's words over a list of steps: one cycle of a buffer, kind by kind, and then every list of steps. Nothing is asked of the other blocks, and the streams
-- may change at each step.
-- Assumes nothing.
use Prim.Native.Nat.{ℕ, ◌+◌, ◌<◌}
use mathlib.Core.Path.{◌≡◌, refl, sym, ap, ◌∙◌, subst, subst₂}
use mathlib.Core.Bool.{Bool, true, false, cond, and-false}
use mathlib.Core.List.{List, [], ◌∷◌, ◌++◌, append-nil, append_assoc}
use mathlib.Core.Option.{Option, none, some}
use native.Mathlib.Omega.{arith}
use borrow.Author.Tests.{ne_eqb}
use lib.ListN.{get_or}
use Rattle.blocks.specs.Kinds.{buffer, control, kind_of}
use Rattle.blocks.specs.Ports.{n_in, n_out}
use Rattle.blocks.specs.Signals.{full}
use Rattle.blocks.specs.Equations.{fresh_reg}
use Rattle.blocks.specs.Firing.{first}
use Rattle.blocks.specs.declared.Sig.{Sig}
use Rattle.blocks.specs.declared.Reg.{Reg}
use Rattle.blocks.proofs.Folds.{clash}
use Rattle.blocks.proofs.Options.{test}
use Rattle.nets.specs.Block.{ins}
use Rattle.nets.specs.Net.{block_at}
use Rattle.blocks.specs.declared.Net.{Net}
use Rattle.nets.proofs.Nets.{channels-high}
use Rattle.cycles.specs.Streams.{stream_of, mask_of}
use Rattle.cycles.specs.Wires.{view_of, kind_at}
use Rattle.cycles.specs.Cycle.{Signals, signals_of, next_at}
use Rattle.cycles.specs.State.{regs_of, plain_kind, fresh_state}
use Rattle.cycles.specs.Step.{refused_step, refusal_by, stepped_by}
use Rattle.blocks.specs.declared.State.{State}
use Rattle.cycles.specs.declared.Stepped.{Stepped}
use Rattle.blocks.proofs.Numbers.{beyond, by_kind}
use Rattle.cycles.proofs.Joins.{ins_are, inp_range, out_range}
use Rattle.cycles.proofs.Solution.{solves}
use Rattle.cycles.proofs.States.{regs_of_lem}
use Rattle.cycles.proofs.Steps.{step-cases}
use Rattle.queue.specs.Delivered.{Input, step_on, marked, delivered_from, last_from}
use Rattle.queue.specs.History.{holds}
use Rattle.queue.specs.Claims.{IsAccepted, any_buffer}
use Rattle.queue.proofs.Cycle.{PortSignals, came, gone, Works, keeps}
use Rattle.queue.proofs.Circuit.{ports_at, cycles}
use Rattle.queue.proofs.Marks.{marked_refused, marked-worked}

-- ## One cycle

-- the words of one cycle at the input and at the output
abbrev came_words : PortSignals → List ℕ
came_words p = cond (came p 0) ((p.in_sig 0).word ∷ []) []

abbrev gone_words : PortSignals → List ℕ
gone_words p = cond (gone p 0) ((p.out_sig 0).word ∷ []) []

module _ (mask : Bool) (p : PortSignals) (r r' : Reg) (xs ys : List ℕ) where
  data_step : (o : Option ℕ) → Works (buffer o) mask p r r' → ys ++ holds r ≡ first (buffer o) ++ xs → ys ++ gone_words p ++ holds r' ≡ first (buffer o) ++ (xs ++ came_words p)
  data_step o s h =
      let shows : p.out_sig 0 ≡ record { valid = full r; word = cond (full r) r.word 0 } = s.showing 0 (omega arith) in
      let valid : (p.out_sig 0).valid ≡ full r = ap (λ (a : Sig). a.valid) shows in
      test (p.in_r 0)
      (λ a. let given : ys ++ gone_words p ≡ first (buffer o) ++ xs =
      test (full r)
      (λ z. let y : p.out_r 0 ≡ true = (rw z at (sym (s.taking 0 (omega arith)) ∙ a)) in rw (valid, shows, z, y) (rw z at h))
      (λ z. rw (valid, shows, z) (rw z at h)) in
      let taken : holds r' ≡ came_words p = test (p.in_sig 0).valid (λ v. rw (s.going, a, v)) (λ v. rw (s.going, a, v)) in
      ap (λ (l : List ℕ). l ++ holds r') given ∙ append_assoc (first (buffer o)) xs (holds r') ∙ ap (λ (l : List ℕ). first (buffer o) ++ (xs ++ l)) taken)
      (λ a. let k = keeps (full r) (p.out_r 0) (sym (s.taking 0 (omega arith)) ∙ a) in
      let kept : holds r' ≡ holds r = rw (s.going, a) in
      rw (k.1, and-false (p.out_sig 0).valid, a, and-false (p.in_sig 0).valid, kept) (simp append-nil h))

  control_step : Works control mask p r r' → ys ++ holds r ≡ xs → ys ++ gone_words p ++ holds r' ≡ xs ++ came_words p
  control_step s h =
      let shows = s.showing 0 (omega arith) in
      let valid = ap (λ (a : Sig). a.valid) shows in
      let ready = s.taking 0 (omega arith) in
      test (full r)
      (λ z. let h' : ys ++ (r.word ∷ []) ≡ xs = (rw z at h) in
      test (p.out_r 0)
      (λ y. rw (valid, shows, ready, s.going, z, y, and-false (p.in_sig 0).valid) (simp append-nil h'))
      (λ y. let kept : holds r' ≡ r.word ∷ [] = rw (s.going, z, y, z) in
      rw (y, and-false (p.out_sig 0).valid, kept, ready, z, and-false (p.in_sig 0).valid) (simp append-nil h')))
      (λ z. let h' : ys ≡ xs = sym (append-nil ys) ∙ (rw z at h) in
      test (p.in_sig 0).valid
      (λ v. test (p.out_r 0)
      (λ y. rw (valid, shows, ready, s.going, z, v, y, h') (simp append-nil))
      (λ y. rw (y, and-false (p.out_sig 0).valid, ready, s.going, z, v, y, h') (simp append-nil)))
      (λ v. rw (valid, shows, s.going, z, v, h') (simp append-nil)))

-- ## The kinds of buffer by number

no_buffer : (k : ℕ) → 10 < k → any_buffer k ≡ false
no_buffer k h = rw (ne_eqb k 8 (λ e. omega arith), ne_eqb k 9 (λ e. omega arith), ne_eqb k 10 (λ e. omega arith))

-- what holds of the buffers by name holds of them by number
by_buffer : (P : ℕ → Type 0) → P 8 → P 9 → P 10 → (k : ℕ) → any_buffer k ≡ true → P k
by_buffer P p8 p9 p10 =
    by_kind (λ k. any_buffer k ≡ true → P k) (λ i. clash i refl) (λ i. clash i refl) (λ i. clash i refl) (λ i. clash i refl) (λ i. clash i refl) (λ i. clash i refl) (λ i. clash i refl)
    (λ i. clash i refl) (λ i. p8) (λ i. p9) (λ i. p10) (λ k i. clash i (no_buffer (beyond k) (omega arith)))

module _ (m value : ℕ) (stream : List ℕ) where
  one_in : (k : ℕ) → any_buffer k ≡ true → n_in (kind_of k m value stream) ≡ 1
  one_in = by_buffer (λ k. n_in (kind_of k m value stream) ≡ 1) refl refl refl

  one_out : (k : ℕ) → any_buffer k ≡ true → n_out (kind_of k m value stream) ≡ 1
  one_out = by_buffer (λ k. n_out (kind_of k m value stream) ≡ 1) refl refl refl

  fresh_holds : (k : ℕ) → any_buffer k ≡ true → holds (fresh_reg (kind_of k m value [])) ≡ first (kind_of k m value [])
  fresh_holds = by_buffer (λ k. holds (fresh_reg (kind_of k m value [])) ≡ first (kind_of k m value [])) refl refl refl

  one_step : (mask : Bool) (p : PortSignals) (r r' : Reg) (xs ys : List ℕ) (k : ℕ) → any_buffer k ≡ true → Works (kind_of k m value stream) mask p r r'
      → ys ++ holds r ≡ first (kind_of k m value []) ++ xs → ys ++ gone_words p ++ holds r' ≡ first (kind_of k m value []) ++ (xs ++ came_words p)
  one_step mask p r r' xs ys =
      by_buffer
      (λ k. Works (kind_of k m value stream) mask p r r' → ys ++ holds r ≡ first (kind_of k m value []) ++ xs → ys ++ gone_words p ++ holds r' ≡ first (kind_of k m value []) ++ (xs ++ came_words p))
      (data_step mask p r r' xs ys none) (data_step mask p r r' xs ys (some value)) (control_step mask p r r' xs ys)

-- ## A list of steps

module _ (ok : Bool) (net : Net) (acc : IsAccepted net) (b : ℕ) (hb : b < net.size) (i : any_buffer (block_at net b).kind ≡ true) where
  -- the channels at the buffer's ports
  abbrev into : ℕ
  into = (view_of net [] []).inp b 0

  abbrev from : ℕ
  from = (view_of net [] []).out b 0

  into_in : into < net.channels
  into_in =
      inp_range net [] [] acc.0.fields acc.0.joins b 0 hb
      (omega (arith, one_in (block_at net b).m (block_at net b).value (stream_of net [] [] b) (block_at net b).kind i))

  from_in : from < net.channels
  from_in =
      out_range net [] [] acc.0.fields acc.0.joins b 0 hb
      (omega (arith, one_out (block_at net b).m (block_at net b).value (stream_of net [] [] b) (block_at net b).kind i))

  -- the law after xs came in and ys went out
  abbrev Keeps : List ℕ → List ℕ → State → Type 0
  Keeps xs ys s = ys ++ holds (regs_of s b) ≡ first (plain_kind net b) ++ xs

  abbrev StepKeeps : State → Stepped → Type 0
  StepKeeps s t = (xs ys : List ℕ) → Keeps xs ys s → Keeps (xs ++ marked t into) (ys ++ marked t from) t.state

  after-refused : (s : State) (n : ℕ) → StepKeeps s (refused_step n s)
  after-refused s n xs ys h =
      rw (marked_refused n s into (omega (arith, into_in, channels-high net acc.0.fields)), marked_refused n s from (omega (arith, from_in, channels-high net acc.0.fields)))
      (simp append-nil h)

  after_cycle : (s : State) (n : Input) → StepKeeps s (stepped_by net s n.words n.ends (signals_of net n.words n.ends n.offer n.ready (regs_of s)))
  after_cycle s n xs ys h =
      let g : Signals = signals_of net n.words n.ends n.offer n.ready (regs_of s) in
      let mask : ℕ → Bool = mask_of net n.offer n.ready in
      let r' : ℕ → Reg = regs_of (stepped_by net s n.words n.ends g).state in
      let works : Works (kind_at net n.words n.ends b) (mask b) (ports_at (view_of net n.words n.ends) g b) (regs_of s b) (r' b) =
      cycles (view_of net n.words n.ends) mask g (regs_of s) r' (solves net n.words n.ends acc n.offer n.ready (regs_of s))
      (λ a q. regs_of_lem net acc.0.fields (s.count + 1) (next_at (view_of net n.words n.ends) g (regs_of s)) a q) b hb in
      subst₂ (λ (l k : List ℕ). Keeps (xs ++ l) (ys ++ k) (stepped_by net s n.words n.ends g).state)
      (sym (marked-worked net acc.0.fields s n.words n.ends g into into_in)) (sym (marked-worked net acc.0.fields s n.words n.ends g from from_in))
      (one_step (block_at net b).m (block_at net b).value (stream_of net n.words n.ends b) (mask b) (ports_at (view_of net n.words n.ends) g b) (regs_of s b) (r' b) xs ys
      (block_at net b).kind i works h)

  every_step : (s : State) (n : Input) → StepKeeps s (step_on ok net s n)
  every_step s n =
      step-cases ok net s n.words n.ends n.offer n.ready (StepKeeps s)
      (λ e. after-refused s (refusal_by ok net s n.words n.ends false 1)) (λ p. after_cycle s n)

  keeps_on : (ns : List Input) (s : State) (xs ys : List ℕ) → Keeps xs ys s
      → Keeps (xs ++ delivered_from ok net s ns into) (ys ++ delivered_from ok net s ns from) (last_from ok net s ns)
  keeps_on [] s xs ys h = rw (append-nil xs, append-nil ys) h
  keeps_on (n ∷ ns) s xs ys h =
      let t : Stepped = step_on ok net s n in
      subst₂ (λ (l k : List ℕ). Keeps l k (last_from ok net t.state ns)) (append_assoc xs (marked t into) (delivered_from ok net t.state ns into))
      (append_assoc ys (marked t from) (delivered_from ok net t.state ns from))
      (keeps_on ns t.state (xs ++ marked t into) (ys ++ marked t from) (every_step s n xs ys h))

  -- the output is port 1
  port_one : ins (block_at net b) + 0 ≡ 1
  port_one =
      omega (arith, ins_are net [] [] acc.0.fields acc.0.joins b hb, one_in (block_at net b).m (block_at net b).value (stream_of net [] [] b) (block_at net b).kind i)

  pub from_fresh : (ns : List Input)
      → delivered_from ok net (fresh_state net) ns (get_or (block_at net b).ports 1 0) ++ holds (regs_of (last_from ok net (fresh_state net) ns) b)
      ≡ first (plain_kind net b) ++ delivered_from ok net (fresh_state net) ns (get_or (block_at net b).ports 0 0)
  from_fresh ns =
      let fresh : holds (regs_of (fresh_state net) b) ≡ first (plain_kind net b) =
      ap holds (regs_of_lem net acc.0.fields 0 (λ a. fresh_reg (plain_kind net a)) b hb) ∙ fresh_holds (block_at net b).m (block_at net b).value [] (block_at net b).kind i in
      subst
      (λ (k : ℕ). delivered_from ok net (fresh_state net) ns (get_or (block_at net b).ports k 0) ++ holds (regs_of (last_from ok net (fresh_state net) ns) b)
      ≡ first (plain_kind net b) ++ delivered_from ok net (fresh_state net) ns into)
      port_one (keeps_on ns (fresh_state net) [] [] (fresh ∙ sym (append-nil (first (plain_kind net b)))))
