-- A step is refused, and returns the state handed in, or it is a cycle, and its count is one higher. Of an accepted net it keeps the shape of the state.
-- Assumes nothing.
use Prim.Native.Nat.{ℕ, ◌+◌, ◌≤◌, ◌<◌}
use mathlib.Core.Path.{◌≡◌, refl, sym, ap, ◌∙◌, subst}
use mathlib.Core.Bool.{Bool, true, false, cond, not}
use mathlib.Core.List.{List}
use native.Mathlib.Omega.{arith}
use borrow.Author.Tests.{eqb-true, eqb-false, eq-eqb, ne_eqb, ltb-false, lt-ltb}
use lib.Dec.{eqb, leb, ltb}
use lib.ListN.{get_or}
use Rattle.blocks.specs.Folds.{one, all_below}
use Rattle.blocks.specs.Kinds.{Kind}
use Rattle.blocks.specs.Ports.{n_out}
use Rattle.blocks.specs.Signals.{valid_at}
use Rattle.blocks.specs.Equations.{out_of, ready_of, next_of}
use Rattle.blocks.specs.Shape.{in_shape}
use Rattle.blocks.specs.declared.Sig.{Sig}
use Rattle.blocks.specs.declared.Reg.{Reg}
use Rattle.blocks.proofs.Folds.{and_2, all_at}
use Rattle.blocks.proofs.Options.{test}
use Rattle.blocks.proofs.Local.{ready_reads, next_local}
use Rattle.blocks.proofs.Shapes.{shape_next}
use Rattle.nets.specs.Net.{block_at, fields_ok}
use Rattle.nets.specs.Verdict.{VerdictIs}
use Rattle.blocks.specs.declared.Net.{Net}
use Rattle.nets.specs.Verdict.{Accepted}
use Rattle.nets.proofs.Nets.{size-high, m-ok}
use Rattle.cycles.specs.Streams.{stream_of, ends_fit, mask_of}
use Rattle.cycles.specs.Wires.{kind_at, view_of}
use Rattle.cycles.specs.Cycle.{Signals, signals_of, next_at, moves}
use Rattle.cycles.specs.State.{regs_of, plain_kind, entry_shape, shape_ok}
use Rattle.cycles.specs.Step.{refusal_by, refused_step, stepped_by, step_by}
use Rattle.cycles.specs.Solved.{Solved}
use Rattle.blocks.specs.declared.State.{State}
use Rattle.cycles.specs.declared.Stepped.{Stepped}
use Rattle.blocks.proofs.Numbers.{shape_plain, copies}
use Rattle.cycles.proofs.Solution.{solves}
use Rattle.cycles.proofs.States.{get_d_tab, shape_of}

-- what is known where nothing is refused
pub record Passes (ok : Bool) (net : Net) (s : State) (words ends : List ℕ) (odd : Bool) (n : ℕ) : Type 0 where
  pub accepted : ok ≡ true
  pub in_shape_lem : shape_ok net s ≡ true
  pub fitting : ends_fit net words ends ≡ true
  pub even : odd ≡ false
  pub room : s.count + n ≤ 1048576

module _ (ok : Bool) (net : Net) (s : State) (words ends : List ℕ) where
  pub passes : (odd : Bool) (n : ℕ) → refusal_by ok net s words ends odd n ≡ 0 → Passes ok net s words ends odd n
  unfolding refusal_by
  passes odd n e = by ok (shape_ok net s) (ends_fit net words ends) odd (ltb 1048576 (s.count + n)) refl refl refl refl refl e
    where
      by : (a b c d f : Bool) → ok ≡ a → shape_ok net s ≡ b → ends_fit net words ends ≡ c → odd ≡ d → ltb 1048576 (s.count + n) ≡ f
          → ◌≡◌ {A = ℕ} (cond (not a) 12 (cond (not b) 13 (cond (not c) 14 (cond d 15 (cond f 16 0))))) 0 → Passes ok net s words ends odd n
      by false b c d f p q r t u z = absurd (omega arith)
      by true false c d f p q r t u z = absurd (omega arith)
      by true true false d f p q r t u z = absurd (omega arith)
      by true true true true f p q r t u z = absurd (omega arith)
      by true true true false true p q r t u z = absurd (omega arith)
      by true true true false false p q r t u z =
          record { accepted = p; in_shape_lem = q; fitting = r; even = t; room = ltb-false 1048576 (s.count + n) u }

  module _ (offer ready : ℕ) where
    abbrev refusal : ℕ
    refusal = refusal_by ok net s words ends false 1

    abbrev answer : Stepped
    answer = step_by ok net s words ends offer ready

    -- the two answers of a step
    pub step_refused : (refusal ≡ 0 → ⊥) → answer ≡ refused_step refusal s
    unfolding step_by
    step_refused n = rw (ne_eqb refusal 0 n)

    pub step-worked : refusal ≡ 0 → answer ≡ stepped_by net s words ends (signals_of net words ends offer ready (regs_of s))
    unfolding step_by
    step-worked e = rw (eq-eqb refusal 0 e)

    -- so what holds of both holds of a step
    pub step-cases : (C : Stepped → Type 0) → ((refusal ≡ 0 → ⊥) → C (refused_step refusal s))
        → (Passes ok net s words ends false 1 → C (stepped_by net s words ends (signals_of net words ends offer ready (regs_of s)))) → C answer
    step-cases C refuses works =
        test (eqb refusal 0)
        (λ q. let e : refusal ≡ 0 = eqb-true refusal 0 q in subst C (sym (step-worked e)) (works (passes false 1 e)))
        (λ q. let e : refusal ≡ 0 → ⊥ = eqb-false refusal 0 q in subst C (sym (step_refused e)) (refuses e))

    -- the count of a step that is not refused rises by one
    pub count_rises : refusal ≡ 0 → answer.state.count ≡ s.count + 1
    count_rises e = ap (λ (t : Stepped). t.state.count) (step-worked e)

-- the delivery marks and the words of a cycle, channel by channel
module _ (net : Net) (s : State) (words ends : List ℕ) (g : Signals) (c : ℕ) (h : c < 128) where
  pub mark_at : get_or (stepped_by net s words ends g).delivered c 0 ≡ one (moves net g c)
  mark_at = get_d_tab 128 (λ c. one (moves net g c)) 0 c h

  pub word_at : get_or (stepped_by net s words ends g).words c 0 ≡ cond (moves net g c) (g.shows c).word 0
  word_at = get_d_tab 128 (λ c. cond (moves net g c) (g.shows c).word 0) 0 c h

-- the shape of a block's registers in a state that is in shape
pub entry_shape_lem : (net : Net) (s : State) → shape_ok net s ≡ true → (b : ℕ) → b < 64 → b < net.size → in_shape (plain_kind net b) (regs_of s b) ≡ true
unfolding shape_ok
entry_shape_lem net s e b h l =
    let q : entry_shape net s b ≡ true = all_at (entry_shape net s) 64 (and_2 (leb s.count 1048576) (all_below (entry_shape net s) 64) e) b h in rw (lt-ltb b net.size l) at q

module _ (net : Net) (words ends : List ℕ) (fields : fields_ok net ≡ true) where
  -- the next registers, where the signals satisfy the equations
  pub next_shape : (offer ready : ℕ) (r : ℕ → Reg) (g : Signals) → Solved net words ends offer ready r g.shows g.ready
      → (b : ℕ) → b < net.size → in_shape (plain_kind net b) (r b) ≡ true → in_shape (plain_kind net b) (next_at (view_of net words ends) g r b) ≡ true
  next_shape offer ready r g sol b h e =
      let K : Kind = kind_at net words ends b in
      let mask : Bool = mask_of net offer ready b in
      let x : ℕ → Sig = λ i. g.shows ((view_of net words ends).inp b i) in
      let y : ℕ → Bool = λ j. g.ready ((view_of net words ends).out b j) in
      let shown : (j : ℕ) → j < n_out K → (g.shows ((view_of net words ends).out b j)).valid ≡ (out_of K mask (r b) x j).valid =
      λ j q. ap (λ (z : Sig). z.valid) (sol.showing b j h q) in
      let next : next_at (view_of net words ends) g r b ≡ next_of K (r b) x (ready_of K mask (r b) x (valid_at (out_of K mask (r b) x)) y) (valid_at (out_of K mask (r b) x)) y =
      next_local K (r b) x x _ _ _ _ y y (λ i q. refl) (λ i q. sol.taking b i h q ∙ ready_reads K mask (r b) x x _ _ y (λ k l. refl) shown i) shown (λ j q. refl) in
      sym (plain (next_at (view_of net words ends) g r b)) ∙ ap (in_shape K) next
      ∙ shape_next K (copies (block_at net b).m (block_at net b).value (stream_of net words ends b) (block_at net b).kind (m-ok net fields b h)) mask (r b) x y (plain (r b) ∙ e)
    where
      plain : (q : Reg) → in_shape (kind_at net words ends b) q ≡ in_shape (plain_kind net b) q
      plain q = shape_plain (block_at net b).m (block_at net b).value (stream_of net words ends b) q (block_at net b).kind

-- A step of an accepted net returns a state in shape where it is given one.
pub shape_kept : (ok : Bool) (net : Net) → VerdictIs net Accepted → (s : State) (words ends : List ℕ) (offer ready : ℕ) → shape_ok net s ≡ true
    → shape_ok net (step_by ok net s words ends offer ready).state ≡ true
shape_kept ok net acc s words ends offer ready e =
    let fields : fields_ok net ≡ true = acc.0.fields in
    step-cases ok net s words ends offer ready (λ t. shape_ok net t.state ≡ true) (λ n. e)
    (λ p. let g : Signals = signals_of net words ends offer ready (regs_of s) in
    shape_of net (s.count + 1) (next_at (view_of net words ends) g (regs_of s)) p.room
    (λ b h. next_shape net words ends fields offer ready (regs_of s) g (solves net words ends acc offer ready (regs_of s)) b h
    (entry_shape_lem net s e b (omega (arith, size-high net fields)) h)))
