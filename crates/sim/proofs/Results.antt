-- What the tests say of a net's blocks, and that a cycle of the blocks is the net's step.
-- Assumes nothing.
use Rattle.std.proofs.Common.{◌≡◌, refl, sym, ap, ap₂, subst, ◌∙◌, Bool, true, false, cond, ◌&&◌, List, ℕ, ◌+◌, ◌≤◌, ◌<◌, arith, eqb, leb, ltb, eqb-true, ltb-true, ltb-false, lt-ltb, le-ltb, length, get_or}
use Rattle.blocks.specs.Folds.{one, all_below}
use Rattle.blocks.specs.Shape.{zero_reg, in_shape}
use Rattle.blocks.specs.Signals.{empty}
use Rattle.blocks.specs.States.{reg_in}
use Rattle.blocks.specs.declared.Net.{Net}
use Rattle.blocks.specs.declared.Reg.{Reg}
use Rattle.blocks.specs.declared.Sig.{Sig}
use Rattle.blocks.specs.declared.State.{State}
use Rattle.blocks.proofs.Folds.{and_1, and_2, all_at}
use Rattle.nets.specs.Net.{kind_count}
use Rattle.nets.specs.Verdict.{VerdictIs}
use Rattle.nets.specs.Verdict.{Accepted}
use Rattle.nets.proofs.Nets.{size-high}
use Rattle.cycles.specs.Streams.{ascend, ends_fit}
use Rattle.cycles.specs.Wires.{view_of}
use Rattle.cycles.specs.Cycle.{Signals, signals_of, next_at, moves}
use Rattle.cycles.specs.State.{tab, on_net, state_of, plain_kind, entry_shape, shape_ok}
use Rattle.cycles.specs.Step.{state_after}
use Rattle.cycles.proofs.States.{tab_is}
use Rattle.cycles.proofs.Solution.{unique}
use Rattle.ports.specs.Places.{sig_at, ready_at}
use Rattle.passes.specs.Rows.{in_kind, Shaped, Listed}
use Rattle.passes.specs.Passed.{next_no}
use Rattle.rows.specs.Ends.{stream_at, mask_at, Fitting}
use Rattle.rows.specs.Flat.{Ordered}
use Rattle.rows.specs.declared.Laid.{Laid}
use Rattle.rows.proofs.Ascends.{fitting_of}
use Rattle.signals.specs.Wires.{Worked, MovedIs}
use Rattle.sim.specs.Laid.{Given}
use Rattle.sim.proofs.Netted.{solved-of, next-same}

-- a state is made of a count and of the registers of its blocks
pub state_is : (net : Net) (f : ℕ → Reg) (s : State) (count : ℕ) → length s.words ≡ 64 → length s.marks ≡ 64 → s.count ≡ count → ((b : ℕ) → b < 64 → reg_in s b ≡ on_net net f b)
    → s ≡ state_of net count f
state_is net f s count words_long marks-long e h =
    let ws = tab_is 64 (λ b. (on_net net f b).word) s.words words_long (λ b l. ap (λ (z : Reg). z.word) (h b l)) in
    let ms = tab_is 64 (λ b. (on_net net f b).marks) s.marks marks-long (λ b l. ap (λ (z : Reg). z.marks) (h b l)) in
    λ i. record { count = e i; words = ws i; marks = ms i }

module _ (net : Net) (s : State) (few : net.size ≤ 64) (ok : shape_ok net s ≡ true) where
  entry_at : (b : ℕ) → b < 64 → entry_shape net s b ≡ true
  unfolding shape_ok
  entry_at b h = all_at (entry_shape net s) 64 (and_2 (leb s.count 1048576) (all_below (entry_shape net s) 64) ok) b h

  pub shaped_of : Shaped net s
  shaped_of b l = subst (λ (t : Bool). cond t (in_shape (plain_kind net b) (reg_in s b)) (zero_reg (reg_in s b)) ≡ true) (lt-ltb b net.size l) (entry_at b (omega arith))

  -- entries beyond the blocks are zero
  beyond-zero : (b : ℕ) → net.size ≤ b → b < 64 → reg_in s b ≡ empty
  beyond-zero b l h =
      let z : zero_reg (reg_in s b) ≡ true =
      subst (λ (t : Bool). cond t (in_shape (plain_kind net b) (reg_in s b)) (zero_reg (reg_in s b)) ≡ true) (le-ltb b net.size l) (entry_at b h) in
      let w : get_or s.words b 0 ≡ 0 = eqb-true (get_or s.words b 0) 0 (and_1 (eqb (get_or s.words b 0) 0) (eqb (get_or s.marks b 0) 0) z) in
      let m : get_or s.marks b 0 ≡ 0 = eqb-true (get_or s.marks b 0) 0 (and_2 (eqb (get_or s.words b 0) 0) (eqb (get_or s.marks b 0) 0) z) in
      λ i. record { word = w i; marks = m i }

module _ (net : Net) (stream ends list : List ℕ) (l : Listed net 0 list) where
  -- the ends by the list of sources are the net's
  pub fit_same : (eqb (length ends) (length list) && ascend 0 (length stream) ends) ≡ ends_fit net stream ends
  unfolding ends_fit kind_count
  fit_same = ap (λ (n : ℕ). eqb (length ends) n && ascend 0 (length stream) ends) l.count_is

  pub fit_by : (sources : List ℕ) → sources ≡ list → (long : ℕ) → long ≡ length stream → (t : Bool) → t ≡ (eqb (length ends) (length sources) && ascend 0 long ends) → t ≡ ends_fit net stream ends
  fit_by sources same long n t e =
      e ∙ ap₂ (λ (k n : ℕ). eqb (length ends) k && ascend 0 n ends) (ap length same) n ∙ fit_same

  pub fitting : ends_fit net stream ends ≡ true → Fitting (length list) (length stream) ends
  fitting fit = fitting_of (length list) (length stream) ends (fit_same ∙ fit)

-- what the signals of a cycle are worked out from, of a state in shape and ends that fit
pub given_of : (net : Net) (s : State) (words ends : List ℕ) (laid : Laid) → laid.net.now ≡ net → Ordered laid → shape_ok net s ≡ true → ends_fit net words ends ≡ true → Given net s words ends laid
given_of net s words ends laid same ordered ok fit =
    let ok' : shape_ok laid.net.now s ≡ true = rw same ok in
    let fit' : ends_fit laid.net.now words ends ≡ true = rw same fit in
    record {
      same_net = same;
      ordered = ordered;
      tested = rw (ok, fit);
      shaped = shaped_of laid.net.now s laid.rowed.few ok';
      fitting = fitting laid.net.now words ends (in_kind laid.sorted 0) (laid.kinds.listed 0 (omega arith)) fit';
    }

-- the parts of a step's answer
module _ (net : Net) (acc : VerdictIs net Accepted) (s : State) (ok : shape_ok net s ≡ true) (stream ends : List ℕ) (fit : ends_fit net stream ends ≡ true) (offer ready : ℕ)
    (signals : List Sig) (taken : List Bool) (w : Worked net (stream_at net stream ends) (mask_at net offer ready) (reg_in s) (sig_at signals) (ready_at taken)) where
  abbrev g : Signals
  g = signals_of net stream ends offer ready (reg_in s)

  -- the signals in the arrays are those of the cycle
  pub signals_are : (c : ℕ) → c < net.channels → (sig_at signals c ≡ g.shows c) × (ready_at taken c ≡ g.ready c)
  signals_are =
      unique net stream ends acc offer ready (reg_in s) (sig_at signals) (ready_at taken)
      (solved-of net acc.0.fields acc.0.joins stream ends fit offer ready (reg_in s) (sig_at signals) (ready_at taken) w)

  moves_are : (c : ℕ) → (ltb c net.channels && ((sig_at signals c).valid && ready_at taken c)) ≡ moves net g c
  moves_are c = by (ltb c net.channels) refl
    where
      by : (t : Bool) → ltb c net.channels ≡ t → (t && ((sig_at signals c).valid && ready_at taken c)) ≡ (t && ((g.shows c).valid && g.ready c))
      by true e = let q = signals_are c (ltb-true c net.channels e) in ap₂ ◌&&◌ (ap (λ (z : Sig). z.valid) q.0) q.1
      by false e = refl

  pub marks_are : (delivered words : List ℕ) → MovedIs net.channels (sig_at signals) (ready_at taken) delivered words → delivered ≡ tab 128 (λ c. one (moves net g c))
  marks_are delivered words m =
      tab_is 128 (λ c. one (moves net g c)) delivered m.marks-long (λ c h. m.mark c h ∙ ap one (moves_are c))

  pub words_are : (delivered words : List ℕ) → MovedIs net.channels (sig_at signals) (ready_at taken) delivered words
      → words ≡ tab 128 (λ c. cond (moves net g c) (g.shows c).word 0)
  words_are delivered words m =
      tab_is 128 (λ c. cond (moves net g c) (g.shows c).word 0) words m.words_long (λ c h. m.word c h ∙ carried c (ltb c net.channels) refl)
    where
      carried : (c : ℕ) (t : Bool) → ltb c net.channels ≡ t
          → cond (ltb c net.channels && ((sig_at signals c).valid && ready_at taken c)) (sig_at signals c).word 0 ≡ cond (moves net g c) (g.shows c).word 0
      carried c true e =
          let q = signals_are c (ltb-true c net.channels e) in
          ap (λ (x : ℕ). cond (ltb c net.channels && ((sig_at signals c).valid && ready_at taken c)) x 0) (ap (λ (z : Sig). z.word) q.0)
          ∙ ap (λ (t : Bool). cond t (g.shows c).word 0) (moves_are c)
      carried c false e =
          ap (λ (t : Bool). cond (t && ((sig_at signals c).valid && ready_at taken c)) (sig_at signals c).word 0) e
          ∙ sym (ap (λ (t : Bool). cond (t && ((g.shows c).valid && g.ready c)) (g.shows c).word 0) e)

  -- the state that a cycle leaves, its count one higher
  pub after_is : (after : State) → length after.words ≡ 64 → length after.marks ≡ 64 → after.count ≡ s.count + 1
      → ((b : ℕ) → b < net.size → reg_in after b ≡ next_no net (stream_at net stream ends) (mask_at net offer ready) (reg_in s) (sig_at signals) (ready_at taken) b)
      → ((b : ℕ) → net.size ≤ b → reg_in after b ≡ reg_in s b) → after ≡ state_after net s stream ends g
  after_is after words_long marks-long count inside beyond =
      state_is net (next_at (view_of net stream ends) g (reg_in s)) after (s.count + 1) words_long marks-long count (λ b h. by b h (ltb b net.size) refl)
    where
      by : (b : ℕ) → b < 64 → (t : Bool) → ltb b net.size ≡ t → reg_in after b ≡ cond (ltb b net.size) (next_at (view_of net stream ends) g (reg_in s) b) empty
      by b h true e =
          let l : b < net.size = ltb-true b net.size e in
          rw e (inside b l ∙ next-same net acc.0.fields acc.0.joins stream ends fit offer ready (reg_in s) (sig_at signals) (ready_at taken) w g signals_are b l)
      by b h false e =
          let l : net.size ≤ b = ltb-false b net.size e in
          rw e (beyond b l ∙ beyond-zero net s (size-high net acc.0.fields) ok b l h)

-- a list filled with one field of each block's registers is the state's list
pub filled-tab : (net : Net) (f : ℕ → Reg) (get : Reg → ℕ) (d : List ℕ) → get empty ≡ 0 → length d ≡ 64
    → ((k : ℕ) → k < 64 → get_or d k 0 ≡ cond (ltb k net.size && true) (get (f k)) 0) → d ≡ tab 64 (λ b. get (on_net net f b))
filled-tab net f get d none long h =
    tab_is 64 (λ b. get (on_net net f b)) d long (λ k l. h k l ∙ by k (ltb k net.size))
  where
    by : (k : ℕ) (t : Bool) → cond (t && true) (get (f k)) 0 ≡ get (cond t (f k) empty)
    by k true = refl
    by k false = sym none
