-- What is promised of a chain (change request 9), over the definition of the call's own answer.
-- Assumes nothing.
use Prim.Native.Nat.{ℕ, ◌≤◌, ◌<◌}
use mathlib.Core.Path.{◌≡◌, refl, sym, ap, subst, ◌∙◌}
use mathlib.Core.Bool.{Bool, true, false, cond, not, ◌&&◌}
use mathlib.Core.List.{List, [], ◌∷◌, ◌++◌}
use mathlib.Core.Logic.{◌⊎◌, inl, inr}
use Rattle.std.proofs.Common.{Option, Some, None}
use native.Mathlib.Omega.{arith}
use borrow.Author.Tests.{lt-ltb, not-true}
use lib.Dec.{ltb, eqb}
use lib.ListN.{get_or, get_or-replicate, length-replicate}
use Rattle.blocks.specs.Folds.{one}
use Rattle.blocks.specs.Kinds.{Kind, source, sink, operator, constant, fork, mux, demux, merge, buffer, control, unused}
use Rattle.blocks.specs.Ports.{n_in, n_out}
use Rattle.blocks.specs.Equations.{out_of}
use Rattle.blocks.specs.Asking.{needs, looks, handed}
use Rattle.blocks.specs.declared.Sig.{Sig}
use Rattle.blocks.specs.declared.Reg.{Reg}
use Rattle.blocks.proofs.Folds.{clash, and_1, and_2, and_both, and_false_1, and_false_2, count_bound}
use Rattle.blocks.proofs.Asking.{handed_cases}
use Rattle.blocks.proofs.Numbers.{shape_plain}
use Rattle.nets.specs.Net.{block_at}
use Rattle.nets.specs.Verdict.{VerdictIs}
use Rattle.blocks.specs.declared.Net.{Net}
use Rattle.nets.specs.Verdict.{Accepted}
use Rattle.nets.proofs.Nets.{size-high, channels-high, m-ok}
use Rattle.nets.proofs.Decided.{accepted, accepted_true}
use Rattle.cycles.specs.Streams.{mask_of, stream_of}
use Rattle.cycles.specs.Wires.{View, view_of, consumer, in_port}
use Rattle.cycles.specs.Cycle.{Signals, signals_of, moves}
use Rattle.cycles.specs.State.{regs_of, shape_ok}
use Rattle.cycles.specs.Step.{refusal_by, refused_step, stepped_by, step_by}
use Rattle.blocks.specs.declared.State.{State}
use Rattle.cycles.proofs.States.{get_d_tab}
use Rattle.cycles.proofs.Steps.{entry_shape_lem}
use Rattle.cycles.proofs.Joins.{inp_range, out_range, leaves, enters}
use Rattle.cycles.proofs.Solution.{solves}
use Rattle.sim.specs.Calls.{step_of}
use Rattle.asking.specs.Endings.{ending_of, ending_at, EndsAt}
use Rattle.asking.specs.Questions.{goes_to, end_else, next_at}
use Rattle.chains.specs.Chain.{Trail, no_trail, trail, none_met, chain_from}
use Rattle.asking.specs.declared.Ending.{Ending}
use Rattle.asking.specs.declared.Ending.TheVariants.{Circle, NoRule}
use Rattle.asking.specs.declared.Next.{Next}
use Rattle.asking.specs.declared.Next.TheVariants.{Word, Ready, End}
use Rattle.chains.proofs.Trails.{LeadsBy, past_leads}
use Rattle.asking.proofs.Cases.{Asked, Sound, sound_of, no_rule_so, ends_so}
use Rattle.stalls.specs.Calls.{asked_of, next_over, chain_of}
use Rattle.stalls.specs.Waits.{Each, Stands, Runs, Waits, port_of, EndsAtBlock, EndsSo, Answers, ChainWaits, ChainEnds, NotDelivered}
use Rattle.stalls.proofs.Answers.{Taken, taken, not-refused, followed_is}
use Rattle.stalls.proofs.Paths.{Runs_so, Reached, reached, ends_of}

-- ## What a block hands the question to waits

abbrev Lacks : Signals → Bool → ℕ → Type 0
Lacks g word n = cond word ((g.shows n).valid ≡ false) (((g.shows n).valid ≡ true) × (g.ready n ≡ false))

module _ (N : ℕ) (g : Signals) (K : Kind) (q : Bool) (b : ℕ) (r : Reg) (inp out : ℕ → ℕ) (at_in : (i : ℕ) → i < n_in K → inp i < N) (at_out : (j : ℕ) → j < n_out K → out j < N) where
  abbrev P : Bool → ℕ → Type 0
  P q n = (n < N) × Lacks g q n

  abbrev x : ℕ → Sig
  x i = g.shows (inp i)

  next_waits : LeadsBy P (next_at K q b r inp out g.shows g.ready)
  next_waits =
      past_leads P (ending_of K q b) _
      (handed_cases K r x (λ j. (g.shows (out j)).valid) (λ j. g.ready (out j)) (λ h. LeadsBy P (goes_to inp out b h))
      (λ i h e. (at_in i h, not-true (x i).valid (and_2 (needs K r x i) (not (x i).valid) e)))
      (λ j h e.
      let w : ((g.shows (out j)).valid && not (g.ready (out j))) ≡ true = and_2 (looks K x j) ((g.shows (out j)).valid && not (g.ready (out j))) e in
      (at_out j h, (and_1 (g.shows (out j)).valid (not (g.ready (out j))) w, not-true (g.ready (out j)) (and_2 (g.shows (out j)).valid (not (g.ready (out j))) w))))
      (λ e d. tt))

-- ## How a chain ends at a block

abbrev end_of : Next → Option Ending
end_of (Word n) = None
end_of (Ready n) = None
end_of (End e) = Some e

-- the block that an ending names
abbrev at_or : ℕ → Option Ending → ℕ
at_or b None = b
at_or b (Some e) = ending_at (Some e)

at_own : (b : ℕ) (K : Kind) (q : Bool) → at_or b (ending_of K q b) ≡ b
at_own b (source xs) q = refl
at_own b sink q = refl
at_own b (operator o) q = refl
at_own b (constant o c) q = refl
at_own b (fork m) q = refl
at_own b (mux m) q = refl
at_own b (demux m) q = refl
at_own b (merge m cs) q = refl
at_own b (buffer o) true = refl
at_own b (buffer o) false = refl
at_own b control true = refl
at_own b control false = refl
at_own b unused q = refl

module _ (K : Kind) (mask : Bool) (q : Bool) (p b : ℕ) (r : Reg) (inp out : ℕ → ℕ) (X : ℕ → Sig) (Y : ℕ → Bool) (sound : Sound K r)
    (ask : Asked K mask r (λ i. X (inp i)) (λ j. (X (out j)).valid) (λ j. Y (out j)) q p) (shows : (j : ℕ) → j < n_out K → (X (out j)).valid ≡ (out_of K mask r (λ i. X (inp i)) j).valid) where
  abbrev ins : ℕ → Sig
  ins i = X (inp i)

  abbrev v : ℕ → Bool
  v j = (X (out j)).valid

  abbrev y : ℕ → Bool
  y j = Y (out j)

  abbrev At : Ending → Type 0
  At e = (ending_at (Some e) ≡ b) × EndsAt K mask r ins v y q p e

  past_ends : (o : Option Ending) → ending_of K q b ≡ o → (n : Next) → (ending_of K q b ≡ None → (e : Ending) → end_of n ≡ Some e → At e) → (e : Ending) → end_of (end_else o n) ≡ Some e → At e
  past_ends (Some a) d n h e z = let k : ending_of K q b ≡ Some e = d ∙ z in (ap (at_or b) (sym k) ∙ at_own b K q, ends_so mask r ins v y K q p b e k ask shows)
  past_ends None d n h e z = h d e z

  hand_ends : ending_of K q b ≡ None → (e : Ending) → end_of (goes_to inp out b (handed K r ins v y)) ≡ Some e → At e
  hand_ends n =
      handed_cases K r ins v y (λ h. (e : Ending) → end_of (goes_to inp out b h) ≡ Some e → At e) (λ i h k e d. cc) (λ j h k e d. cc)
      (λ lack wait e d. let z : NoRule b ≡ e = cc in subst At z (refl, no_rule_so mask r ins v y K sound q p b n ask shows lack wait))

  next_ends : (e : Ending) → next_at K q b r inp out X Y ≡ End e → At e
  next_ends e z = past_ends (ending_of K q b) refl (goes_to inp out b (handed K r ins v y)) hand_ends e (ap end_of z)

-- ## In a cycle of an accepted net

module _ (net : Net) (acc : VerdictIs net Accepted) (words ends : List ℕ) (offer ready : ℕ) (s : State) where
  abbrev g : Signals
  g = signals_of net words ends offer ready (regs_of s)

  abbrev view : View
  view = view_of net words ends

  abbrev next : Bool → ℕ → Next
  next = next_over net words ends g (regs_of s)

  -- a channel that is asked waits
  abbrev Q : Bool → ℕ → Type 0
  Q q n = (n < net.channels) × Lacks g q n

  asked_in : (q : Bool) (c : ℕ) → c < net.channels → asked_of net q c < net.size
  asked_in true c l = (leaves net words ends acc.0.fields acc.0.joins c l).0
  asked_in false c l = (enters net words ends acc.0.fields acc.0.joins c l).0

  leads : (q : Bool) (c : ℕ) → Q q c → LeadsBy Q (next q c)
  leads q c h =
      let b : ℕ = asked_of net q c in
      let l : b < net.size = asked_in q c h.0 in
      next_waits net.channels g (view.kind b) q b (regs_of s b) (view.inp b) (view.out b) (λ i k. inp_range net words ends acc.0.fields acc.0.joins b i l k)
      (λ j k. out_range net words ends acc.0.fields acc.0.joins b j l k)

  -- why its block is asked
  abbrev AskedFor : Bool → ℕ → ℕ → Type 0
  AskedFor q c b =
      Asked (view.kind b) (mask_of net offer ready b) (regs_of s b) (λ i. g.shows (view.inp b i)) (λ j. (g.shows (view.out b j)).valid) (λ j. g.ready (view.out b j)) q (port_of net q c)

  why : (q : Bool) (c : ℕ) → Q q c → AskedFor q c (asked_of net q c)
  why true c h =
      let e = leaves net words ends acc.0.fields acc.0.joins c h.0 in
      (e.1, ap (λ (x : ℕ). (g.shows x).valid) e.2 ∙ h.1)
  why false c h =
      let e = enters net words ends acc.0.fields acc.0.joins c h.0 in
      let taking = (solves net words ends acc offer ready (regs_of s)).taking (consumer net c) (in_port net c) e.0 e.1 in
      (e.1, ap (λ (x : ℕ). (g.shows x).valid) e.2 ∙ h.1.0, sym taking ∙ ap g.ready e.2 ∙ h.1.1)

  module _ (shape : shape_ok net s ≡ true) where
    sound_at : (b : ℕ) → b < net.size → Sound (view.kind b) (regs_of s b)
    sound_at b l =
        sound_of (block_at net b).m (block_at net b).value (stream_of net words ends b) (regs_of s b) (block_at net b).kind (m-ok net acc.0.fields b l)
        (shape_plain (block_at net b).m (block_at net b).value (stream_of net words ends b) (regs_of s b) (block_at net b).kind
        ∙ entry_shape_lem net s shape b (omega (arith, l, size-high net acc.0.fields)) l)

    ends_there : (t : Trail) (q : Bool) (c : ℕ) → Q q c → (front : List ℕ) → t.channels ≡ front ++ (c ∷ []) → (e : Ending) → next q c ≡ End e → t.ending ≡ Some e
        → EndsAtBlock net words ends offer ready g (regs_of s) t
    ends_there t q c h front is e z ended =
        let b : ℕ = asked_of net q c in
        let l : b < net.size = asked_in q c h.0 in
        let shows = (solves net words ends acc offer ready (regs_of s)).showing b in
        let d =
        next_ends (view.kind b) (mask_of net offer ready b) q (port_of net q c) b (regs_of s b) (view.inp b) (view.out b) g.shows g.ready (sound_at b l) (why q c h)
        (λ j k. ap (λ (x : Sig). x.valid) (shows j l k)) e z in
        record { word = q; front = front; last = c; in_order = is; lacks = h.1; inside = l; named = ap ending_at ended ∙ d.0; how = e; is = ended; so = d.1 }

  -- ## From a channel of the net

  module _ (c : ℕ) (l : c < net.channels) where
    few : net.channels ≤ 128
    few = channels-high net acc.0.fields

    delivers : (g.shows c).valid ≡ true → g.ready c ≡ true → moves net g c ≡ true
    delivers e d = and_both (ltb c net.channels) ((g.shows c).valid && g.ready c) (lt-ltb c net.channels l) (and_both (g.shows c).valid (g.ready c) e d)

    start : (q : Bool) → Q q c → Reached net.channels Q (λ q n h. h.0) next leads none_met [] q c (trail 128 next none_met q c)
    start q h =
        reached net.channels Q (λ q n h. h.0) next leads 128 none_met [] (omega (arith, few, length-replicate 128 false))
        (omega (arith, few, count_bound (λ x. not (get_or none_met x false)) net.channels)) (λ x k e. clash e (get_or-replicate 128 x false false (omega (arith, few)))) q c h

    still : (p : Bool) (x : ℕ) → Q p x → moves net g x ≡ false
    still true x h = and_false_2 (ltb x net.channels) ((g.shows x).valid && g.ready x) (and_false_1 (g.shows x).valid (g.ready x) h.1)
    still false x h = and_false_2 (ltb x net.channels) ((g.shows x).valid && g.ready x) (and_false_2 (g.shows x).valid (g.ready x) h.1.1)

    each-still : (xs : List ℕ) → Each (λ x. (p : Bool) × Q p x) xs → Each (λ x. (x < net.channels) × (moves net g x ≡ false)) xs
    each-still [] k = tt
    each-still (x ∷ xs) k = ((k.0.1.0, still k.0.0 x k.0.1), each-still xs k.1)

    begun : (q : Bool) (t : Trail) → Runs_so net.channels Q (λ q n h. h.0) next leads [] q c t → (rest : List ℕ) × (t.channels ≡ c ∷ rest) × Runs next [] q c rest t.ending
    begun q t (inl z) = absurd z.1
    begun q t (inr z) = z

    waits-from : (q : Bool) → Q q c → not (g.shows c).valid ≡ q → Waits net g next c (trail 128 next none_met q c)
    waits-from q h e =
        let t = start q h in
        let z = begun q (trail 128 next none_met q c) t.shape in
        record {
          waiting = each-still (trail 128 next none_met q c).channels t.known;
          once = t.once;
          few = omega (arith, t.few, count_bound (λ x. not (get_or none_met x false)) net.channels);
          empty = λ m. clash m (still q c h);
          begins = λ m. (z.0, z.1, subst (λ (p : Bool). Runs next [] p c z.0 (trail 128 next none_met q c).ending) (sym e) z.2);
        }

    waits : Waits net g next c (chain_of net s words ends offer ready c)
    unfolding chain_from
    waits = by (g.shows c).valid (g.ready c) refl refl
      where
        by : (v y : Bool) → (g.shows c).valid ≡ v → g.ready c ≡ y → Waits net g next c (cond v (cond y no_trail (trail 128 next none_met false c)) (trail 128 next none_met true c))
        by true true e d = record { waiting = tt; once = tt; few = omega arith; empty = λ m. refl; begins = λ m. clash (delivers e d) m }
        by true false e d = waits-from false (l, (e, d)) (ap not e)
        by false y e d = waits-from true (l, e) (ap not e)

    module _ (shape : shape_ok net s ≡ true) where
      ends-from : (q : Bool) → Q q c → EndsSo net words ends offer ready g (regs_of s) (trail 128 next none_met q c)
      ends-from q h =
          let z = begun q t (start q h).shape in
          by (ends_of net.channels Q (λ q n h. h.0) next leads t.channels [] [] q c z.0 t.ending z.1 (λ y a. absurd a) (λ y a. subst (Stands y) (sym z.1) a) h z.2)
        where
          t : Trail
          t = trail 128 next none_met q c

          by : ((x : ℕ) × (t.ending ≡ Some (Circle x)) × Stands x t.channels)
              ⊎ ((p : Bool) × (n : ℕ) × Q p n × (a : Ending) × (next p n ≡ End a) × (t.ending ≡ Some a) × (f : List ℕ) × (t.channels ≡ f ++ (n ∷ [])))
              → EndsSo net words ends offer ready g (regs_of s) t
          by (inl z) = inl z
          by (inr z) = inr (ends_there shape t z.0 z.1 z.2 z.6 z.7 z.3 z.4 z.5)

      ends-so-from : moves net g c ≡ false → EndsSo net words ends offer ready g (regs_of s) (chain_of net s words ends offer ready c)
      unfolding chain_from
      ends-so-from m = by (g.shows c).valid (g.ready c) refl refl
        where
          by : (v y : Bool) → (g.shows c).valid ≡ v → g.ready c ≡ y
              → EndsSo net words ends offer ready g (regs_of s) (cond v (cond y no_trail (trail 128 next none_met false c)) (trail 128 next none_met true c))
          by true true e d = clash (delivers e d) m
          by true false e d = ends-from false (l, (e, d))
          by false y e d = ends-from true (l, e)

-- ## Of every call that is not refused

pub answers : Answers
answers net s words ends offer ready c e =
    let k : Taken net s words ends offer ready c = taken net s words ends offer ready c e in
    sym (not-refused net s words ends offer ready c k.shape k.fit k.low ∙ followed_is net s words ends offer ready c k.net-ok)

-- "The answer is the channels in order, each once": no channel of the chain delivers in that cycle, none stands twice, there are at most as many as the net has, each is handed
-- on by the rules to the next; "if the beginning channel delivers, the chain is empty", and only then.
pub chain_waits : ChainWaits
chain_waits net s words ends offer ready c e =
    let k : Taken net s words ends offer ready c = taken net s words ends offer ready c e in
    waits net (accepted_true net k.net-ok) words ends offer ready s c k.low

-- "and which ending, with its block or, for a circle, the channel met again"
pub chain_ends : ChainEnds
chain_ends net s words ends offer ready c e m =
    let k : Taken net s words ends offer ready c = taken net s words ends offer ready c e in
    ends-so-from net (accepted_true net k.net-ok) words ends offer ready s c k.low k.shape m

pub not-delivered : NotDelivered
unfolding step_of step_by
not-delivered net s words ends offer ready x h e = by (eqb (refusal_by (accepted net) net s words ends false 1) 0)
  where
    by : (t : Bool)
        → get_or (cond t (stepped_by net s words ends (signals_of net words ends offer ready (regs_of s))) (refused_step (refusal_by (accepted net) net s words ends false 1) s)).delivered x 0 ≡ 0
    by true = get_d_tab 128 (λ c. one (moves net (signals_of net words ends offer ready (regs_of s)) c)) 0 x h ∙ ap one e
    by false = get_or-replicate 128 x 0 0 h
