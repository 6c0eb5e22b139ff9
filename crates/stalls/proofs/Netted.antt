-- From the signals that are worked out to the net: what a block answers by them is what it answers in the cycle that a step would work, so that the chain is the net's.
-- Assumes nothing.
use Rattle.std.proofs.Common.{◌≡◌, refl, sym, ap, ap₂, subst, ◌∙◌, ℕ, ◌<◌, Bool, true, false, cond, List, [], map, length, get_or, replicate, Option, arith}
use lib.Seq.{sets}
use Rattle.blocks.specs.Kinds.{Kind, kind_of}
use Rattle.blocks.specs.Ports.{n_in, n_out}
use Rattle.blocks.specs.Signals.{valid_at}
use Rattle.blocks.specs.Asking.{Handed}
use Rattle.blocks.specs.States.{reg_in}
use Rattle.blocks.specs.declared.Net.{Net}
use Rattle.blocks.specs.declared.Reg.{Reg}
use Rattle.blocks.specs.declared.Sig.{Sig}
use Rattle.blocks.specs.declared.State.{State}
use Rattle.blocks.proofs.Asking.{handed_cases, handed_local, handed_plain}
use Rattle.blocks.proofs.Numbers.{by_kind}
use Rattle.nets.specs.Net.{block_at}
use Rattle.nets.specs.Promises.{Promises}
use Rattle.nets.specs.Verdict.{VerdictIs, Accepted}
use Rattle.nets.specs.declared.Plan.{Plan}
use Rattle.nets.proofs.Nets.{size-high, channels-high, m-ok}
use Rattle.cycles.specs.Streams.{ends_fit, stream_of}
use Rattle.cycles.specs.Wires.{View, view_of, kind_at, producer, consumer}
use Rattle.cycles.specs.Cycle.{Signals, signals_of}
use Rattle.cycles.specs.State.{shape_ok}
use Rattle.cycles.proofs.Joins.{inp_range, out_range, end, leaves, enters}
use Rattle.ports.specs.Places.{sig_at, ready_at}
use Rattle.passes.specs.Rows.{in_no, out_no, Shaped}
use Rattle.rows.specs.Ends.{stream_at, mask_at}
use Rattle.rows.proofs.Accepted.{ins-eq, outs-eq, out_eq, rowed}
use Rattle.signals.specs.Wires.{Worked}
use Rattle.sim.proofs.Results.{signals_are}
use Rattle.asking.specs.Endings.{ending_of}
use Rattle.asking.specs.Questions.{goes_to, end_else, next_at}
use Rattle.asking.specs.Rows.{next_by}
use Rattle.chains.specs.Chain.{Trail, chain_from}
use Rattle.chains.specs.Wiring.{Wired}
use Rattle.asking.specs.declared.Ending.{Ending}
use Rattle.asking.specs.declared.Next.{Next}
use Rattle.asking.specs.declared.Next.TheVariants.{Word, Ready}
use Rattle.chains.proofs.Trails.{stays, chain_alike, chain_same}
use Rattle.stalls.specs.Calls.{next_over, chain_of, chain_by, answer_of}

-- ## What a block answers depends on its own ports alone, and not on a stream

ending_plain : (m value : ℕ) (xs : List ℕ) (q : Bool) (b k : ℕ) → ending_of (kind_of k m value []) q b ≡ ending_of (kind_of k m value xs) q b
ending_plain m value xs q b k =
    by_kind (λ k. ending_of (kind_of k m value []) q b ≡ ending_of (kind_of k m value xs) q b) refl refl refl refl refl refl refl refl refl refl refl (λ k. refl) k

next_plain : (m value : ℕ) (xs : List ℕ) (q : Bool) (b : ℕ) (r : Reg) (inp out : ℕ → ℕ) (X : ℕ → Sig) (Y : ℕ → Bool) (k : ℕ)
    → next_at (kind_of k m value []) q b r inp out X Y ≡ next_at (kind_of k m value xs) q b r inp out X Y
next_plain m value xs q b r inp out X Y k =
    let plain = λ (xs : List ℕ). handed_plain m value xs r (λ i. X (inp i)) (λ j. (X (out j)).valid) (λ j. Y (out j)) k in
    ap₂ (λ (o : Option Ending) (h : Handed). end_else o (goes_to inp out b h)) (ending_plain m value xs q b k) (sym (plain []) ∙ plain xs)

next_local : (K : Kind) (q : Bool) (b : ℕ) (r : Reg) (inp inp' out out' : ℕ → ℕ) (X X' : ℕ → Sig) (Y Y' : ℕ → Bool)
    → ((i : ℕ) → i < n_in K → (inp i ≡ inp' i) × (X (inp i) ≡ X' (inp' i)))
    → ((j : ℕ) → j < n_out K → (out j ≡ out' j) × (((X (out j)).valid ≡ (X' (out' j)).valid) × (Y (out j) ≡ Y' (out' j))))
    → next_at K q b r inp out X Y ≡ next_at K q b r inp' out' X' Y'
next_local K q b r inp inp' out out' X X' Y Y' ins outs =
    ap (end_else (ending_of K q b))
    (handed_cases K r (λ i. X (inp i)) (λ j. (X (out j)).valid) (λ j. Y (out j)) (λ h. goes_to inp out b h ≡ goes_to inp' out' b h)
    (λ i l e. ap (λ (c : ℕ). Word c) (ins i l).0) (λ j l e. ap (λ (c : ℕ). Ready c) (outs j l).0) (λ e d. refl)
    ∙ ap (goes_to inp' out' b)
    (handed_local K r (λ i. X (inp i)) (λ i. X' (inp' i)) (λ j. (X (out j)).valid) (λ j. (X' (out' j)).valid) (λ j. Y (out j)) (λ j. Y' (out' j)) (λ i l. (ins i l).1) (λ j l. (outs j l).1.0)
    (λ j l. (outs j l).1.1)))

module _ (net : Net) (plan : Plan) (p : Promises net plan) (s : State) where
  -- ## The net's channels join its blocks

  pub wired_of : Shaped net s → Wired net s plan.producer plan.consumer
  wired_of shaped =
      record {
        row =
            λ b l.
            record {
              ported = (rowed net p.fields p.joins).ported b l;
              low = omega (arith, size-high net p.fields);
              sound = m-ok net p.fields b l;
              shape = shaped b l;
            };
        few = channels-high net p.fields;
        leaves = λ c l. (p.producers c l).has.in_net;
        enters = λ c l. (p.consumers c l).has.in_net;
        inputs = λ b i l h. inp_range net [] [] p.fields p.joins b i l (subst (λ (n : ℕ). i < n) (ins-eq net p.fields p.joins [] [] b l) h);
        outputs =
            λ b j l h.
            subst (λ (c : ℕ). c < net.channels) (sym (out_eq net p.fields p.joins b l j))
            (out_range net [] [] p.fields p.joins b j l (subst (λ (n : ℕ). j < n) (outs-eq net p.fields p.joins [] [] b l) h));
      }

  -- ## The chain of the cycle

  module _ (acc : VerdictIs net Accepted) (shaped : Shaped net s) (ok : shape_ok net s ≡ true) (stream ends : List ℕ) (fit : ends_fit net stream ends ≡ true) (offer ready : ℕ)
      (signals : List Sig) (taken : List Bool) (w : Worked net (stream_at net stream ends) (mask_at net offer ready) (reg_in s) (sig_at signals) (ready_at taken)) where
    abbrev view : View
    view = view_of net stream ends

    abbrev g : Signals
    g = signals_of net stream ends offer ready (reg_in s)

    -- what the code is answered after channel c
    abbrev next : Bool → ℕ → Next
    next q c = next_by net s signals taken q (get_or (cond q plan.producer plan.consumer) c 0)

    same : (c : ℕ) → c < net.channels → (sig_at signals c ≡ g.shows c) × (ready_at taken c ≡ g.ready c)
    same = signals_are net acc s ok stream ends fit offer ready signals taken w

    row_same : (q : Bool) (b : ℕ) → b < net.size → next_by net s signals taken q b ≡ next_at (kind_at net stream ends b) q b (reg_in s b) (view.inp b) (view.out b) g.shows g.ready
    row_same q b l =
        next_plain (block_at net b).m (block_at net b).value (stream_of net stream ends b) q b (reg_in s b) (in_no net b) (out_no net b) (sig_at signals) (ready_at taken) (block_at net b).kind
        ∙ next_local (kind_at net stream ends b) q b (reg_in s b) (in_no net b) (view.inp b) (out_no net b) (view.out b) (sig_at signals) g.shows (ready_at taken) g.ready
        (λ i h. (refl, (same (view.inp b i) (inp_range net stream ends p.fields p.joins b i l h)).0))
        (λ j h.
        let e = out_eq net p.fields p.joins b l j in
        let k = same (view.out b j) (out_range net stream ends p.fields p.joins b j l h) in
        (e, (ap (λ (c : ℕ). (sig_at signals c).valid) e ∙ ap (λ (x : Sig). x.valid) k.0, ap (ready_at taken) e ∙ k.1)))

    next-same : (q : Bool) (c : ℕ) → c < net.channels → next q c ≡ next_over net stream ends g (reg_in s) q c
    next-same true c l =
        ap (next_by net s signals taken true) (sym ((p.producers c l).only (producer net c) (end net stream ends p.fields p.joins true c l)))
        ∙ row_same true (producer net c) (leaves net stream ends p.fields p.joins c l).0
    next-same false c l =
        ap (next_by net s signals taken false) (sym ((p.consumers c l).only (consumer net c) (end net stream ends p.fields p.joins false c l)))
        ∙ row_same false (consumer net c) (enters net stream ends p.fields p.joins c l).0

    -- the chain by what is worked out is the chain of the cycle that a step would work
    pub chain-is : (c : ℕ) → c < net.channels
        → chain_by (λ x. (sig_at signals x).valid) (chain_from next (sig_at signals c).valid (ready_at taken c) c) ≡ answer_of net s stream ends offer ready c
    chain-is c l =
        let inside = stays net s plan.producer plan.consumer (wired_of shaped) signals taken in
        let t : Trail = chain_from next (sig_at signals c).valid (ready_at taken c) c in
        let beside : map (λ x. (sig_at signals x).valid) t.channels ≡ map (valid_at g.shows) t.channels =
        chain_alike net.channels next inside (λ x. (sig_at signals x).valid) (valid_at g.shows) (λ x h. ap (λ (k : Sig). k.valid) (same x h).0)
        (sig_at signals c).valid (ready_at taken c) c l in
        let trail_is : t ≡ chain_of net s stream ends offer ready c =
        chain_same net.channels next (next_over net stream ends g (reg_in s)) next-same inside (sig_at signals c).valid (ready_at taken c)
        (g.shows c).valid (g.ready c) c l (ap (λ (k : Sig). k.valid) (same c l).0) (same c l).1 in
        (λ i.
        record {
          refusal = 0;
          count = length t.channels;
          channels = sets (replicate 128 0) 0 t.channels;
          valid = sets (replicate 128 false) 0 (beside i);
          ending = t.ending;
        })
        ∙ ap (chain_by (valid_at g.shows)) trail_is
