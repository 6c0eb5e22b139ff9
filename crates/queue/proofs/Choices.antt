-- The choices of a merge over one cycle. Its report channel offers its winner, so choices that begin with the words reported before, and then the one offered, have the
-- winner at the place of the next firing (`steer`); and what is pending after the cycle is what the report channel offered and was not taken (`pending_next`).
-- Assumes nothing.
use Prim.Native.Nat.{ℕ, zero, suc, ◌+◌, ◌<◌}
use mathlib.Core.Path.{◌≡◌, refl, ap, ◌∙◌, subst}
use mathlib.Core.Bool.{Bool, true, false, cond, not, ◌&&◌, ◌||◌}
use mathlib.Core.Logic.{⊎_elim}
use mathlib.Core.List.Memᴰ
use mathlib.Core.List.{List, [], ◌∷◌, ◌++◌, IsPrefix, Memᴰ}
use mathlib.Core.Option.{Option, none, some}
use native.Mathlib.Omega.{arith}
use lib.Dec.{ltb}
use lib.ListN.{length, get_elem?, length-append}
use Rattle.blocks.specs.Folds.{one, bit}
use Rattle.blocks.specs.Kinds.{Kind, source, sink, operator, constant, fork, mux, demux, merge, buffer, control, unused}
use Rattle.blocks.specs.Ports.{n_out}
use Rattle.blocks.specs.Signals.{shown, empty}
use Rattle.blocks.specs.Firing.{Turn, turn}
use Rattle.blocks.specs.Equations.{done_at, all_done, gained, winner, won}
use Rattle.blocks.specs.declared.Sig.{Sig}
use Rattle.blocks.specs.declared.Reg.{Reg}
use Rattle.blocks.proofs.Folds.{all_at}
use Rattle.blocks.proofs.Bits.{bit-bits}
use Rattle.blocks.proofs.Local.{won-valid}
use Rattle.blocks.proofs.Options.{test, if_there}
use Rattle.blocks.proofs.Turns.{turn_reports}
use Rattle.queue.specs.Delivered.{pending}
use Rattle.queue.specs.History.{front, pos, turn_at, gives_of, got, early}
use Rattle.queue.proofs.Words.{look_prefix, look_at, prefix_nil}
use Rattle.queue.proofs.History.{Can}
use Rattle.queue.proofs.Cycle.{PortSignals, gone, Works, IfMerge, held, Recorded, Placed, Steered, no_bits, less_one}

-- the word, if any, that output 1 offers in a cycle, and the one that is not taken
abbrev pub report_offers : PortSignals → List ℕ
report_offers p = cond (p.out_sig 1).valid ((p.out_sig 1).word ∷ []) []

abbrev pub report_leaves : PortSignals → List ℕ
report_leaves p = cond ((p.out_sig 1).valid && not (p.out_r 1)) ((p.out_sig 1).word ∷ []) []

-- every firing of a merge puts one word on its report
report-count : (m : ℕ) (cs : List ℕ) (ins : ℕ → List ℕ) (k : ℕ) → ((q : ℕ) → q < k → Can (merge m cs) ins q) → length (got (merge m cs) ins k 1) ≡ k
report-count m cs ins zero can = refl
report-count m cs ins (suc k) can =
    let K : Kind = merge m cs in
    let c : Can K ins k = can k (omega arith) in
    let h : length (got K ins k 1) ≡ k = report-count m cs ins k (λ q l. can q (omega arith)) in
    let more : length (gives_of (turn_at K ins k) 1) ≡ 1 = (rw c.1 (ap length (turn_reports m cs k (front ins (pos K ins k)) c.0 c.1).3)) in
    omega (arith, length-append (got K ins k 1) (gives_of (turn_at K ins k) 1))

-- and that word is the number of an input
report_given : (m : ℕ) (cs : List ℕ) (k : ℕ) (f : ℕ → Option ℕ) (o : Option Turn) → turn (merge m cs) k f ≡ o → (t : ℕ) → Memᴰ t (gives_of o 1) → t < m
report_given m cs k f none e t i = elim i [ ]
report_given m cs k f (some u) e t i =
    let r = turn_reports m cs k f u e in
    let is : t ≡ r.0 = Memᴰ.eq_of_singleton (subst (λ (l : List ℕ). Memᴰ t l) r.3 i) in
    omega (arith, r.2)

pub report-below : (m : ℕ) (cs : List ℕ) (ins : ℕ → List ℕ) (k t : ℕ) → Memᴰ t (got (merge m cs) ins k 1) → t < m
report-below m cs ins zero t i = elim i [ ]
report-below m cs ins (suc k) t i =
    let K : Kind = merge m cs in
    ⊎_elim (report-below m cs ins k t) (report_given m cs k (front ins (pos K ins k)) (turn_at K ins k) refl t) (Memᴰ.append_cases (got K ins k 1) i)

-- a report that is offered, where its mark was clear, is taken or left
by_mark : (gone-before taken : Bool) (a : Sig) (t : ℕ) → a ≡ shown (not gone-before) t
    → cond (gone-before || (a.valid && taken)) [] (t ∷ []) ≡ cond (a.valid && not taken) (a.word ∷ []) []
by_mark true taken a t e = rw e
by_mark false true a t e = rw e
by_mark false false a t e = rw e

module _ (mask : Bool) (p : PortSignals) (r r' : Reg) (m : ℕ) (cs : List ℕ) (s : Works (merge m cs) mask p r r') where
  -- the report shows the winner, unless its mark is set
  module _ (t : ℕ) (e : winner m p.in_sig r.word ≡ some t) (v : (p.in_sig t).valid ≡ true) where
    shows-winner : p.out_sig 1 ≡ shown (not (bit 1 r.marks)) t
    shows-winner = s.showing 1 (omega arith) ∙ rw (e, v, less_one t)

    -- after the cycle the winner is pending, unless its report has gone
    pending-winner : pending r' ≡ cond (done_at r.marks (gone p) 1) [] (t ∷ [])
    pending-winner =
        test (all_done 2 r.marks (gone p))
        (λ d. let n : r' ≡ empty = s.going ∙ rw (e, v, d) in rw (n, all_at (done_at r.marks (gone p)) 2 d 1 (omega arith)))
        (λ d. let n : r' ≡ record { word = suc t; marks = gained 2 r.marks (gone p) } = s.going ∙ rw (e, v, d) in
        rw (n, bit-bits (done_at r.marks (gone p)) 2 1 (omega arith)))

  -- a recorded winner is the winner
  still : (u t : ℕ) → r.word ≡ suc u → winner m p.in_sig r.word ≡ some t → some u ≡ some t
  still u t z e = (if_there (ltb u m) (some u) t (rw z at e)).1

  steer_merge : (k : ℕ) (rep : List ℕ) → Recorded cs k r.word r.marks → length rep ≡ k + one (bit 1 r.marks) → IsPrefix (rep ++ report_offers p) cs
      → Steered (merge m cs) p r k
  steer_merge k rep pl len h t e v = go r.word refl
    where
      go : (x : ℕ) → r.word ≡ x → get_elem? cs k ≡ some t
      go zero z =
          let n : r.marks ≡ 0 = subst (λ (x : ℕ). Recorded cs k x r.marks) z pl in
          let clear : bit 1 r.marks ≡ false = rw n (no_bits 1) in
          let at : length rep ≡ k = omega (arith, ap one clear) in
          let shows : report_offers p ≡ t ∷ [] = rw (shows-winner t e v, clear) in
          subst (λ (x : ℕ). get_elem? cs x ≡ some t) at (look_prefix (rep ++ report_offers p) cs h (length rep) t (rw shows (look_at rep t [])))
      go (suc u) z = subst (λ (x : ℕ). Recorded cs k x r.marks) z pl ∙ still u t z e

  -- what is pending after a cycle, where what was pending before it is offered
  pub pending_next : IsPrefix (pending r) (report_offers p) → pending r' ≡ report_leaves p
  pending_next h =
      test (won m r p.in_sig).valid
      (λ q. let at = won-valid m r p.in_sig q in
      pending-winner at.0 at.1 at.2 ∙ by_mark (bit 1 r.marks) (p.out_r 1) (p.out_sig 1) at.0 (shows-winner at.0 at.1 at.2))
      (λ q. let n : r' ≡ r = s.going ∙ rw q in
      let quiet : (p.out_sig 1).valid ≡ false = ap (λ (a : Sig). a.valid) (s.showing 1 (omega arith)) ∙ rw q in
      rw (n, quiet) (prefix_nil (pending r) (subst (λ (l : List ℕ). IsPrefix (pending r) l) (rw quiet) h)))

-- of any kind: rep are the words delivered on output 1, where k firings are complete
pub steer : (mask : Bool) (p : PortSignals) (r r' : Reg) (rep : List ℕ) (k : ℕ) (ins : ℕ → List ℕ) (K : Kind) → Works K mask p r r'
    → ((q : ℕ) → q < k → Can K ins q) → Placed K r k → (1 < n_out K → length rep + held K r ≡ length (got K ins k 1) + early K r 1)
    → IfMerge (λ m cs. IsPrefix (rep ++ report_offers p) cs) K → Steered K p r k
steer mask p r r' rep k ins (source xs) s can pl len h = tt
steer mask p r r' rep k ins sink s can pl len h = tt
steer mask p r r' rep k ins (operator o) s can pl len h = tt
steer mask p r r' rep k ins (constant o v) s can pl len h = tt
steer mask p r r' rep k ins (fork m) s can pl len h = tt
steer mask p r r' rep k ins (mux m) s can pl len h = tt
steer mask p r r' rep k ins (demux m) s can pl len h = tt
steer mask p r r' rep k ins (merge m cs) s can pl len h = steer_merge mask p r r' m cs s k rep pl (omega (arith, len (omega arith), report-count m cs ins k can)) h
steer mask p r r' rep k ins (buffer o) s can pl len h = tt
steer mask p r r' rep k ins control s can pl len h = tt
steer mask p r r' rep k ins unused s can pl len h = tt
