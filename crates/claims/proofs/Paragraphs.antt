-- The sentences of specs/Paragraphs.antt, proved kind by kind from the block's equations (`Works` of crate queue), and then of every block in a step: its signals satisfy
-- the equations (`solves` of crate cycles).
-- Assumes nothing.
use Prim.Native.Nat.{ℕ, suc, ◌+◌, ◌<◌}
use mathlib.Core.Path.{◌≡◌, refl, sym, ap, ◌∙◌}
use mathlib.Core.Bool.{Bool, true, false, ◌&&◌}
use mathlib.Core.Logic.{◌≢◌}
use mathlib.Core.List.{List}
use mathlib.Core.Option.{Option, some}
use native.Mathlib.Omega.{arith}
use borrow.Author.Tests.{eqb-true, eq-eqb, lt-ltb}
use lib.Dec.{eqb}
use lib.ListN.{length}
use Rattle.blocks.specs.Folds.{all_below, bit}
use Rattle.blocks.specs.Kinds.{Kind, source, sink, operator, constant, fork, mux, demux, merge, buffer, control, unused}
use Rattle.blocks.specs.Ports.{n_out}
use Rattle.blocks.specs.Words.{reach}
use Rattle.blocks.specs.Signals.{named, valid_at, full}
use Rattle.blocks.specs.Equations.{done_at, all_done, won, out_of}
use Rattle.blocks.specs.declared.Sig.{Sig}
use Rattle.blocks.specs.declared.Reg.{Reg}
use Rattle.blocks.proofs.Folds.{only, pair, and_1, and_2, and_false_2, all_in, lowest-none, lowest_found}
use Rattle.blocks.proofs.Bits.{bit-bits}
use Rattle.blocks.proofs.Options.{test, named_true, reach-below}
use Rattle.blocks.proofs.Local.{winner-below}
use Rattle.nets.proofs.Decided.{accepted, accepted_true}
use Rattle.cycles.specs.Streams.{mask_of}
use Rattle.cycles.specs.Wires.{View, view_of, kind_at}
use Rattle.cycles.specs.Cycle.{Signals, signals_of, next_at}
use Rattle.cycles.specs.State.{regs_of}
use Rattle.cycles.specs.Step.{refusal_by}
use Rattle.cycles.specs.declared.Stepped.{Stepped}
use Rattle.cycles.proofs.Solution.{solves}
use Rattle.cycles.proofs.States.{regs_of_lem}
use Rattle.cycles.proofs.Steps.{step-worked}
use Rattle.queue.specs.Claims.{IsAccepted}
use Rattle.queue.proofs.Cycle.{PortSignals, Works, less_one}
use Rattle.queue.proofs.Circuit.{cycles}
use Rattle.sim.specs.Calls.{step_of}
use Rattle.claims.specs.Paragraphs.{
  BlockCycle,
  given,
  done,
  Environment,
  Multiplexer,
  Demultiplexer,
  Merging,
  DataBuffer,
  ControlBuffer,
  Forking,
  Paragraph,
  block_cycle,
  EachBlock,
}
use Rattle.claims.proofs.Theorems.{refusal_is}

abbrev ports_of : BlockCycle → PortSignals
ports_of c = record { in_sig = c.ins; in_r = c.ins_ready; out_sig = c.outs; out_r = c.outs_ready }

module _ (mask : Bool) (c : BlockCycle) where
  -- the block's equations hold
  abbrev Equations : Kind → Type 0
  Equations K = Works K mask (ports_of c) c.before c.next

  -- what is valid at an output
  valid_of : (K : Kind) → Equations K → (j : ℕ) → j < n_out K → (c.outs j).valid ≡ (out_of K mask c.before c.ins j).valid
  valid_of K s j h = ap (λ (z : Sig). z.valid) (s.showing j h)

  valid_given : (j : ℕ) → given c j ≡ true → (c.outs j).valid ≡ true
  valid_given j q = and_1 (c.outs j).valid (c.outs_ready j) q

  environment : (xs : List ℕ) → Equations (source xs) → Environment c xs
  environment xs s = record {
    holds-data = λ v q. s.going ∙ rw (v, q);
    held-offers = λ f l. s.showing 0 (omega arith) ∙ rw (lt-ltb c.before.word (length xs) l, f);
  }

  unit_rate_2 : (o : ℕ) → Equations (operator o) → Paragraph c (operator o)
  unit_rate_2 o s = record {
    computes = λ h. s.showing 0 (omega arith) ∙ rw (h 0 (omega arith), h 1 (omega arith));
    consumes = λ q i h.
        let both : ((c.ins 0).valid && (c.ins 1).valid) ≡ true = sym (valid_of (operator o) s 0 (omega arith)) ∙ valid_given 0 q in
        (pair (λ (k : ℕ). (c.ins k).valid ≡ true) (and_1 (c.ins 0).valid (c.ins 1).valid both) (and_2 (c.ins 0).valid (c.ins 1).valid both) i h, s.taking i h ∙ q);
  }

  unit_rate_1 : (o v : ℕ) → Equations (constant o v) → Paragraph c (constant o v)
  unit_rate_1 o v s = record {
    computes = λ h. s.showing 0 (omega arith) ∙ rw (h 0 (omega arith));
    consumes = λ q i h. (only (λ (k : ℕ). (c.ins k).valid ≡ true) (sym (valid_of (constant o v) s 0 (omega arith)) ∙ valid_given 0 q) i h, s.taking i h ∙ q);
  }

  -- a port that is not the one named is not hit
  not_named : (o : Option ℕ) (i : ℕ) → o ≢ some i → named o (eqb i) ≡ false
  not_named o i n =
      test (named o (eqb i))
      (λ e. let at = named_true o (eqb i) e in absurd (n (at.1 ∙ ap (λ (k : ℕ). some k) (sym (eqb-true i at.0 at.2)))))
      (λ e. e)

  multiplexer : (m : ℕ) → Equations (mux m) → Multiplexer c m
  multiplexer m s = record {
    routes = λ t e a b. s.showing 0 (omega arith) ∙ rw (e, a, b);
    consumes = λ t e q. (s.taking 0 (omega arith) ∙ q, s.taking (suc t) (omega (arith, reach-below m (c.ins 0).word t e)) ∙ rw (q, e, eq-eqb t t refl));
    no-others = λ i h n. s.taking (suc i) (omega arith) ∙ and_false_2 (given c 0) (named (reach m (c.ins 0).word) (eqb i)) (not_named (reach m (c.ins 0).word) i n);
  }

  demultiplexer : (m : ℕ) → Equations (demux m) → Demultiplexer c m
  demultiplexer m s = record {
    decodes = λ j h e a b. s.showing j h ∙ rw (e, a, b, eq-eqb j j refl);
    only_if = activated;
    consumes = λ j h q.
        let e : reach m (c.ins 0).word ≡ some j = (activated j h (valid_given j q)).2 in
        (s.taking 0 (omega arith) ∙ rw (e, q), s.taking 1 (omega arith) ∙ rw (e, q));
    only_then = λ i h q. let at = named_true (reach m (c.ins 0).word) (given c) (sym (s.taking i h) ∙ q) in (at.0, at.1, at.2);
  }
    where
      activated : (j : ℕ) → j < m → (c.outs j).valid ≡ true → ((c.ins 0).valid ≡ true) × ((c.ins 1).valid ≡ true) × (reach m (c.ins 0).word ≡ some j)
      activated j h v =
          let o : Option ℕ = reach m (c.ins 0).word in
          let all : ((c.ins 0).valid && ((c.ins 1).valid && named o (eqb j))) ≡ true = sym (valid_of (demux m) s j h) ∙ v in
          let rest : ((c.ins 1).valid && named o (eqb j)) ≡ true = and_2 (c.ins 0).valid ((c.ins 1).valid && named o (eqb j)) all in
          let at = named_true o (eqb j) (and_2 (c.ins 1).valid (named o (eqb j)) rest) in
          (and_1 (c.ins 0).valid ((c.ins 1).valid && named o (eqb j)) all, and_1 (c.ins 1).valid (named o (eqb j)) rest, at.1 ∙ ap (λ (k : ℕ). some k) (sym (eqb-true j at.0 at.2)))

  -- both sides of a merge done
  both_done : all_done 2 c.before.marks (given c) ≡ (done c 0 && done c 1)
  unfolding all_below
  both_done = refl

  merging : (m : ℕ) (cs : List ℕ) → Equations (merge m cs) → Merging c m
  merging m cs s = record {
    decides = λ z i h v first. (rw z (lowest_found (valid_at c.ins) m i h v first), v);
    if-any = λ z idle. pair (λ (j : ℕ). (c.outs j).valid ≡ false)
        (valid_of (merge m cs) s 0 (omega arith) ∙ rw (z, lowest-none (valid_at c.ins) m idle))
        (valid_of (merge m cs) s 1 (omega arith) ∙ rw (z, lowest-none (valid_at c.ins) m idle));
    appears = λ i w. (λ e. s.showing 0 (omega arith) ∙ rw (w.0, w.1, e), λ e. s.showing 1 (omega arith) ∙ rw (w.0, w.1, e, less_one i));
    fired = λ i w a b.
        let all : all_done 2 c.before.marks (given c) ≡ true = both_done ∙ rw (a, b) in
        (s.taking i (winner-below m c.ins c.before.word i w.0) ∙ rw (w.0, w.1, all, eq-eqb i i refl), s.going ∙ rw (w.0, w.1, all));
    records = λ i w f.
        let all : all_done 2 c.before.marks (given c) ≡ false = both_done ∙ f in (
          s.taking i (winner-below m c.ins c.before.word i w.0) ∙ rw (w.0, w.1, all),
          ap (λ (r : Reg). r.word) s.going ∙ rw (w.0, w.1, all),
          λ j h. ap (λ (r : Reg). bit j r.marks) s.going ∙ rw (w.0, w.1, all) (bit-bits (done_at c.before.marks (given c)) 2 j h),
        );
    continues = λ i h z v. (rw (z, lt-ltb i m h), v);
    suppresses = pair (λ (j : ℕ). bit j c.before.marks ≡ true → (c.outs j).valid ≡ false)
        (λ e. valid_of (merge m cs) s 0 (omega arith) ∙ rw e (and_false_2 (won m c.before c.ins).valid false refl))
        (λ e. valid_of (merge m cs) s 1 (omega arith) ∙ rw e (and_false_2 (won m c.before c.ins).valid false refl));
  }

  data_buffer : (o : Option ℕ) → Equations (buffer o) → DataBuffer c
  data_buffer o s = record {
    waits = λ f. (valid_of (buffer o) s 0 (omega arith) ∙ f, s.taking 0 (omega arith) ∙ rw f);
    stores = λ t a. s.going ∙ rw (t, a);
    offers = λ f. s.showing 0 (omega arith) ∙ rw f;
    keeps = λ f q. let t : c.ins_ready 0 ≡ false = s.taking 0 (omega arith) ∙ rw (f, q) in (t, s.going ∙ rw t);
    overwrites = λ q. let t : c.ins_ready 0 ≡ true = s.taking 0 (omega arith) ∙ test (full c.before) (λ f. rw (f, q)) (λ f. rw f) in (t, λ a. s.going ∙ rw (t, a));
  }

  control-buffer : Equations control → ControlBuffer c
  control-buffer s = record {
    copies = λ f. (s.showing 0 (omega arith) ∙ rw f, s.taking 0 (omega arith) ∙ rw f);
    stores = λ f a q. s.going ∙ rw (f, a, q);
    offers = λ f. (s.taking 0 (omega arith) ∙ rw f, s.showing 0 (omega arith) ∙ rw f);
    empties = λ f q. s.going ∙ rw (f, q);
  }

  forking : (m : ℕ) → Equations (fork m) → Forking c m
  forking m s = record {
    copies = λ j h e a. s.showing j h ∙ rw (e, a);
    consumes = λ a all.
        let t : c.ins_ready 0 ≡ true = s.taking 0 (omega arith) ∙ rw (a, all_in (done_at c.before.marks (given c)) m all) in
        (t, ap (λ (r : Reg). r.marks) s.going ∙ rw t);
    emitted = λ t j h. ap (λ (r : Reg). bit j r.marks) s.going ∙ rw t (bit-bits (done_at c.before.marks (given c)) m j h);
    suppresses = λ j h e. valid_of (fork m) s j h ∙ rw e (and_false_2 (c.ins 0).valid false refl);
  }

  paragraph : (K : Kind) → Equations K → Paragraph c K
  paragraph (source xs) s = environment xs s
  paragraph sink s = tt
  paragraph (operator o) s = unit_rate_2 o s
  paragraph (constant o v) s = unit_rate_1 o v s
  paragraph (fork m) s = forking m s
  paragraph (mux m) s = multiplexer m s
  paragraph (demux m) s = demultiplexer m s
  paragraph (merge m cs) s = merging m cs s
  paragraph (buffer o) s = data_buffer o s
  paragraph control s = control-buffer s
  paragraph unused s = tt

pub each_block : EachBlock
unfolding step_of
each_block net acc s words ends offer ready e b hb =
    let ok : IsAccepted net = accepted_true net acc in
    let v : View = view_of net words ends in
    let g : Signals = signals_of net words ends offer ready (regs_of s) in
    let z : refusal_by (accepted net) net s words ends false 1 ≡ 0 = refusal_is net s words ends offer ready ∙ e in
    paragraph (mask_of net offer ready b) (block_cycle net s words ends offer ready b) (kind_at net words ends b)
    (cycles v (mask_of net offer ready) g (regs_of s) (regs_of (step_of net s words ends offer ready).state) (solves net words ends ok offer ready (regs_of s))
    (λ a ha. ap (λ (t : Stepped). regs_of t.state a) (step-worked (accepted net) net s words ends offer ready z)
    ∙ regs_of_lem net ok.0.fields (s.count + 1) (next_at v g (regs_of s)) a ha) b hb)
