-- A word that is offered at an output and not taken is offered there in the next cycle too, whatever the masks: kind by kind, from the same of the inputs that the
-- block waits for. A source is held, a data buffer keeps its register, a control buffer stores the word, a merge records its winner, a fork keeps the mark of a
-- copy that has not gone; the other kinds hold their inputs back.
-- Assumes nothing.
use Rattle.std.proofs.Common.{◌≡◌, ℕ, suc, ◌<◌, Bool, true, false, not, ◌&&◌, ◌||◌, eqb, ltb, List, length, sym, refl, ap, ◌∙◌, subst, arith, lt-ltb, eqb-true}
use mathlib.Core.Option.{Option, some}
use borrow.Author.Tests.{not-true}
use Rattle.blocks.specs.Folds.{bit}
use Rattle.blocks.specs.Kinds.{Kind, source, sink, operator, constant, fork, mux, demux, merge, buffer, control, unused}
use Rattle.blocks.specs.Ports.{n_in, n_out}
use Rattle.blocks.specs.Words.{reach}
use Rattle.blocks.specs.Signals.{chosen, named, full}
use Rattle.blocks.specs.Equations.{went, done_at, all_done, gained, winner, won, out_of, ready_of, next_of}
use Rattle.blocks.specs.declared.Sig.{Sig}
use Rattle.blocks.specs.declared.Reg.{Reg}
use Rattle.blocks.proofs.Folds.{only, pair, and_1, and_2, and_false_1, and_false_2, all_fails}
use Rattle.blocks.proofs.Bits.{bit-bits}
use Rattle.blocks.proofs.Options.{test, named_true, chosen_same, reach-below}
use Rattle.blocks.proofs.Local.{waits, winner-below, won-valid}

-- One cycle: mask, registers r, inputs x, ready at the inputs t, valid and ready at the outputs v and y. In the next one the mask is mask' and the inputs are x'.
module _ (mask mask' : Bool) (r : Reg) (x x' : ℕ → Sig) (t v y : ℕ → Bool) where
  -- input i, where it is valid and not taken, shows the same in the next cycle
  abbrev Held : ℕ → Type 0
  Held i = (x i).valid ≡ true → t i ≡ false → x' i ≡ x i

  -- the cycle of the block, and what is known of its inputs
  pub record Waiting (K : Kind) : Type 0 where
    pub showing : (j : ℕ) → j < n_out K → v j ≡ (out_of K mask r x j).valid
    pub taking : (i : ℕ) → i < n_in K → t i ≡ ready_of K mask r x v y i
    pub holding : waits K ≡ true → (i : ℕ) → i < n_in K → Held i

  -- output j, where it is valid and not taken, shows the same in the next cycle
  abbrev pub Stays : Kind → ℕ → Type 0
  Stays K j = (out_of K mask r x j).valid ≡ true → y j ≡ false → out_of K mask' (next_of K r x t v y) x' j ≡ out_of K mask r x j

  untaken : (j : ℕ) → y j ≡ false → went v y j ≡ false
  untaken j q = and_false_2 (v j) (y j) q

  -- a copy that is offered and not taken is not done, and keeps its mark
  undone : (marks j : ℕ) → bit j marks ≡ false → y j ≡ false → done_at marks (went v y) j ≡ false
  undone marks j e q = rw (e, untaken j q)

  mark-stays : (n marks j : ℕ) → j < n → bit j marks ≡ false → y j ≡ false → bit j (gained n marks (went v y)) ≡ false
  mark-stays n marks j h e q = bit-bits (done_at marks (went v y)) n j h ∙ undone marks j e q

  not_all : (n marks j : ℕ) → j < n → bit j marks ≡ false → y j ≡ false → all_done n marks (went v y) ≡ false
  not_all n marks j h e q = all_fails (done_at marks (went v y)) n j h (undone marks j e q)

  stays-source : (xs : List ℕ) → Waiting (source xs) → Stays (source xs) 0
  stays-source xs w e q =
      let l : ltb r.word (length xs) ≡ true = and_1 (ltb r.word (length xs)) (full r || mask) e in
      let f : (full r || mask) ≡ true = and_2 (ltb r.word (length xs)) (full r || mask) e in
      let o : v 0 ≡ true = w.showing 0 (omega arith) ∙ e in
      rw (o, q, l, f)

  stays-operator : (o : ℕ) → Waiting (operator o) → Stays (operator o) 0
  stays-operator o w e q =
      let a : x' 0 ≡ x 0 = w.holding refl 0 (omega arith) (and_1 (x 0).valid (x 1).valid e) (w.taking 0 (omega arith) ∙ untaken 0 q) in
      let b : x' 1 ≡ x 1 = w.holding refl 1 (omega arith) (and_2 (x 0).valid (x 1).valid e) (w.taking 1 (omega arith) ∙ untaken 0 q) in
      rw (a, b)

  stays-constant : (o c : ℕ) → Waiting (constant o c) → Stays (constant o c) 0
  stays-constant o c w e q =
      let a : x' 0 ≡ x 0 = w.holding refl 0 (omega arith) e (w.taking 0 (omega arith) ∙ untaken 0 q) in
      rw a

  stays-fork : (m : ℕ) → Waiting (fork m) → (j : ℕ) → j < m → Stays (fork m) j
  stays-fork m w j h e q =
      let a : (x 0).valid ≡ true = and_1 (x 0).valid (not (bit j r.marks)) e in
      let f : bit j r.marks ≡ false = not-true (bit j r.marks) (and_2 (x 0).valid (not (bit j r.marks)) e) in
      let n : t 0 ≡ false = w.taking 0 (omega arith) ∙ and_false_2 (x 0).valid (all_done m r.marks (went v y)) (not_all m r.marks j h f q) in
      rw (n, w.holding refl 0 (omega arith) a n, mark-stays m r.marks j h f q, f)

  stays-mux : (m : ℕ) → Waiting (mux m) → Stays (mux m) 0
  stays-mux m w e q =
      let o : Option ℕ = reach m (x 0).word in
      let s : x' 0 ≡ x 0 =
      w.holding refl 0 (omega arith) (and_1 (x 0).valid (chosen o (λ t. x (suc t))).valid e) (w.taking 0 (omega arith) ∙ untaken 0 q) in
      let d : (chosen o (λ t. x (suc t))).valid ≡ true = and_2 (x 0).valid (chosen o (λ t. x (suc t))).valid e in
      let c : chosen o (λ t. x' (suc t)) ≡ chosen o (λ t. x (suc t)) =
      chosen_same o (λ t. x' (suc t)) (λ t. x (suc t))
      (λ i z. w.holding refl (suc i) (omega (arith, reach-below m (x 0).word i z)) (rw z at d)
      (w.taking (suc i) (omega (arith, reach-below m (x 0).word i z)) ∙ and_false_1 (went v y 0) (named o (eqb i)) (untaken 0 q))) in
      rw (s, c)

  stays-demux : (m : ℕ) → Waiting (demux m) → (j : ℕ) → j < m → Stays (demux m) j
  stays-demux m w j h e q =
      let o : Option ℕ = reach m (x 0).word in
      let rest : ((x 1).valid && named o (eqb j)) ≡ true = and_2 (x 0).valid ((x 1).valid && named o (eqb j)) e in
      let at = named_true o (eqb j) (and_2 (x 1).valid (named o (eqb j)) rest) in
      let n : named o (went v y) ≡ false =
      ap (λ (z : Option ℕ). named z (went v y)) at.1 ∙ subst (λ (i : ℕ). went v y i ≡ false) (eqb-true j at.0 at.2) (untaken j q) in
      let s : x' 0 ≡ x 0 = w.holding refl 0 (omega arith) (and_1 (x 0).valid ((x 1).valid && named o (eqb j)) e) (w.taking 0 (omega arith) ∙ n) in
      let a : x' 1 ≡ x 1 = w.holding refl 1 (omega arith) (and_1 (x 1).valid (named o (eqb j)) rest) (w.taking 1 (omega arith) ∙ n) in
      rw (s, a)

  -- the winner is recorded, and its input held
  module _ (m : ℕ) (cs : List ℕ) (w : Waiting (merge m cs)) (i : ℕ) (is : winner m x r.word ≡ some i) (a : (x i).valid ≡ true) (f : all_done 2 r.marks (went v y) ≡ false) where
    below : i < m
    below = winner-below m x r.word i is

    next-is : next_of (merge m cs) r x t v y ≡ record { word = suc i; marks = gained 2 r.marks (went v y) }
    next-is = rw (is, a, f)

    input-stays : x' i ≡ x i
    input-stays =
        let idle : ((won m r x).valid && all_done 2 r.marks (went v y)) ≡ false = and_false_2 (won m r x).valid (all_done 2 r.marks (went v y)) f in
        w.holding refl i below a (w.taking i below ∙ and_false_1 ((won m r x).valid && all_done 2 r.marks (went v y)) (named (winner m x r.word) (eqb i)) idle)

    -- at either side: 0 the data, 1 the report
    side-stays : (j : ℕ) → j < 2 → bit j r.marks ≡ false → y j ≡ false → out_of (merge m cs) mask' (next_of (merge m cs) r x t v y) x' j ≡ out_of (merge m cs) mask r x j
    side-stays =
        pair (λ (j : ℕ). bit j r.marks ≡ false → y j ≡ false → out_of (merge m cs) mask' (next_of (merge m cs) r x t v y) x' j ≡ out_of (merge m cs) mask r x j)
        (λ e q. rw (next-is, lt-ltb i m below, is, input-stays, mark-stays 2 r.marks 0 (omega arith) e q, e))
        (λ e q. rw (next-is, lt-ltb i m below, is, input-stays, mark-stays 2 r.marks 1 (omega arith) e q, e))

  -- a side is valid when the winner's input is and its mark is clear
  side_valid : (m : ℕ) (cs : List ℕ) (j : ℕ) → j < 2 → (out_of (merge m cs) mask r x j).valid ≡ ((won m r x).valid && not (bit j r.marks))
  side_valid m cs = pair (λ (j : ℕ). (out_of (merge m cs) mask r x j).valid ≡ ((won m r x).valid && not (bit j r.marks))) refl refl

  stays-merge : (m : ℕ) (cs : List ℕ) → Waiting (merge m cs) → (j : ℕ) → j < 2 → Stays (merge m cs) j
  stays-merge m cs w j h e q =
      let shows : ((won m r x).valid && not (bit j r.marks)) ≡ true = sym (side_valid m cs j h) ∙ e in
      let a : (won m r x).valid ≡ true = and_1 (won m r x).valid (not (bit j r.marks)) shows in
      let f : bit j r.marks ≡ false = not-true (bit j r.marks) (and_2 (won m r x).valid (not (bit j r.marks)) shows) in
      let at = won-valid m r x a in
      side-stays m cs w at.0 at.1 at.2 (not_all 2 r.marks j h f q) j h f q

  stays-buffer : (o : Option ℕ) → Waiting (buffer o) → Stays (buffer o) 0
  stays-buffer o w e q = let n : t 0 ≡ false = w.taking 0 (omega arith) ∙ rw (e, q) in rw n

  stays-control : Stays control 0
  stays-control e q =
      test (full r)
      (λ f. let kept : next_of control r x t v y ≡ r = rw (f, q) in rw (kept, f))
      (λ f. let a : (x 0).valid ≡ true = (rw f at e) in
      let stored : next_of control r x t v y ≡ record { word = (x 0).word; marks = 1 } = rw (f, q, a) in
      rw (stored, f, a))

  pub stays : (K : Kind) → Waiting K → (j : ℕ) → j < n_out K → Stays K j
  stays (source xs) w j h = only (Stays (source xs)) (stays-source xs w) j h
  stays sink w j h = absurd (omega arith)
  stays (operator o) w j h = only (Stays (operator o)) (stays-operator o w) j h
  stays (constant o c) w j h = only (Stays (constant o c)) (stays-constant o c w) j h
  stays (fork m) w j h = stays-fork m w j h
  stays (mux m) w j h = only (Stays (mux m)) (stays-mux m w) j h
  stays (demux m) w j h = stays-demux m w j h
  stays (merge m cs) w j h = stays-merge m cs w j h
  stays (buffer o) w j h = only (Stays (buffer o)) (stays-buffer o w) j h
  stays control w j h = only (Stays control) stays-control j h
  stays unused w j h = absurd (omega arith)
