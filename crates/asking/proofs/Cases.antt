-- At a block that is asked because of a channel that waits: how a chain can end there. Each kind is looked at by its equations, where no input that it needs lacks V and no
-- output that it looks at waits.
-- Assumes nothing.
use Prim.Native.Nat.{ℕ, zero, suc, ◌-◌, ◌≤◌, ◌<◌}
use mathlib.Core.Path.{◌≡◌, refl, sym, ap, subst, ◌∙◌}
use mathlib.Core.Bool.{Bool, true, false, cond, not, ◌&&◌, ◌||◌}
use mathlib.Core.List.{List}
use mathlib.Core.Logic.{inl, inr}
use mathlib.Core.Option.{Option, none, some}
use Rattle.std.proofs.Common.{Some, None}
use native.Mathlib.Omega.{arith}
use borrow.Author.Tests.{not-false, eq-eqb, lt-ltb, leb-true}
use lib.Dec.{eqb, leb, ltb}
use lib.ListN.{length}
use Rattle.blocks.specs.Folds.{bit}
use Rattle.blocks.specs.Kinds.{Kind, source, sink, operator, constant, fork, mux, demux, merge, buffer, control, unused, kind_of}
use Rattle.blocks.specs.Ports.{m_ok, n_in, n_out}
use Rattle.blocks.specs.Shape.{in_shape}
use Rattle.blocks.specs.Words.{reach}
use Rattle.blocks.specs.Signals.{named, chosen, shown, valid_at, full}
use Rattle.blocks.specs.Equations.{went, offers, done_at, all_done, winner, won, out_of, ready_of}
use Rattle.blocks.specs.Asking.{lacks, holds_up}
use Rattle.blocks.specs.declared.Sig.{Sig}
use Rattle.blocks.specs.declared.Reg.{Reg}
use Rattle.blocks.proofs.Folds.{clash, and_1, and_both, all_in}
use Rattle.blocks.proofs.Options.{none-some, reach-below, reach_is}
use Rattle.blocks.proofs.Local.{winner-below}
use Rattle.blocks.proofs.Asking.{lowest_misses}
use Rattle.blocks.proofs.Numbers.{by_kind}
use Rattle.asking.specs.Endings.{ending_of, NoWinner, NoRuleAt, EndsAt}
use Rattle.asking.specs.declared.Ending.{Ending}
use Rattle.asking.specs.declared.Ending.TheVariants.{IdleSource, UnreadySink, EmptyBuffer, FullControl}

-- ## Tests

valid_of : (v : Bool) → not v ≡ false → v ≡ true
valid_of true e = refl
valid_of false e = clash refl e

-- v, and not (v and not y)
ready_of_lem : (v y : Bool) → v ≡ true → (v && not y) ≡ false → y ≡ true
ready_of_lem true true e f = refl
ready_of_lem true false e f = clash refl f
ready_of_lem false y e f = clash e refl

-- a copy that is valid unless it has gone, and does not wait, is done
copy_done : (gone v y : Bool) → v ≡ not gone → (v && not y) ≡ false → (gone || (v && y)) ≡ true
copy_done true v y e f = refl
copy_done false true true e f = refl
copy_done false true false e f = clash refl f
copy_done false false y e f = clash e refl

-- a copy that is not valid, where its word is, has gone
copy_gone : (a gone v : Bool) → a ≡ true → v ≡ (a && not gone) → v ≡ false → gone ≡ true
copy_gone true true v p e d = refl
copy_gone true false v p e d = clash e d
copy_gone false gone v p e d = clash p refl

rest_false : (a b : Bool) → a ≡ true → (a && b) ≡ false → b ≡ false
rest_false true b e d = d
rest_false false b e d = clash e refl

-- ## Why a block is asked, and what is known of it

-- its output p lacks V (word true), or its input p is V and it is not ready there
abbrev pub Asked : Kind → Bool → Reg → (ℕ → Sig) → (ℕ → Bool) → (ℕ → Bool) → Bool → ℕ → Type 0
Asked K mask r x v y true p = (p < n_out K) × (v p ≡ false)
Asked K mask r x v y false p = (p < n_in K) × ((x p).valid ≡ true) × (ready_of K mask r x v y p ≡ false)

-- what the check and the state's shape say of it: a select word names a port, and a recorded winner is an input
abbrev pub Sound : Kind → Reg → Type 0
Sound (source xs) r = Unit {0}
Sound sink r = Unit {0}
Sound (operator o) r = Unit {0}
Sound (constant o c) r = Unit {0}
Sound (fork m) r = Unit {0}
Sound (mux m) r = 0 < m
Sound (demux m) r = 0 < m
Sound (merge m cs) r = r.word ≤ m
Sound (buffer o) r = Unit {0}
Sound control r = Unit {0}
Sound unused r = Unit {0}

two : (m : ℕ) → (leb 2 m && leb m 8) ≡ true → 0 < m
two m e = omega (arith, leb-true 2 m (and_1 (leb 2 m) (leb m 8) e))

pub sound_of : (m value : ℕ) (xs : List ℕ) (r : Reg) (k : ℕ) → m_ok k m ≡ true → in_shape (kind_of k m value xs) r ≡ true → Sound (kind_of k m value xs) r
sound_of m value xs r =
    by_kind (λ k. m_ok k m ≡ true → in_shape (kind_of k m value xs) r ≡ true → Sound (kind_of k m value xs) r) (λ e s. tt) (λ e s. tt) (λ e s. tt) (λ e s. tt) (λ e s. tt)
    (λ e s. two m e) (λ e s. two m e)
    (λ e s.
    let both : (leb r.word m && leb r.marks 2) ≡ true = and_1 (leb r.word m && leb r.marks 2) (cond (eqb r.word 0) (eqb r.marks 0) true) s in
    leb-true r.word m (and_1 (leb r.word m) (leb r.marks 2) both))
    (λ e s. tt) (λ e s. tt) (λ e s. tt) (λ k e s. tt)

module _ (mask : Bool) (r : Reg) (x : ℕ → Sig) (v y : ℕ → Bool) where
  -- the outputs show what the block's equations say; no input that it needs lacks V; no output that it looks at waits
  abbrev Showing : Kind → Type 0
  Showing K = (j : ℕ) → j < n_out K → v j ≡ (out_of K mask r x j).valid

  abbrev NoneLacks : Kind → Type 0
  NoneLacks K = (i : ℕ) → i < n_in K → lacks K r x i ≡ false

  abbrev NoneWaits : Kind → Type 0
  NoneWaits K = (j : ℕ) → j < n_out K → holds_up K x v y j ≡ false

  -- ## Kinds at which no chain ends so

  -- an output that is valid where the inputs are delivers
  hands_on : (a : Bool) → a ≡ true → v 0 ≡ a → (v 0 && not (y 0)) ≡ false → went v y 0 ≡ true
  hands_on a e f g = and_both (v 0) (y 0) (f ∙ e) (ready_of_lem (v 0) (y 0) (f ∙ e) g)

  -- the only output is asked for a word, and it has one
  one_output : (j : ℕ) → j < 1 → v j ≡ false → v 0 ≡ true → ⊥
  one_output j h n on = let z : j ≡ 0 = omega arith in clash on (subst (λ (k : ℕ). v k ≡ false) z n)

  operator_never : (o : ℕ) (q : Bool) (p : ℕ) → Asked (operator o) mask r x v y q p → Showing (operator o) → NoneLacks (operator o) → NoneWaits (operator o) → ⊥
  operator_never o q p ask shows ins outs =
      let both : ((x 0).valid && (x 1).valid) ≡ true =
      and_both (x 0).valid (x 1).valid (valid_of (x 0).valid (ins 0 (omega arith))) (valid_of (x 1).valid (ins 1 (omega arith))) in
      by q ask (shows 0 (omega arith) ∙ both) (hands_on ((x 0).valid && (x 1).valid) both (shows 0 (omega arith)) (outs 0 (omega arith)))
    where
      by : (q : Bool) → Asked (operator o) mask r x v y q p → v 0 ≡ true → went v y 0 ≡ true → ⊥
      by true ask on go = one_output p ask.0 ask.1 on
      by false ask on go = clash go ask.2

  constant_never : (o c : ℕ) (q : Bool) (p : ℕ) → Asked (constant o c) mask r x v y q p → Showing (constant o c) → NoneLacks (constant o c) → NoneWaits (constant o c) → ⊥
  constant_never o c q p ask shows ins outs =
      let on : (x 0).valid ≡ true = valid_of (x 0).valid (ins 0 (omega arith)) in
      by q ask (shows 0 (omega arith) ∙ on) (hands_on (x 0).valid on (shows 0 (omega arith)) (outs 0 (omega arith)))
    where
      by : (q : Bool) → Asked (constant o c) mask r x v y q p → v 0 ≡ true → went v y 0 ≡ true → ⊥
      by true ask on go = one_output p ask.0 ask.1 on
      by false ask on go = clash go ask.2

  -- a data buffer that is asked for readiness is full, and its output waits
  buffer_never : (o : Option ℕ) (p : ℕ) → Asked (buffer o) mask r x v y false p → Showing (buffer o) → NoneWaits (buffer o) → ⊥
  buffer_never o p ask shows outs = by (full r) (shows 0 (omega arith)) ask.2
    where
      by : (f : Bool) → v 0 ≡ f → (not f || y 0) ≡ false → ⊥
      by true e n = clash (ready_of_lem (v 0) (y 0) e (outs 0 (omega arith))) n
      by false e n = clash refl n

  -- an empty control buffer that is asked for a word lacks one itself
  control_never : (p : ℕ) → Asked control mask r x v y true p → Showing control → NoneLacks control → ⊥
  control_never p ask shows ins = by (full r) (shows p ask.0)
    where
      by : (f : Bool) → v p ≡ (cond f (shown true r.word) (shown (x 0).valid (x 0).word)).valid → ⊥
      by true e = clash e ask.1
      by false e = clash (e ∙ valid_of (x 0).valid (ins 0 (omega arith))) ask.1

  unused_never : (q : Bool) (p : ℕ) → Asked unused mask r x v y q p → ⊥
  unused_never true p ask = omega (arith, ask.0)
  unused_never false p ask = omega (arith, ask.0)

  -- ## Forks

  -- both sides of a merge, or all copies of a fork
  copies_done : (n : ℕ) (a : Bool) → a ≡ true → ((j : ℕ) → j < n → v j ≡ (a && not (bit j r.marks))) → ((j : ℕ) → j < n → (v j && not (y j)) ≡ false)
      → all_done n r.marks (went v y) ≡ true
  copies_done n a e shows waits =
      all_in (done_at r.marks (went v y)) n
      (λ j h. copy_done (bit j r.marks) (v j) (y j) (shows j h ∙ ap (λ (t : Bool). t && not (bit j r.marks)) e) (waits j h))

  fork_so : (m : ℕ) (q : Bool) (p : ℕ) → Asked (fork m) mask r x v y q p → Showing (fork m) → NoneLacks (fork m) → NoneWaits (fork m) → NoRuleAt (fork m) r x v y q p
  fork_so m q p ask shows ins outs =
      let on : (x 0).valid ≡ true = valid_of (x 0).valid (ins 0 (omega arith)) in
      by q ask on (and_both (x 0).valid (all_done m r.marks (went v y)) on (copies_done m (x 0).valid on shows outs))
    where
      by : (q : Bool) → Asked (fork m) mask r x v y q p → (x 0).valid ≡ true → ((x 0).valid && all_done m r.marks (went v y)) ≡ true → NoRuleAt (fork m) r x v y q p
      by true ask on takes = (refl, copy_gone (x 0).valid (bit p r.marks) (v p) on (shows p ask.0) ask.1, takes)
      by false ask on takes = clash takes ask.2

  -- ## Muxes and demuxes

  -- the port that the select word names
  module _ (m : ℕ) (ports : 0 < m) where
    abbrev Port : Type 0
    Port = (t : ℕ) × (reach m (x 0).word ≡ some t) × (t < m)

    port : Port
    port = let e = reach_is m (x 0).word ports in (cond (ltb (x 0).word m) (x 0).word (m - 1), e, reach-below m (x 0).word (cond (ltb (x 0).word m) (x 0).word (m - 1)) e)

    hit : (t : ℕ) → reach m (x 0).word ≡ some t → named (reach m (x 0).word) (eqb t) ≡ true
    hit t e = ap (λ (o : Option ℕ). named o (eqb t)) e ∙ eq-eqb t t refl

  mux-delivers : (m : ℕ) → 0 < m → Showing (mux m) → NoneLacks (mux m) → NoneWaits (mux m) → (v 0 ≡ true) × (went v y 0 ≡ true)
  mux-delivers m ports shows ins outs =
      let s = port m ports in
      let on : (x (suc s.0)).valid ≡ true =
      valid_of (x (suc s.0)).valid (sym (ap (λ (b : Bool). b && not (x (suc s.0)).valid) (hit m ports s.0 s.1)) ∙ ins (suc s.0) (omega (arith, s.2))) in
      let both : ((x 0).valid && (x (suc s.0)).valid) ≡ true = and_both (x 0).valid (x (suc s.0)).valid (valid_of (x 0).valid (ins 0 (omega arith))) on in
      let shown : v 0 ≡ ((x 0).valid && (x (suc s.0)).valid) = shows 0 (omega arith) ∙ ap (λ (o : Option ℕ). (x 0).valid && (chosen o (λ t. x (suc t))).valid) s.1 in
      (shown ∙ both, hands_on ((x 0).valid && (x (suc s.0)).valid) both shown (outs 0 (omega arith)))

  mux_so : (m : ℕ) → 0 < m → (q : Bool) (p : ℕ) → Asked (mux m) mask r x v y q p → Showing (mux m) → NoneLacks (mux m) → NoneWaits (mux m) → NoRuleAt (mux m) r x v y q p
  mux_so m ports q p ask shows ins outs = let d = mux-delivers m ports shows ins outs in by q p ask d.0 d.1
    where
      by : (q : Bool) (p : ℕ) → Asked (mux m) mask r x v y q p → v 0 ≡ true → went v y 0 ≡ true → NoRuleAt (mux m) r x v y q p
      by true p ask on go = absurd (one_output p ask.0 ask.1 on)
      by false zero ask on go = clash go ask.2
      by false (suc i) ask on go = (refl, rest_false (went v y 0) (named (reach m (x 0).word) (eqb i)) go ask.2, go)

  demux_so : (m : ℕ) → 0 < m → (q : Bool) (p : ℕ) → Asked (demux m) mask r x v y q p → Showing (demux m) → NoneLacks (demux m) → NoneWaits (demux m) → NoRuleAt (demux m) r x v y q p
  demux_so m ports q p ask shows ins outs =
      let s = port m ports in
      let select : (x 0).valid ≡ true = valid_of (x 0).valid (ins 0 (omega arith)) in
      let data-in : (x 1).valid ≡ true = valid_of (x 1).valid (ins 1 (omega arith)) in
      let chosen-one : named (reach m (x 0).word) (eqb s.0) ≡ true = hit m ports s.0 s.1 in
      let on : v s.0 ≡ true =
      shows s.0 s.2
      ∙ and_both (x 0).valid ((x 1).valid && named (reach m (x 0).word) (eqb s.0)) select (and_both (x 1).valid (named (reach m (x 0).word) (eqb s.0)) data-in chosen-one) in
      let waits : (v s.0 && not (y s.0)) ≡ false = sym (ap (λ (b : Bool). b && (v s.0 && not (y s.0))) chosen-one) ∙ outs s.0 s.2 in
      let go : named (reach m (x 0).word) (went v y) ≡ true =
      ap (λ (o : Option ℕ). named o (went v y)) s.1 ∙ and_both (v s.0) (y s.0) on (ready_of_lem (v s.0) (y s.0) on waits) in
      by q ask select data-in go
    where
      by : (q : Bool) → Asked (demux m) mask r x v y q p → (x 0).valid ≡ true → (x 1).valid ≡ true → named (reach m (x 0).word) (went v y) ≡ true → NoRuleAt (demux m) r x v y q p
      by true ask select data-in go =
          let other : ((x 0).valid && ((x 1).valid && named (reach m (x 0).word) (eqb p))) ≡ false = sym (shows p ask.0) ∙ ask.1 in
          (refl, rest_false (x 1).valid (named (reach m (x 0).word) (eqb p)) data-in (rest_false (x 0).valid ((x 1).valid && named (reach m (x 0).word) (eqb p)) select other), go)
      by false ask select data-in go = clash go ask.2

  -- ## Merges

  -- without a winner none is recorded, and no input has a word
  winnerless : (m : ℕ) (w : ℕ) → w ≤ m → winner m x w ≡ none → (w ≡ 0) × ((i : ℕ) → i < m → (x i).valid ≡ false)
  winnerless m zero h e = (refl, lowest_misses m (valid_at x) e)
  winnerless m (suc t) h e = none-some (sym (sym (ap (λ (b : Bool). cond b (some t) none) (lt-ltb t m (omega arith))) ∙ e))

  module _ (m : ℕ) (cs : List ℕ) (fits : r.word ≤ m) where
    sides : Showing (merge m cs) → (j : ℕ) → j < 2 → v j ≡ ((won m r x).valid && not (bit j r.marks))
    sides shows zero h = shows 0 (omega arith)
    sides shows (suc zero) h = shows 1 (omega arith)
    sides shows (suc (suc j)) h = absurd (omega arith)

    merge-so : (q : Bool) (p : ℕ) → Asked (merge m cs) mask r x v y q p → Showing (merge m cs) → NoneLacks (merge m cs) → NoneWaits (merge m cs) → NoRuleAt (merge m cs) r x v y q p
    merge-so q p ask shows ins outs = by (winner m x r.word) refl
      where
        without : (q : Bool) → Asked (merge m cs) mask r x v y q p → NoWinner m r x → NoRuleAt (merge m cs) r x v y q p
        without true ask n = inl n
        without false ask n = clash ask.1 (n.1 p ask.0)

        with-one : (q : Bool) → Asked (merge m cs) mask r x v y q p → (won m r x).valid ≡ true
            → ((won m r x).valid && all_done 2 r.marks (went v y)) ≡ true → NoRuleAt (merge m cs) r x v y q p
        with-one true ask is takes = inr (copy_gone (won m r x).valid (bit p r.marks) (v p) is (sides shows p ask.0) ask.1, takes)
        with-one false ask is takes =
            (rest_false ((won m r x).valid && all_done 2 r.marks (went v y)) (named (winner m x r.word) (eqb p)) takes ask.2, takes)

        by : (o : Option ℕ) → winner m x r.word ≡ o → NoRuleAt (merge m cs) r x v y q p
        by none e = without q ask (winnerless m r.word fits e)
        by (some t) e =
            let need : named (winner m x r.word) (eqb t) ≡ true = ap (λ (o : Option ℕ). named o (eqb t)) e ∙ eq-eqb t t refl in
            let on : (x t).valid ≡ true = valid_of (x t).valid (sym (ap (λ (b : Bool). b && not (x t).valid) need) ∙ ins t (winner-below m x r.word t e)) in
            let is : (won m r x).valid ≡ true = ap (λ (o : Option ℕ). (chosen o x).valid) e ∙ on in
            with-one q ask is (and_both (won m r x).valid (all_done 2 r.marks (went v y)) is (copies_done 2 (won m r x).valid is (sides shows) outs))

  -- ## By kind

  -- no rule names a further channel: only at these kinds, and only so
  pub no_rule_so : (K : Kind) → Sound K r → (q : Bool) (p b : ℕ) → ending_of K q b ≡ None → Asked K mask r x v y q p → Showing K → NoneLacks K → NoneWaits K → NoRuleAt K r x v y q p
  no_rule_so (source xs) ok q p b e ask shows ins outs = cc
  no_rule_so sink ok q p b e ask shows ins outs = cc
  no_rule_so (operator o) ok q p b e ask shows ins outs = operator_never o q p ask shows ins outs
  no_rule_so (constant o c) ok q p b e ask shows ins outs = constant_never o c q p ask shows ins outs
  no_rule_so (fork m) ok q p b e ask shows ins outs = fork_so m q p ask shows ins outs
  no_rule_so (mux m) ok q p b e ask shows ins outs = mux_so m ok q p ask shows ins outs
  no_rule_so (demux m) ok q p b e ask shows ins outs = demux_so m ok q p ask shows ins outs
  no_rule_so (merge m cs) ok q p b e ask shows ins outs = merge-so m cs ok q p ask shows ins outs
  no_rule_so (buffer o) ok true p b e ask shows ins outs = cc
  no_rule_so (buffer o) ok false p b e ask shows ins outs = buffer_never o p ask shows outs
  no_rule_so control ok true p b e ask shows ins outs = control_never p ask shows ins
  no_rule_so control ok false p b e ask shows ins outs = cc
  no_rule_so unused ok q p b e ask shows ins outs = unused_never q p ask

  -- the other endings are what their names say
  idle : (xs : List ℕ) (q : Bool) (p : ℕ) → Asked (source xs) mask r x v y q p → Showing (source xs) → offers (length xs) r mask ≡ false
  idle xs true p ask shows = sym (shows p ask.0) ∙ ask.1
  idle xs false p ask shows = absurd (omega (arith, ask.0))

  unready : (q : Bool) (p : ℕ) → Asked sink mask r x v y q p → mask ≡ false
  unready true p ask = absurd (omega (arith, ask.0))
  unready false p ask = ask.2

  same_ending : (K : Kind) (q : Bool) (p : ℕ) (a e : Ending) → Some a ≡ Some e → EndsAt K mask r x v y q p a → EndsAt K mask r x v y q p e
  same_ending K q p a e d h = let z : a ≡ e = cc in subst (EndsAt K mask r x v y q p) z h

  pub ends_so : (K : Kind) (q : Bool) (p b : ℕ) (e : Ending) → ending_of K q b ≡ Some e → Asked K mask r x v y q p → Showing K → EndsAt K mask r x v y q p e
  ends_so (source xs) q p b e d ask shows = same_ending (source xs) q p (IdleSource b) e d (xs, refl, idle xs q p ask shows)
  ends_so sink q p b e d ask shows = same_ending sink q p (UnreadySink b) e d (refl, unready q p ask)
  ends_so (operator o) q p b e d ask shows = cc
  ends_so (constant o c) q p b e d ask shows = cc
  ends_so (fork m) q p b e d ask shows = cc
  ends_so (mux m) q p b e d ask shows = cc
  ends_so (demux m) q p b e d ask shows = cc
  ends_so (merge m cs) q p b e d ask shows = cc
  ends_so (buffer o) true p b e d ask shows = same_ending (buffer o) true p (EmptyBuffer b) e d (o, refl, refl, sym (shows p ask.0) ∙ ask.1)
  ends_so (buffer o) false p b e d ask shows = cc
  ends_so control true p b e d ask shows = cc
  ends_so control false p b e d ask shows = same_ending control false p (FullControl b) e d (refl, refl, not-false (full r) ask.2)
  ends_so unused q p b e d ask shows = cc
