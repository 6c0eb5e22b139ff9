-- A cycle keeps the shape of a block's registers, and a fresh block's registers are in shape.
-- Assumes nothing.
use Rattle.std.proofs.Common.{◌≡◌, ℕ, zero, suc, ◌+◌, ◌-◌, ◌^◌, ◌<◌, ◌≤◌, Bool, true, false, cond, not, ◌&&◌, eqb, ltb, sym, refl, ap, ◌∙◌, subst, arith, pow_pos, pow_mono, ltb-true, lt-ltb, ne_eqb, le-leb}
use mathlib.Core.Option.{Option, none, some}
use borrow.Author.Tests.{eqb-false}
use Rattle.blocks.specs.Folds.{one, bit, bits}
use Rattle.blocks.specs.Kinds.{Kind, source, sink, operator, constant, fork, mux, demux, merge, buffer, control, unused}
use Rattle.blocks.specs.Signals.{chosen, valid_at, empty, full}
use Rattle.blocks.specs.Equations.{went, done_at, all_done, gained, fork_ready, fork_next, winner, won, recorded, merge_next, source_next, out_of, ready_of, next_of, fresh_reg}
use Rattle.blocks.specs.Shape.{source_reg, buffer_reg, fork_reg, merge_reg, in_shape}
use Rattle.blocks.specs.declared.Sig.{Sig}
use Rattle.blocks.specs.declared.Reg.{Reg}
use Rattle.blocks.proofs.Folds.{and_1, and_2, and_both}
use Rattle.blocks.proofs.Bits.{bits_below, bits_same, all_bits, gained-sum}
use Rattle.blocks.proofs.Local.{winner-below}

-- a fork has copies
abbrev pub Copies : Kind → Type 0
Copies (fork m) = 2 ≤ m
Copies (source xs) = Unit {0}
Copies sink = Unit {0}
Copies (operator o) = Unit {0}
Copies (constant o c) = Unit {0}
Copies (mux m) = Unit {0}
Copies (demux m) = Unit {0}
Copies (merge m cs) = Unit {0}
Copies (buffer o) = Unit {0}
Copies control = Unit {0}
Copies unused = Unit {0}

-- 2^n - 1 is the number before 2^n
before : (n : ℕ) → (2 ^ n - 1) + 1 ≡ 2 ^ n
before n = omega (arith, pow_pos n)

-- not all copies done: the marks stay below 2^n - 1
pub gained_fewer : (n marks : ℕ) (d : ℕ → Bool) → all_done n marks d ≡ false → gained n marks d < 2 ^ n - 1
gained_fewer n marks d e =
    let ne : bits (done_at marks d) n ≡ 2 ^ n - 1 → ⊥ = eqb-false (bits (done_at marks d) n) (2 ^ n - 1) (all_bits (done_at marks d) n (2 ^ n - 1) (before n) ∙ e) in
    omega (arith, bits_below (done_at marks d) n, ne)

none-set : (n : ℕ) → bits (λ i. false) n ≡ 0
unfolding bits
none-set zero = refl
none-set (suc n) = rw (none-set n)

both_false : (b : Bool) → (b && false) ≡ false
both_false true = refl
both_false false = refl

-- where nothing is delivered the marks stay
pub gained-none : (n marks : ℕ) (d : ℕ → Bool) → marks < 2 ^ n → ((i : ℕ) → d i ≡ false) → gained n marks d ≡ marks
gained-none n marks d l e =
    sym (gained-sum n marks d l (λ i q. rw (e i) (both_false (bit i marks))))
    ∙ ap (λ (x : ℕ). marks + x) (bits_same d (λ i. false) n (λ i q. e i) ∙ none-set n)
    ∙ (let z : marks + 0 ≡ marks = omega arith in z)

source_kept : (r : Reg) (v y : Bool) → source_reg (source_next r v y) ≡ true
source_kept r true true = refl
source_kept r true false = refl
source_kept r false true = refl
source_kept r false false = refl

data_kept : (r : Reg) (a : Sig) (t v : Bool) → buffer_reg r ≡ true → buffer_reg (cond t (record { word = cond v a.word 0; marks = one v }) r) ≡ true
data_kept r a true true s = refl
data_kept r a true false s = refl
data_kept r a false v s = s

control_kept : (r : Reg) (a : Sig) (f y v : Bool) → buffer_reg r ≡ true
    → buffer_reg (cond f (cond y empty r) (record { word = cond v a.word 0; marks = one v })) ≡ true
control_kept r a true true v s = refl
control_kept r a true false v s = s
control_kept r a false y true s = refl
control_kept r a false y false s = refl

module _ (m : ℕ) (two : 2 ≤ m) (r : Reg) (s : fork_reg m r ≡ true) (a : Sig) (y : ℕ → Bool) where
  abbrev copies : ℕ → Bool
  copies j = a.valid && not (bit j r.marks)

  low : r.marks < 2 ^ m - 1
  low = ltb-true r.marks (2 ^ m - 1) (and_2 (eqb r.word 0) (ltb r.marks (2 ^ m - 1)) s)

  next_low : (v f : Bool) → a.valid ≡ v → all_done m r.marks (went copies y) ≡ f
      → fork_next (v && f) (gained m r.marks (went copies y)) < 2 ^ m - 1
  next_low true true e g = omega (arith, pow_mono two)
  next_low true false e g = gained_fewer m r.marks (went copies y) g
  next_low false f e g =
      let idle : (j : ℕ) → went copies y j ≡ false = λ j. rw e in
      subst (λ (x : ℕ). x < 2 ^ m - 1) (sym (gained-none m r.marks (went copies y) (omega (arith, low)) idle)) low

  fork_kept : fork_reg m (record { word = r.word; marks = fork_next (fork_ready m r.marks a.valid (went copies y)) (gained m r.marks (went copies y)) }) ≡ true
  fork_kept =
      and_both (eqb r.word 0) _ (and_1 (eqb r.word 0) (ltb r.marks (2 ^ m - 1)) s)
      (lt-ltb (fork_next (fork_ready m r.marks a.valid (went copies y)) (gained m r.marks (went copies y))) (2 ^ m - 1)
      (next_low a.valid (all_done m r.marks (went copies y)) refl refl))

-- a winner whose input is valid is recorded as 1 to m
module _ (m : ℕ) (r : Reg) (x : ℕ → Sig) (d : ℕ → Bool) (s : merge_reg m r ≡ true) where
  kept_with : (o : Option ℕ) → winner m x r.word ≡ o → (v f : Bool) → (chosen o x).valid ≡ v → all_done 2 r.marks d ≡ f
      → merge_reg m (merge_next r v f (recorded o) (gained 2 r.marks d)) ≡ true
  kept_with o e false f q g = s
  kept_with o e true true q g = rw (le-leb 0 m (omega arith))
  kept_with none e true false q g = let z : ◌≡◌ {A = ℕ} 0 1 = cc in absurd (omega arith)
  kept_with (some t) e true false q g =
      let few : gained 2 r.marks d < 3 = gained_fewer 2 r.marks d g in
      let below : t < m = winner-below m x r.word t e in
      rw (le-leb (suc t) m below, le-leb (gained 2 r.marks d) 2 (omega arith), ne_eqb (suc t) 0 (omega arith))

  merge_kept : merge_reg m (merge_next r (won m r x).valid (all_done 2 r.marks d) (recorded (winner m x r.word)) (gained 2 r.marks d)) ≡ true
  merge_kept = kept_with (winner m x r.word) refl (won m r x).valid (all_done 2 r.marks d) refl refl

-- The registers after a cycle whose signals are worked out by the equations are in shape.
pub shape_next : (K : Kind) → Copies K → (mask : Bool) (r : Reg) (x : ℕ → Sig) (y : ℕ → Bool) → in_shape K r ≡ true
    → in_shape K (next_of K r x (ready_of K mask r x (valid_at (out_of K mask r x)) y) (valid_at (out_of K mask r x)) y) ≡ true
shape_next (source xs) k mask r x y s = source_kept r (out_of (source xs) mask r x 0).valid (y 0)
shape_next sink k mask r x y s = s
shape_next (operator o) k mask r x y s = s
shape_next (constant o c) k mask r x y s = s
shape_next (fork m) k mask r x y s = fork_kept m k r s (x 0) y
shape_next (mux m) k mask r x y s = s
shape_next (demux m) k mask r x y s = s
shape_next (merge m cs) k mask r x y s = merge_kept m r x (went (valid_at (out_of (merge m cs) mask r x)) y) s
shape_next (buffer o) k mask r x y s = data_kept r (x 0) (ready_of (buffer o) mask r x (valid_at (out_of (buffer o) mask r x)) y 0) (x 0).valid s
shape_next control k mask r x y s = control_kept r (x 0) (full r) (y 0) ((x 0).valid && not (y 0)) s
shape_next unused k mask r x y s = s

pub shape_fresh : (K : Kind) → Copies K → in_shape K (fresh_reg K) ≡ true
shape_fresh (source xs) k = refl
shape_fresh sink k = refl
shape_fresh (operator o) k = refl
shape_fresh (constant o c) k = refl
shape_fresh (fork m) k = lt-ltb 0 (2 ^ m - 1) (omega (arith, pow_mono k))
shape_fresh (mux m) k = refl
shape_fresh (demux m) k = refl
shape_fresh (merge m cs) k = rw (le-leb 0 m (omega arith))
shape_fresh (buffer none) k = refl
shape_fresh (buffer (some w)) k = refl
shape_fresh control k = refl
shape_fresh unused k = refl
