-- What a block's equations depend on: its outputs on the inputs that they wait for, readiness at its inputs on its outputs, both on its own ports alone.
-- Assumes nothing.
use Rattle.std.proofs.Common.{◌≡◌, ℕ, zero, suc, ◌<◌, ◌≤◌, Bool, true, false, cond, ltb, sym, refl, ap, ◌∙◌, arith, ltb-true, lt-ltb}
use mathlib.Core.Option.{Option, none, some}
use Rattle.blocks.specs.Folds.{or_else, lowest}
use Rattle.blocks.specs.Kinds.{Kind, source, sink, operator, constant, fork, mux, demux, merge, buffer, control, unused}
use Rattle.blocks.specs.Ports.{n_in, n_out}
use Rattle.blocks.specs.Words.{reach}
use Rattle.blocks.specs.Signals.{valid_at}
use Rattle.blocks.specs.Equations.{went, done_at, winner, won, recorded, out_of, ready_of, next_of}
use Rattle.blocks.specs.declared.Sig.{Sig}
use Rattle.blocks.specs.declared.Reg.{Reg}
use Rattle.blocks.proofs.Folds.{all_same}
use Rattle.blocks.proofs.Bits.{bits_same}
use Rattle.blocks.proofs.Options.{none-some, named_true, named_same, chosen_same, chosen-valid, reach-below}

-- what is valid at its outputs depends on what is valid at its inputs
abbrev pub waits : Kind → Bool
waits (source xs) = false
waits sink = true
waits (operator o) = true
waits (constant o c) = true
waits (fork m) = true
waits (mux m) = true
waits (demux m) = true
waits (merge m cs) = true
waits (buffer o) = false
waits control = true
waits unused = true

-- readiness at its inputs depends on readiness at its outputs
abbrev pub leans : Kind → Bool
leans (source xs) = false
leans sink = false
leans (operator o) = true
leans (constant o c) = true
leans (fork m) = true
leans (mux m) = true
leans (demux m) = true
leans (merge m cs) = true
leans (buffer o) = true
leans control = false
leans unused = false

-- ## The winner of a merge

pub lowest_same : (m : ℕ) (g h : ℕ → Bool) → ((j : ℕ) → j < m → g j ≡ h j) → lowest g m ≡ lowest h m
unfolding lowest
lowest_same zero g h k = refl
lowest_same (suc m) g h k = rw (lowest_same m g h (λ j q. k j (omega arith)), k m (omega arith))

pub lowest-below : (m : ℕ) (g : ℕ → Bool) (t : ℕ) → lowest g m ≡ some t → t < m
unfolding lowest
lowest-below zero g t e = none-some e
lowest-below (suc m) g t e = go (lowest g m) (lowest-below m g t) (g m) e
  where
    go : (o : Option ℕ) → (o ≡ some t → t < m) → (x : Bool) → or_else o (cond x (some m) none) ≡ some t → t < suc m
    go (some u) h x q = omega (arith, h q)
    go none h true q = let z : m ≡ t = cc in omega arith
    go none h false q = none-some q

pub winner_same : (m : ℕ) (x y : ℕ → Sig) (w : ℕ) → ((i : ℕ) → i < m → x i ≡ y i) → winner m x w ≡ winner m y w
winner_same m x y zero h = lowest_same m (valid_at x) (valid_at y) (λ i q. ap (λ (s : Sig). s.valid) (h i q))
winner_same m x y (suc t) h = refl

pub winner-below : (m : ℕ) (x : ℕ → Sig) (w t : ℕ) → winner m x w ≡ some t → t < m
winner-below m x zero t e = lowest-below m (valid_at x) t e
winner-below m x (suc w) t e = go (ltb w m) refl e
  where
    go : (b : Bool) → ltb w m ≡ b → cond b (some w) none ≡ some t → t < m
    go true l q = let z : w ≡ t = cc in omega (arith, ltb-true w m l)
    go false l q = none-some q

-- where the winner's input is valid, there is a winner
pub won-valid : (m : ℕ) (r : Reg) (x : ℕ → Sig) → (won m r x).valid ≡ true → (t : ℕ) × (winner m x r.word ≡ some t) × ((x t).valid ≡ true)
won-valid m r x q = named_true (winner m x r.word) (valid_at x) (sym (chosen-valid (winner m x r.word) x) ∙ q)

-- a recorded number of 1 to m is its own winner
pub held_is : (w m : ℕ) (x : ℕ → Sig) → (w ≡ 0 → ⊥) → w ≤ m → w ≡ recorded (winner m x w)
held_is zero m x n h = absurd (n refl)
held_is (suc t) m x n h = rw (lt-ltb t m h)

won_same : (m : ℕ) (r : Reg) (x y : ℕ → Sig) → ((i : ℕ) → i < m → x i ≡ y i) → won m r x ≡ won m r y
won_same m r x y h =
    rw (winner_same m x y r.word h) (chosen_same (winner m y r.word) x y (λ t e. h t (winner-below m y r.word t e)))

-- ## What is offered

pub out_local : (K : Kind) (mask : Bool) (r : Reg) (x y : ℕ → Sig) → (waits K ≡ true → (i : ℕ) → i < n_in K → x i ≡ y i) → (j : ℕ) → out_of K mask r x j ≡ out_of K mask r y j
out_local (source xs) mask r x y h j = refl
out_local sink mask r x y h j = refl
out_local (operator o) mask r x y h j = rw (h refl 0 (omega arith), h refl 1 (omega arith))
out_local (constant o c) mask r x y h j = rw (h refl 0 (omega arith))
out_local (fork m) mask r x y h j = rw (h refl 0 (omega arith))
out_local (mux m) mask r x y h j =
    rw (
      h refl 0 (omega arith),
      chosen_same (reach m (y 0).word) (λ t. x (suc t)) (λ t. y (suc t)) (λ t e. h refl (suc t) (omega (arith, reach-below m (y 0).word t e))),
    )
out_local (demux m) mask r x y h j = rw (h refl 0 (omega arith), h refl 1 (omega arith))
out_local (merge m cs) mask r x y h zero = rw (won_same m r x y (h refl))
out_local (merge m cs) mask r x y h (suc j) = rw (won_same m r x y (h refl), winner_same m x y r.word (h refl))
out_local (buffer o) mask r x y h j = refl
out_local control mask r x y h j = rw (h refl 0 (omega arith))
out_local unused mask r x y h j = refl

-- ## Readiness

done_same : (marks : ℕ) (v y v' y' : ℕ → Bool) (j : ℕ) → v j ≡ v' j → y j ≡ y' j → done_at marks (went v y) j ≡ done_at marks (went v' y') j
done_same marks v y v' y' j e f = rw (e, f)

pub ready_local : (K : Kind) (mask : Bool) (r : Reg) (x : ℕ → Sig) (v y z : ℕ → Bool) → (leans K ≡ true → (j : ℕ) → j < n_out K → y j ≡ z j) → (i : ℕ)
    → ready_of K mask r x v y i ≡ ready_of K mask r x v z i
ready_local (source xs) mask r x v y z h i = refl
ready_local sink mask r x v y z h i = refl
ready_local (operator o) mask r x v y z h i = rw (h refl 0 (omega arith))
ready_local (constant o c) mask r x v y z h i = rw (h refl 0 (omega arith))
ready_local (fork m) mask r x v y z h i =
    rw (all_same (done_at r.marks (went v y)) (done_at r.marks (went v z)) m (λ j q. done_same r.marks v y v z j refl (h refl j q)))
ready_local (mux m) mask r x v y z h zero = rw (h refl 0 (omega arith))
ready_local (mux m) mask r x v y z h (suc i) = rw (h refl 0 (omega arith))
ready_local (demux m) mask r x v y z h i = named_same (reach m (x 0).word) (went v y) (went v z) (λ t e. rw (h refl t (reach-below m (x 0).word t e)))
ready_local (merge m cs) mask r x v y z h i =
    rw (all_same (done_at r.marks (went v y)) (done_at r.marks (went v z)) 2 (λ j q. done_same r.marks v y v z j refl (h refl j q)))
ready_local (buffer o) mask r x v y z h i = rw (h refl 0 (omega arith))
ready_local control mask r x v y z h i = refl
ready_local unused mask r x v y z h i = refl

pub ready_reads : (K : Kind) (mask : Bool) (r : Reg) (x x' : ℕ → Sig) (v v' y : ℕ → Bool) → ((i : ℕ) → i < n_in K → x i ≡ x' i) → ((j : ℕ) → j < n_out K → v j ≡ v' j)
    → (i : ℕ) → ready_of K mask r x v y i ≡ ready_of K mask r x' v' y i
ready_reads (source xs) mask r x x' v v' y h k i = refl
ready_reads sink mask r x x' v v' y h k i = refl
ready_reads (operator o) mask r x x' v v' y h k i = rw (k 0 (omega arith))
ready_reads (constant o c) mask r x x' v v' y h k i = rw (k 0 (omega arith))
ready_reads (fork m) mask r x x' v v' y h k i =
    rw (
      h 0 (omega arith),
      all_same (done_at r.marks (went v y)) (done_at r.marks (went v' y)) m (λ j q. done_same r.marks v y v' y j (k j q) refl),
    )
ready_reads (mux m) mask r x x' v v' y h k zero = rw (k 0 (omega arith))
ready_reads (mux m) mask r x x' v v' y h k (suc i) = rw (k 0 (omega arith), h 0 (omega arith))
ready_reads (demux m) mask r x x' v v' y h k i =
    rw (h 0 (omega arith)) (named_same (reach m (x' 0).word) (went v y) (went v' y) (λ t e. rw (k t (reach-below m (x' 0).word t e))))
ready_reads (merge m cs) mask r x x' v v' y h k i =
    rw (
      won_same m r x x' h,
      winner_same m x x' r.word h,
      all_same (done_at r.marks (went v y)) (done_at r.marks (went v' y)) 2 (λ j q. done_same r.marks v y v' y j (k j q) refl),
    )
ready_reads (buffer o) mask r x x' v v' y h k i = refl
ready_reads control mask r x x' v v' y h k i = refl
ready_reads unused mask r x x' v v' y h k i = refl

-- ## The next registers

pub next_local : (K : Kind) (r : Reg) (x x' : ℕ → Sig) (t t' v v' y y' : ℕ → Bool) → ((i : ℕ) → i < n_in K → x i ≡ x' i) → ((i : ℕ) → i < n_in K → t i ≡ t' i)
    → ((j : ℕ) → j < n_out K → v j ≡ v' j) → ((j : ℕ) → j < n_out K → y j ≡ y' j) → next_of K r x t v y ≡ next_of K r x' t' v' y'
next_local (source xs) r x x' t t' v v' y y' hx ht hv hy = rw (hv 0 (omega arith), hy 0 (omega arith))
next_local sink r x x' t t' v v' y y' hx ht hv hy = refl
next_local (operator o) r x x' t t' v v' y y' hx ht hv hy = refl
next_local (constant o c) r x x' t t' v v' y y' hx ht hv hy = refl
next_local (fork m) r x x' t t' v v' y y' hx ht hv hy =
    rw (
      ht 0 (omega arith),
      bits_same (done_at r.marks (went v y)) (done_at r.marks (went v' y')) m (λ j q. done_same r.marks v y v' y' j (hv j q) (hy j q)),
    )
next_local (mux m) r x x' t t' v v' y y' hx ht hv hy = refl
next_local (demux m) r x x' t t' v v' y y' hx ht hv hy = refl
next_local (merge m cs) r x x' t t' v v' y y' hx ht hv hy =
    rw (
      won_same m r x x' hx,
      winner_same m x x' r.word hx,
      all_same (done_at r.marks (went v y)) (done_at r.marks (went v' y')) 2 (λ j q. done_same r.marks v y v' y' j (hv j q) (hy j q)),
      bits_same (done_at r.marks (went v y)) (done_at r.marks (went v' y')) 2 (λ j q. done_same r.marks v y v' y' j (hv j q) (hy j q)),
    )
next_local (buffer o) r x x' t t' v v' y y' hx ht hv hy = rw (hx 0 (omega arith), ht 0 (omega arith))
next_local control r x x' t t' v v' y y' hx ht hv hy = rw (hx 0 (omega arith), hy 0 (omega arith))
next_local unused r x x' t t' v v' y y' hx ht hv hy = refl
