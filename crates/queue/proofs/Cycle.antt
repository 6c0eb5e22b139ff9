-- One cycle of one block against one firing of it, kind by kind: the only place of the guarantee that looks into the equations. What a block offers is the word
-- that it holds or the word that its next firing gives (`offer`), and a cycle is to it no firing or one (`close`).
-- Assumes nothing.
use Prim.Native.Nat.{ℕ, zero, suc, ◌+◌, ◌-◌, ◌<◌}
use mathlib.Core.Path.{◌≡◌, refl, sym, ap, ◌∙◌, subst}
use mathlib.Core.Bool.{Bool, true, false, cond, not, ◌&&◌, ◌||◌, and-false, and-eq-true_iff, true≢false}
use mathlib.Core.Logic.{◌⊎◌, inl, inr}
use mathlib.Core.List.{List, [], ◌∷◌}
use mathlib.Core.Option.{Option, some}
use native.Mathlib.Nat.{zero-div}
use native.Mathlib.Numerals.{add-one}
use native.Mathlib.Omega.{arith}
use borrow.Author.Tests.{eqb-true, ltb-true, lt-ltb, not-true}
use lib.Dec.{ltb, eqb}
use lib.ListN.{length, get_elem?, get_or}
use Rattle.blocks.specs.Folds.{one, bit, bits}
use Rattle.blocks.specs.Kinds.{Kind, source, sink, operator, constant, fork, mux, demux, merge, buffer, control, unused}
use Rattle.blocks.specs.Ports.{n_in, n_out}
use Rattle.blocks.specs.Words.{reach}
use Rattle.blocks.specs.Signals.{shown, chosen, named, valid_at, empty as cleared, full}
use Rattle.blocks.specs.Equations.{went, done_at, all_done, gained, winner, won, out_of, ready_of, next_of}
use Rattle.blocks.specs.Firing.{Turn, turn, each, swallow, picks, choose, send, sides, join}
use Rattle.blocks.specs.declared.Sig.{Sig}
use Rattle.blocks.specs.declared.Reg.{Reg}
use Rattle.blocks.proofs.Folds.{only, pair, all_at}
use Rattle.blocks.proofs.Bits.{bit-bits}
use Rattle.blocks.proofs.Options.{test, named_true, chosen-valid, reach-below}
use Rattle.blocks.proofs.Local.{winner-below, won-valid, waits}
use Rattle.queue.specs.History.{early}
use Rattle.queue.proofs.Words.{look_below}

-- What the ports of a block show in one cycle, and whether they are ready.
pub record PortSignals : Type 0 where
  pub in_sig : ℕ → Sig
  pub in_r : ℕ → Bool
  pub out_sig : ℕ → Sig
  pub out_r : ℕ → Bool

-- a word is delivered at an input, at an output
abbrev pub came : PortSignals → ℕ → Bool
came p i = (p.in_sig i).valid && p.in_r i

abbrev pub gone : PortSignals → ℕ → Bool
gone p = went (valid_at p.out_sig) p.out_r

-- One cycle of a block, from the registers r to r': its equations hold.
pub record Works (K : Kind) (mask : Bool) (p : PortSignals) (r r' : Reg) : Type 0 where
  pub showing : (j : ℕ) → j < n_out K → p.out_sig j ≡ out_of K mask r p.in_sig j
  pub taking : (i : ℕ) → i < n_in K → p.in_r i ≡ ready_of K mask r p.in_sig (valid_at p.out_sig) p.out_r i
  pub going : r' ≡ next_of K r p.in_sig p.in_r (valid_at p.out_sig) p.out_r

-- What is asked of a merge, and of no other kind.
abbrev pub IfMerge : (ℕ → List ℕ → Type 0) → Kind → Type 0
IfMerge P (source xs) = Unit {0}
IfMerge P sink = Unit {0}
IfMerge P (operator o) = Unit {0}
IfMerge P (constant o v) = Unit {0}
IfMerge P (fork m) = Unit {0}
IfMerge P (mux m) = Unit {0}
IfMerge P (demux m) = Unit {0}
IfMerge P (merge m cs) = P m cs
IfMerge P (buffer o) = Unit {0}
IfMerge P control = Unit {0}
IfMerge P unused = Unit {0}

-- A word that the block has taken and not yet given: 1 for a full buffer.
abbrev pub held : Kind → Reg → ℕ
held (source xs) r = 0
held sink r = 0
held (operator o) r = 0
held (constant o v) r = 0
held (fork m) r = 0
held (mux m) r = 0
held (demux m) r = 0
held (merge m cs) r = 0
held (buffer o) r = one (full r)
held control r = one (full r)
held unused r = 0

-- A merge's recorded winner is choice k, and without a winner no side has gone.
abbrev pub Recorded : List ℕ → ℕ → ℕ → ℕ → Type 0
Recorded cs k zero marks = marks ≡ 0
Recorded cs k (suc t) marks = get_elem? cs k ≡ some t

-- A source's word register is its number of turns; a merge's has its next choice.
abbrev pub Placed : Kind → Reg → ℕ → Type 0
Placed (source xs) r k = r.word ≡ k
Placed sink r k = Unit {0}
Placed (operator o) r k = Unit {0}
Placed (constant o v) r k = Unit {0}
Placed (fork m) r k = Unit {0}
Placed (mux m) r k = Unit {0}
Placed (demux m) r k = Unit {0}
Placed (merge m cs) r k = Recorded cs k r.word r.marks
Placed (buffer o) r k = Unit {0}
Placed control r k = Unit {0}
Placed unused r k = Unit {0}

-- A merge's winner of this cycle whose input is valid is its next choice.
abbrev pub Steered : Kind → PortSignals → Reg → ℕ → Type 0
Steered K p r k = IfMerge (λ m cs. (t : ℕ) → winner m p.in_sig r.word ≡ some t → (p.in_sig t).valid ≡ true → get_elem? cs k ≡ some t) K

-- Every input that is valid shows its word at the front `f`.
abbrev pub Shown : Kind → PortSignals → (ℕ → Option ℕ) → Type 0
Shown K p f = (i : ℕ) → i < n_in K → (p.in_sig i).valid ≡ true → f i ≡ some (p.in_sig i).word

-- The next firing gives the word offered at output `j`.
pub record Given (K : Kind) (p : PortSignals) (r : Reg) (k : ℕ) (f : ℕ → Option ℕ) (j : ℕ) : Type 0 where
  pub none-held : held K r ≡ 0
  pub none-early : early K r j ≡ 0
  pub firing : Turn
  pub fires : turn K k f ≡ some firing
  pub gives_it : firing.gives j ≡ (p.out_sig j).word ∷ []

-- The word offered at output `j` is the one held, or the one that the next firing gives.
abbrev pub Offer : Kind → PortSignals → Reg → ℕ → (ℕ → Option ℕ) → ℕ → Type 0
Offer K p r k f j = ((held K r ≡ 1) × ((p.out_sig j).word ≡ r.word)) ⊎ Given K p r k f j

-- No firing belongs to this cycle.
pub record Stay (K : Kind) (p : PortSignals) (r r' : Reg) (k : ℕ) : Type 0 where
  pub ins_stay : (i : ℕ) → i < n_in K → came p i ≡ false
  pub outs_stay : (j : ℕ) → j < n_out K → one (gone p j) + held K r' + early K r j ≡ held K r + early K r' j
  pub held_stay : (j : ℕ) → j < n_out K → held K r' ≡ 1 → (held K r ≡ 1) × (r'.word ≡ r.word) × (gone p j ≡ false)
  pub place_stay : Placed K r' k

-- One firing belongs to this cycle.
pub record Move (K : Kind) (p : PortSignals) (r r' : Reg) (k : ℕ) (f : ℕ → Option ℕ) : Type 0 where
  pub turned : Turn
  pub turns : turn K k f ≡ some turned
  pub ins_move : (i : ℕ) → i < n_in K → one (came p i) ≡ turned.takes i
  pub outs_move : (j : ℕ) → j < n_out K → one (gone p j) + held K r' + early K r j ≡ held K r + early K r' j + length (turned.gives j)
  pub held_move : (j : ℕ) → j < n_out K → held K r' ≡ 1 → (turned.gives j ≡ r'.word ∷ []) × (early K r' j ≡ 0)
  pub place_move : Placed K r' (suc k)

-- A conjunction that holds. (Its parts are written out at each use: antt does not find them.)
and2 : (a b : Bool) → (a && b) ≡ true → (a ≡ true) × (b ≡ true)
and2 a b e = (and-eq-true_iff a b).0 e

and3 : (a b c : Bool) → (a && (b && c)) ≡ true → (a ≡ true) × (b ≡ true) × (c ≡ true)
and3 a b c e = let h = and2 a (b && c) e in let g = and2 b c h.1 in (h.0, g.0, g.1)

-- A port that shows a word under a test, and is valid.
shows : (a : Sig) (t : Bool) (w : ℕ) → a ≡ shown t w → a.valid ≡ true → (t ≡ true) × (a.word ≡ w)
shows a t w e v =
    let holds : t ≡ true = sym (ap (λ (z : Sig). z.valid) e) ∙ v in
    (holds, ap (λ (z : Sig). z.word) e ∙ (rw holds))

pub no_bits : (j : ℕ) → bit j 0 ≡ false
unfolding bit
no_bits j = rw zero-div

-- a fork's mark after the cycle
next_bit : (m j : ℕ) (g : ℕ → Bool) (t : Bool) → j < m → bit j (cond t 0 (bits g m)) ≡ cond t false (g j)
next_bit m j g true q = no_bits j
next_bit m j g false q = bit-bits g m j q

sides_one : (t w j : ℕ) → length (sides t w j) ≡ 1
sides_one t w zero = refl
sides_one t w (suc j) = refl

-- a merge's winner as it is reported
pub less_one : (t : ℕ) → suc t - 1 ≡ t
less_one t = omega arith

-- A copy that goes had not gone before: so its mark after counts both.
copy_counts : (x y v r : Bool) → y ≡ (v && not x) → one (y && r) + 0 + one x ≡ 0 + one (x || (y && r))
copy_counts true y true r e = rw e
copy_counts true y false r e = rw e
copy_counts false true v true e = refl
copy_counts false true v false e = refl
copy_counts false false v r e = refl

-- A data buffer that is ready gives out what it holds, and one that is not ready keeps it.
frees : (x y : Bool) → (not x || y) ≡ true → one (x && y) ≡ one x
frees true y e = rw e
frees false y e = refl

pub keeps : (x y : Bool) → (not x || y) ≡ false → (x ≡ true) × (y ≡ false)
keeps true y e = (refl, e)
keeps false y e = absurd (true≢false e)

empty : (x : Bool) → x ≡ false → one x ≡ 1 → ⊥
empty x e q = let z : ◌≡◌ {A = ℕ} 0 1 = (rw e at q) in omega arith

module _ (mask : Bool) (p : PortSignals) (r r' : Reg) (k : ℕ) (f : ℕ → Option ℕ) where
  -- The word offered at output `j`.
  abbrev Offers : Kind → ℕ → Type 0
  Offers K j = (p.out_sig j).valid ≡ true → Offer K p r k f j

  -- The next firing gives word `w` on output `j`, and neither register speaks of it.
  given : (K : Kind) (j : ℕ) (t : Turn) → held K r ≡ 0 → early K r j ≡ 0 → turn K k f ≡ some t → t.gives j ≡ (p.out_sig j).word ∷ [] → Offer K p r k f j
  given K j t hh he ht hg = inr (record { none-held = hh; none-early = he; firing = t; fires = ht; gives_it = hg })

  -- what is valid at an output
  valid_of : (K : Kind) → Works K mask p r r' → (j : ℕ) → j < n_out K → (p.out_sig j).valid ≡ (out_of K mask r p.in_sig j).valid
  valid_of K s j q = ap (λ (z : Sig). z.valid) (s.showing j q)

  -- A block with a valid output, and nothing held, can fire.
  fires_source : (xs : List ℕ) → Works (source xs) mask p r r' → r.word ≡ k → (p.out_sig 0).valid ≡ true → turn (source xs) k f ≡ some (each (p.out_sig 0).word)
  fires_source xs s pl v =
      let h = shows (p.out_sig 0) _ _ (s.showing 0 (omega arith)) v in
      let l : k < length xs = subst (λ (x : ℕ). x < length xs) pl (ltb-true r.word (length xs) (and2 (ltb r.word (length xs)) (full r || mask) h.0).0) in
      let e : (p.out_sig 0).word ≡ get_or xs k 0 = h.1 ∙ ap (λ (x : ℕ). get_or xs x 0) pl in
      rw (look_below xs k l, e)

  fires_operator : (o : ℕ) → Works (operator o) mask p r r' → Shown (operator o) p f → (p.out_sig 0).valid ≡ true → turn (operator o) k f ≡ some (each (p.out_sig 0).word)
  fires_operator o s h v =
      let e = shows (p.out_sig 0) _ _ (s.showing 0 (omega arith)) v in
      let both = and2 (p.in_sig 0).valid (p.in_sig 1).valid e.0 in
      rw (h 0 (omega arith) both.0, h 1 (omega arith) both.1, e.1)

  fires_constant : (o x : ℕ) → Works (constant o x) mask p r r' → Shown (constant o x) p f → (p.out_sig 0).valid ≡ true → turn (constant o x) k f ≡ some (each (p.out_sig 0).word)
  fires_constant o x s h v = let e = shows (p.out_sig 0) _ _ (s.showing 0 (omega arith)) v in rw (h 0 (omega arith) e.0, e.1)

  -- (The chosen port is a variable of its own here: `rw` could not replace `reach ..` under a port that was computed from it.)
  mux_at : (m t : ℕ) → Works (mux m) mask p r r' → Shown (mux m) p f → (p.out_sig 0).valid ≡ true → reach m (p.in_sig 0).word ≡ some t → (p.in_sig 0).valid ≡ true → (p.in_sig (suc t)).valid ≡ true
      → turn (mux m) k f ≡ some (choose t (p.out_sig 0).word)
  mux_at m t s h v e a b =
      let w : (p.out_sig 0).word ≡ (p.in_sig (suc t)).word = (shows (p.out_sig 0) _ _ (s.showing 0 (omega arith)) v).1 ∙ (rw e) in
      rw (h 0 (omega arith) a, e, h (suc t) (omega (arith, reach-below m (p.in_sig 0).word t e)) b, w)

  fires_mux : (m : ℕ) → Works (mux m) mask p r r' → Shown (mux m) p f → (p.out_sig 0).valid ≡ true
      → (t : ℕ) × (reach m (p.in_sig 0).word ≡ some t) × ((p.in_sig 0).valid ≡ true) × ((p.in_sig (suc t)).valid ≡ true) × (turn (mux m) k f ≡ some (choose t (p.out_sig 0).word))
  fires_mux m s h v =
      let o : Option ℕ = reach m (p.in_sig 0).word in
      let both = and2 (p.in_sig 0).valid (chosen o (λ t. p.in_sig (suc t))).valid (shows (p.out_sig 0) _ _ (s.showing 0 (omega arith)) v).0 in
      let at = named_true o (λ t. (p.in_sig (suc t)).valid) (sym (chosen-valid o (λ t. p.in_sig (suc t))) ∙ both.1) in
      (at.0, at.1, both.0, at.2, mux_at m at.0 s h v at.1 both.0 at.2)

  demux_at : (m t j : ℕ) → Works (demux m) mask p r r' → Shown (demux m) p f → j < m → (p.out_sig j).valid ≡ true → reach m (p.in_sig 0).word ≡ some t → (p.in_sig 0).valid ≡ true → (p.in_sig 1).valid ≡ true
      → turn (demux m) k f ≡ some (send t (p.out_sig j).word)
  demux_at m t j s h q v e a b = rw (h 0 (omega arith) a, e, h 1 (omega arith) b, (shows (p.out_sig j) _ _ (s.showing j q) v).1)

  fires_demux : (m : ℕ) → Works (demux m) mask p r r' → Shown (demux m) p f → (j : ℕ) → j < m → (p.out_sig j).valid ≡ true
      → (t : ℕ) × (reach m (p.in_sig 0).word ≡ some t) × (eqb j t ≡ true) × ((p.in_sig 0).valid ≡ true) × ((p.in_sig 1).valid ≡ true) × (turn (demux m) k f ≡ some (send t (p.out_sig j).word))
  fires_demux m s h j q v =
      let all = and3 (p.in_sig 0).valid (p.in_sig 1).valid (named (reach m (p.in_sig 0).word) (eqb j)) (shows (p.out_sig j) _ _ (s.showing j q) v).0 in
      let at = named_true (reach m (p.in_sig 0).word) (eqb j) all.2 in
      (at.0, at.1, at.2, all.0, all.1, demux_at m at.0 j s h q v at.1 all.0 all.1)

  offer-fork : (m : ℕ) → Works (fork m) mask p r r' → Shown (fork m) p f → (j : ℕ) → j < m → Offers (fork m) j
  offer-fork m s h j q v =
      let e = shows (p.out_sig j) _ _ (s.showing j q) v in
      let both = and2 (p.in_sig 0).valid (not (bit j r.marks)) e.0 in
      given (fork m) j (each (p.in_sig 0).word) refl (rw (not-true (bit j r.marks) both.1)) (rw (h 0 (omega arith) both.0)) (rw e.1)

  offer-mux : (m : ℕ) → Works (mux m) mask p r r' → Shown (mux m) p f → Offers (mux m) 0
  offer-mux m s h v = let g = fires_mux m s h v in given (mux m) 0 (choose g.0 (p.out_sig 0).word) refl refl g.4 refl

  offer-demux : (m : ℕ) → Works (demux m) mask p r r' → Shown (demux m) p f → (j : ℕ) → j < m → Offers (demux m) j
  offer-demux m s h j q v = let g = fires_demux m s h j q v in given (demux m) j (send g.0 (p.out_sig j).word) refl refl g.5 (rw g.2)

  offer-buffer : (o : Option ℕ) → Works (buffer o) mask p r r' → Offers (buffer o) 0
  offer-buffer o s v = let e = shows (p.out_sig 0) (full r) r.word (s.showing 0 (omega arith)) v in inl (rw e.0, e.1)

  offer-control : Works control mask p r r' → Shown control p f → Offers control 0
  offer-control s h v =
      test (full r)
      (λ z. inl (rw z, ap (λ (a : Sig). a.word) (s.showing 0 (omega arith)) ∙ rw z))
      (λ z. let e = shows (p.out_sig 0) (p.in_sig 0).valid (p.in_sig 0).word (s.showing 0 (omega arith) ∙ rw z) v in
      given control 0 (each (p.in_sig 0).word) (rw z) refl (rw (h 0 (omega arith) e.0)) (rw e.1))

  -- (The winner is a variable of its own here, as the chosen port of a mux.)
  merge_at : (m : ℕ) (cs : List ℕ) (t : ℕ) → Steered (merge m cs) p r k → Shown (merge m cs) p f → winner m p.in_sig r.word ≡ some t → (p.in_sig t).valid ≡ true
      → turn (merge m cs) k f ≡ some (join t (p.in_sig t).word)
  merge_at m cs t st h e v = let l : t < m = winner-below m p.in_sig r.word t e in rw (st t e v, lt-ltb t m l, h t l v)

  offer_side : (m : ℕ) (cs : List ℕ) (j w : ℕ) → Steered (merge m cs) p r k → Shown (merge m cs) p f
      → ((t : ℕ) → winner m p.in_sig r.word ≡ some t → sides t (p.in_sig t).word j ≡ w ∷ [])
      → p.out_sig j ≡ shown ((won m r p.in_sig).valid && not (bit j r.marks)) w → Offers (merge m cs) j
  offer_side m cs j w st h side e v =
      let a = shows (p.out_sig j) _ _ e v in
      let both = and2 (won m r p.in_sig).valid (not (bit j r.marks)) a.0 in
      let at = won-valid m r p.in_sig both.0 in
      given (merge m cs) j (join at.0 (p.in_sig at.0).word) refl (rw (not-true (bit j r.marks) both.1)) (merge_at m cs at.0 st h at.1 at.2)
      (side at.0 at.1 ∙ rw a.1)

  offer-merge : (m : ℕ) (cs : List ℕ) → Works (merge m cs) mask p r r' → Steered (merge m cs) p r k → Shown (merge m cs) p f → (j : ℕ) → j < 2 → Offers (merge m cs) j
  offer-merge m cs s st h =
      pair (Offers (merge m cs)) (offer_side m cs 0 _ st h (λ t e. rw e) (s.showing 0 (omega arith)))
      (offer_side m cs 1 _ st h (λ t e. rw (e, less_one t)) (s.showing 1 (omega arith)))

  pub offer : (K : Kind) → Steered K p r k → Works K mask p r r' → Placed K r k → (waits K ≡ true → Shown K p f) → (j : ℕ) → j < n_out K → Offers K j
  offer (source xs) st s pl h j q = only (Offers (source xs)) (λ v. given (source xs) 0 (each (p.out_sig 0).word) refl refl (fires_source xs s pl v) refl) j q
  offer sink st s pl h j q = absurd (omega arith)
  offer (operator o) st s pl h j q = only (Offers (operator o)) (λ v. given (operator o) 0 (each (p.out_sig 0).word) refl refl (fires_operator o s (h refl) v) refl) j q
  offer (constant o x) st s pl h j q = only (Offers (constant o x)) (λ v. given (constant o x) 0 (each (p.out_sig 0).word) refl refl (fires_constant o x s (h refl) v) refl) j q
  offer (fork m) st s pl h j q = offer-fork m s (h refl) j q
  offer (mux m) st s pl h j q = only (Offers (mux m)) (offer-mux m s (h refl)) j q
  offer (demux m) st s pl h j q = offer-demux m s (h refl) j q
  offer (merge m cs) st s pl h j q = offer-merge m cs s st (h refl) j q
  offer (buffer o) st s pl h j q = only (Offers (buffer o)) (offer-buffer o s) j q
  offer control st s pl h j q = only (Offers control) (offer-control s (h refl)) j q
  offer unused st s pl h j q = absurd (omega arith)

  -- What a cycle is to the block: no firing, or one.
  abbrev pub Closed : Kind → Type 0
  Closed K = Stay K p r r' k ⊎ Move K p r r' k f

  close_source : (xs : List ℕ) → Works (source xs) mask p r r' → r.word ≡ k → Closed (source xs)
  close_source xs s pl =
      test (gone p 0)
      (λ q. inr (record {
        turned = each (p.out_sig 0).word;
        turns = fires_source xs s pl (and2 (p.out_sig 0).valid (p.out_r 0) q).0;
        ins_move = λ i h. absurd (omega arith);
        outs_move = only (λ j. one (gone p j) + 0 + 0 ≡ 0 + 0 + 1) (rw q);
        held_move = λ j h e. absurd (omega arith);
        place_move = ap (λ (z : Reg). z.word) s.going ∙ rw (q, pl, add-one k);
      }))
      (λ q. inl (record {
        ins_stay = λ i h. absurd (omega arith);
        outs_stay = only (λ j. one (gone p j) + 0 + 0 ≡ 0 + 0) (rw q);
        held_stay = λ j h e. absurd (omega arith);
        place_stay = ap (λ (z : Reg). z.word) s.going ∙ rw (q, pl);
      }))

  close_sink : Works sink mask p r r' → Shown sink p f → Closed sink
  close_sink s h =
      test (came p 0)
      (λ q. inr (record {
        turned = swallow;
        turns = rw (h 0 (omega arith) (and2 (p.in_sig 0).valid (p.in_r 0) q).0);
        ins_move = only (λ i. one (came p i) ≡ 1) (rw q);
        outs_move = λ j h. absurd (omega arith);
        held_move = λ j h e. absurd (omega arith);
        place_move = tt;
      }))
      (λ q. inl (record {
        ins_stay = only (λ i. came p i ≡ false) q;
        outs_stay = λ j h. absurd (omega arith);
        held_stay = λ j h e. absurd (omega arith);
        place_stay = tt;
      }))

  close_operator : (o : ℕ) → Works (operator o) mask p r r' → Shown (operator o) p f → Closed (operator o)
  close_operator o s h =
      test (gone p 0)
      (λ q. let v : (p.out_sig 0).valid ≡ true = (and2 (p.out_sig 0).valid (p.out_r 0) q).0 in
      let both = and2 (p.in_sig 0).valid (p.in_sig 1).valid (sym (valid_of (operator o) s 0 (omega arith)) ∙ v) in
      inr (record {
        turned = each (p.out_sig 0).word;
        turns = fires_operator o s h v;
        ins_move = pair (λ i. one (came p i) ≡ 1) (rw (both.0, s.taking 0 (omega arith), q)) (rw (both.1, s.taking 1 (omega arith), q));
        outs_move = only (λ j. one (gone p j) + 0 + 0 ≡ 0 + 0 + 1) (rw q);
        held_move = λ j h e. absurd (omega arith);
        place_move = tt;
      }))
      (λ q. inl (record {
        ins_stay = λ i l. rw (s.taking i l, q) (and-false (p.in_sig i).valid);
        outs_stay = only (λ j. one (gone p j) + 0 + 0 ≡ 0 + 0) (rw q);
        held_stay = λ j h e. absurd (omega arith);
        place_stay = tt;
      }))

  close_constant : (o x : ℕ) → Works (constant o x) mask p r r' → Shown (constant o x) p f → Closed (constant o x)
  close_constant o x s h =
      test (gone p 0)
      (λ q. let v : (p.out_sig 0).valid ≡ true = (and2 (p.out_sig 0).valid (p.out_r 0) q).0 in
      inr (record {
        turned = each (p.out_sig 0).word;
        turns = fires_constant o x s h v;
        ins_move = only (λ i. one (came p i) ≡ 1) (rw (sym (valid_of (constant o x) s 0 (omega arith)) ∙ v, s.taking 0 (omega arith), q));
        outs_move = only (λ j. one (gone p j) + 0 + 0 ≡ 0 + 0 + 1) (rw q);
        held_move = λ j h e. absurd (omega arith);
        place_move = tt;
      }))
      (λ q. inl (record {
        ins_stay = only (λ i. came p i ≡ false) (rw (s.taking 0 (omega arith), q) (and-false (p.in_sig 0).valid));
        outs_stay = only (λ j. one (gone p j) + 0 + 0 ≡ 0 + 0) (rw q);
        held_stay = λ j h e. absurd (omega arith);
        place_stay = tt;
      }))

  close_fork : (m : ℕ) → Works (fork m) mask p r r' → Shown (fork m) p f → Closed (fork m)
  close_fork m s h =
      test (p.in_r 0)
      (λ q. let both = and2 (p.in_sig 0).valid (all_done m r.marks (gone p)) (sym (s.taking 0 (omega arith)) ∙ q) in
      inr (record {
        turned = each (p.in_sig 0).word;
        turns = rw (h 0 (omega arith) both.0);
        ins_move = only (λ i. one (came p i) ≡ 1) (rw (both.0, q));
        outs_move = λ j l. copy_counts (bit j r.marks) (p.out_sig j).valid (p.in_sig 0).valid (p.out_r j) (valid_of (fork m) s j l)
            ∙ (rw (all_at (done_at r.marks (gone p)) m both.1 j l, next_marks j l, q));
        held_move = λ j h e. absurd (omega arith);
        place_move = tt;
      }))
      (λ q. inl (record {
        ins_stay = only (λ i. came p i ≡ false) (rw q (and-false (p.in_sig 0).valid));
        outs_stay = λ j l. copy_counts (bit j r.marks) (p.out_sig j).valid (p.in_sig 0).valid (p.out_r j) (valid_of (fork m) s j l) ∙ (rw (next_marks j l, q));
        held_stay = λ j h e. absurd (omega arith);
        place_stay = tt;
      }))
    where
      next_marks : (j : ℕ) → j < m → bit j r'.marks ≡ cond (p.in_r 0) false (done_at r.marks (gone p) j)
      next_marks j l = ap (λ (z : Reg). bit j z.marks) s.going ∙ next_bit m j (done_at r.marks (gone p)) (p.in_r 0) l

  close_mux : (m : ℕ) → Works (mux m) mask p r r' → Shown (mux m) p f → Closed (mux m)
  close_mux m s h =
      test (gone p 0)
      (λ q. let g = fires_mux m s h (and2 (p.out_sig 0).valid (p.out_r 0) q).0 in
      inr (record {
        turned = choose g.0 (p.out_sig 0).word;
        turns = g.4;
        ins_move = moved q g.0 g.1 g.2 g.3;
        outs_move = only (λ j. one (gone p j) + 0 + 0 ≡ 0 + 0 + 1) (rw q);
        held_move = λ j h e. absurd (omega arith);
        place_move = tt;
      }))
      (λ q. inl (record {
        ins_stay = stayed q;
        outs_stay = only (λ j. one (gone p j) + 0 + 0 ≡ 0 + 0) (rw q);
        held_stay = λ j h e. absurd (omega arith);
        place_stay = tt;
      }))
    where
      moved : gone p 0 ≡ true → (t : ℕ) → reach m (p.in_sig 0).word ≡ some t → (p.in_sig 0).valid ≡ true → (p.in_sig (suc t)).valid ≡ true → (i : ℕ) → i < m + 1 → one (came p i) ≡ picks t i
      moved q t e a b zero l = rw (a, s.taking 0 (omega arith), q)
      moved q t e a b (suc i) l =
          test (eqb i t)
          (λ z. rw (s.taking (suc i) (omega arith), q, e, z, ap (λ (x : ℕ). (p.in_sig (suc x)).valid) (eqb-true i t z) ∙ b))
          (λ z. rw (s.taking (suc i) (omega arith), q, e, z, and-false (p.in_sig (suc i)).valid))

      stayed : gone p 0 ≡ false → (i : ℕ) → i < m + 1 → came p i ≡ false
      stayed q zero l = rw (s.taking 0 (omega arith), q) (and-false (p.in_sig 0).valid)
      stayed q (suc i) l = rw (s.taking (suc i) (omega arith), q) (and-false (p.in_sig (suc i)).valid)

  demux_move : (m t : ℕ) → Works (demux m) mask p r r' → Shown (demux m) p f → reach m (p.in_sig 0).word ≡ some t → gone p t ≡ true → Move (demux m) p r r' k f
  demux_move m t s h e q =
      let l : t < m = reach-below m (p.in_sig 0).word t e in
      let v : (p.out_sig t).valid ≡ true = (and2 (p.out_sig t).valid (p.out_r t) q).0 in
      let all = and3 (p.in_sig 0).valid (p.in_sig 1).valid (named (reach m (p.in_sig 0).word) (eqb t)) (sym (valid_of (demux m) s t l) ∙ v) in
      record {
        turned = send t (p.out_sig t).word;
        turns = demux_at m t t s h l v e all.0 all.1;
        ins_move = pair (λ i. one (came p i) ≡ 1) (rw (all.0, s.taking 0 (omega arith), e, q)) (rw (all.1, s.taking 1 (omega arith), e, q));
        outs_move = λ j a. test (eqb j t)
            (λ z. rw (z, ap (λ (x : ℕ). gone p x) (eqb-true j t z) ∙ q))
            (λ z. rw (z, valid_of (demux m) s j a, e, z, and-false (p.in_sig 1).valid, and-false (p.in_sig 0).valid));
        held_move = λ j h e. absurd (omega arith);
        place_move = tt;
      }

  close_demux : (m : ℕ) → Works (demux m) mask p r r' → Shown (demux m) p f → Closed (demux m)
  close_demux m s h =
      test (named (reach m (p.in_sig 0).word) (gone p))
      (λ q. let at = named_true (reach m (p.in_sig 0).word) (gone p) q in inr (demux_move m at.0 s h at.1 at.2))
      (λ q. inl (record {
        ins_stay = λ i l. rw (s.taking i l, q) (and-false (p.in_sig i).valid);
        outs_stay = λ j a. test (named (reach m (p.in_sig 0).word) (eqb j))
            (λ z. let at = named_true (reach m (p.in_sig 0).word) (eqb j) z in rw (unsent j at.0 at.1 (eqb-true j at.0 at.2) q))
            (λ z. rw (valid_of (demux m) s j a, z, and-false (p.in_sig 1).valid, and-false (p.in_sig 0).valid));
        held_stay = λ j h e. absurd (omega arith);
        place_stay = tt;
      }))
    where
      unsent : (j t : ℕ) → reach m (p.in_sig 0).word ≡ some t → j ≡ t → named (reach m (p.in_sig 0).word) (gone p) ≡ false → gone p j ≡ false
      unsent j t e z q = ap (λ (x : ℕ). gone p x) z ∙ (rw e at q)

  close_buffer : (o : Option ℕ) → Works (buffer o) mask p r r' → Shown (buffer o) p f → Closed (buffer o)
  close_buffer o s h =
      test (p.in_r 0)
      (λ a. test (p.in_sig 0).valid
      (λ v. let e : full r' ≡ true = rw (s.going, a, v) in
      inr (record {
        turned = each (p.in_sig 0).word;
        turns = rw (h 0 (omega arith) v);
        ins_move = only (λ i. one (came p i) ≡ 1) (rw (v, a));
        outs_move = only (λ j. one (gone p j) + one (full r') + 0 ≡ one (full r) + 0 + 1) (rw (e, valid_of (buffer o) s 0 (omega arith), frees (full r) (p.out_r 0) (sym (s.taking 0 (omega arith)) ∙ a)) (omega arith));
        held_move = λ j l q. (rw (s.going, a, v), refl);
        place_move = tt;
      }))
      (λ v. let e : full r' ≡ false = rw (s.going, a, v) in
      inl (record {
        ins_stay = only (λ i. came p i ≡ false) (rw v);
        outs_stay = only (λ j. one (gone p j) + one (full r') + 0 ≡ one (full r) + 0) (rw (e, valid_of (buffer o) s 0 (omega arith), frees (full r) (p.out_r 0) (sym (s.taking 0 (omega arith)) ∙ a)) (omega arith));
        held_stay = λ j l q. absurd (empty (full r') e q);
        place_stay = tt;
      })))
      (λ a. let b = keeps (full r) (p.out_r 0) (sym (s.taking 0 (omega arith)) ∙ a) in
      let e : full r' ≡ full r = rw (s.going, a) in
      inl (record {
        ins_stay = only (λ i. came p i ≡ false) (rw a (and-false (p.in_sig 0).valid));
        outs_stay = only (λ j. one (gone p j) + one (full r') + 0 ≡ one (full r) + 0) (rw (e, b.1, and-false (p.out_sig 0).valid, b.0));
        held_stay = only (λ j. one (full r') ≡ 1 → (one (full r) ≡ 1) × (r'.word ≡ r.word) × (gone p j ≡ false)) (λ q. (rw b.0, ap (λ (z : Reg). z.word) s.going ∙ rw a, rw b.1 (and-false (p.out_sig 0).valid)));
        place_stay = tt;
      }))

  close_control : Works control mask p r r' → Shown control p f → Closed control
  close_control s h =
      test (full r)
      (λ z. test (p.out_r 0)
      (λ y. let e : full r' ≡ false = rw (s.going, z, y) in
      inl (record {
        ins_stay = only (λ i. came p i ≡ false) (rw (s.taking 0 (omega arith), z) (and-false (p.in_sig 0).valid));
        outs_stay = only (λ j. one (gone p j) + one (full r') + 0 ≡ one (full r) + 0) (rw (e, valid_of control s 0 (omega arith), z, y));
        held_stay = λ j l q. absurd (empty (full r') e q);
        place_stay = tt;
      }))
      (λ y. let e : full r' ≡ true = rw (s.going, z, y) z in
      inl (record {
        ins_stay = only (λ i. came p i ≡ false) (rw (s.taking 0 (omega arith), z) (and-false (p.in_sig 0).valid));
        outs_stay = only (λ j. one (gone p j) + one (full r') + 0 ≡ one (full r) + 0) (rw (e, valid_of control s 0 (omega arith), z, y));
        held_stay = only (λ j. one (full r') ≡ 1 → (one (full r) ≡ 1) × (r'.word ≡ r.word) × (gone p j ≡ false)) (λ q. (rw z, ap (λ (z : Reg). z.word) s.going ∙ rw (z, y), rw y (and-false (p.out_sig 0).valid)));
        place_stay = tt;
      })))
      (λ z. test (p.in_sig 0).valid
      (λ v. test (p.out_r 0)
      (λ y. let e : full r' ≡ false = rw (s.going, z, v, y) in
      inr (record {
        turned = each (p.in_sig 0).word;
        turns = rw (h 0 (omega arith) v);
        ins_move = only (λ i. one (came p i) ≡ 1) (rw (v, s.taking 0 (omega arith), z));
        outs_move = only (λ j. one (gone p j) + one (full r') + 0 ≡ one (full r) + 0 + 1) (rw (e, valid_of control s 0 (omega arith), z, v, y));
        held_move = λ j l q. absurd (empty (full r') e q);
        place_move = tt;
      }))
      (λ y. let e : full r' ≡ true = rw (s.going, z, v, y) in
      inr (record {
        turned = each (p.in_sig 0).word;
        turns = rw (h 0 (omega arith) v);
        ins_move = only (λ i. one (came p i) ≡ 1) (rw (v, s.taking 0 (omega arith), z));
        outs_move = only (λ j. one (gone p j) + one (full r') + 0 ≡ one (full r) + 0 + 1) (rw (e, valid_of control s 0 (omega arith), z, v, y));
        held_move = λ j l q. (rw (s.going, z, v, y), refl);
        place_move = tt;
      })))
      (λ v. let e : full r' ≡ false = rw (s.going, z, v) in
      inl (record {
        ins_stay = only (λ i. came p i ≡ false) (rw v);
        outs_stay = only (λ j. one (gone p j) + one (full r') + 0 ≡ one (full r) + 0) (rw (e, valid_of control s 0 (omega arith), z, v));
        held_stay = λ j l q. absurd (empty (full r') e q);
        place_stay = tt;
      })))

  -- what the sides of a merge show, and what has gone with this cycle
  side_valid : (m : ℕ) (cs : List ℕ) → Works (merge m cs) mask p r r' → (j : ℕ) → j < 2 → (p.out_sig j).valid ≡ ((won m r p.in_sig).valid && not (bit j r.marks))
  side_valid m cs s =
      pair (λ j. (p.out_sig j).valid ≡ ((won m r p.in_sig).valid && not (bit j r.marks))) (valid_of (merge m cs) s 0 (omega arith)) (valid_of (merge m cs) s 1 (omega arith))

  side_counts : (m : ℕ) (cs : List ℕ) → Works (merge m cs) mask p r r' → (j : ℕ) → j < 2 → one (gone p j) + 0 + one (bit j r.marks) ≡ 0 + one (done_at r.marks (gone p) j)
  side_counts m cs s j l = copy_counts (bit j r.marks) (p.out_sig j).valid (won m r p.in_sig).valid (p.out_r j) (side_valid m cs s j l)

  merge_move : (m : ℕ) (cs : List ℕ) (t : ℕ) → Works (merge m cs) mask p r r' → Steered (merge m cs) p r k → Shown (merge m cs) p f
      → winner m p.in_sig r.word ≡ some t → (p.in_sig t).valid ≡ true → all_done 2 r.marks (gone p) ≡ true → Move (merge m cs) p r r' k f
  merge_move m cs t s st h e v d =
      let n : r' ≡ cleared = s.going ∙ rw (e, v, d) in
      record {
        turned = join t (p.in_sig t).word;
        turns = merge_at m cs t st h e v;
        ins_move = λ i l. test (eqb i t)
            (λ y. rw (s.taking i l, e, v, d, y, ap (λ (x : ℕ). (p.in_sig x).valid) (eqb-true i t y) ∙ v))
            (λ y. rw (s.taking i l, e, v, d, y, and-false (p.in_sig i).valid));
        outs_move = λ j l. side_counts m cs s j l ∙ rw (all_at (done_at r.marks (gone p)) 2 d j l, n, no_bits j, sides_one t (p.in_sig t).word j);
        held_move = λ j h e. absurd (omega arith);
        place_move = rw n;
      }

  merge_wait : (m : ℕ) (cs : List ℕ) (t : ℕ) → Works (merge m cs) mask p r r' → Steered (merge m cs) p r k
      → winner m p.in_sig r.word ≡ some t → (p.in_sig t).valid ≡ true → all_done 2 r.marks (gone p) ≡ false → Stay (merge m cs) p r r' k
  merge_wait m cs t s st e v d =
      let n : r' ≡ record { word = suc t; marks = gained 2 r.marks (gone p) } = s.going ∙ rw (e, v, d) in
      record {
        ins_stay = λ i l. rw (s.taking i l, d, and-false (won m r p.in_sig).valid) (and-false (p.in_sig i).valid);
        outs_stay = λ j l. side_counts m cs s j l ∙ rw (n, bit-bits (done_at r.marks (gone p)) 2 j l);
        held_stay = λ j h e. absurd (omega arith);
        place_stay = rw n (st t e v);
      }

  close_merge : (m : ℕ) (cs : List ℕ) → Works (merge m cs) mask p r r' → Recorded cs k r.word r.marks → Steered (merge m cs) p r k → Shown (merge m cs) p f → Closed (merge m cs)
  close_merge m cs s pl st h =
      test (won m r p.in_sig).valid
      (λ q. let at = won-valid m r p.in_sig q in
      test (all_done 2 r.marks (gone p)) (λ d. inr (merge_move m cs at.0 s st h at.1 at.2 d)) (λ d. inl (merge_wait m cs at.0 s st at.1 at.2 d)))
      (λ q. let n : r' ≡ r = s.going ∙ rw q in
      inl (record {
        ins_stay = λ i l. rw (s.taking i l, q) (and-false (p.in_sig i).valid);
        outs_stay = λ j l. rw (side_valid m cs s j l, q, n);
        held_stay = λ j h e. absurd (omega arith);
        place_stay = rw n pl;
      }))

  pub close : (K : Kind) → Steered K p r k → Works K mask p r r' → Placed K r k → Shown K p f → Closed K
  close (source xs) st s pl h = close_source xs s pl
  close sink st s pl h = close_sink s h
  close (operator o) st s pl h = close_operator o s h
  close (constant o x) st s pl h = close_constant o x s h
  close (fork m) st s pl h = close_fork m s h
  close (mux m) st s pl h = close_mux m s h
  close (demux m) st s pl h = close_demux m s h
  close (merge m cs) st s pl h = close_merge m cs s pl st h
  close (buffer o) st s pl h = close_buffer o s h
  close control st s pl h = close_control s h
  close unused st s pl h =
      inl (record {
        ins_stay = λ i l. absurd (omega arith);
        outs_stay = λ j l. absurd (omega arith);
        held_stay = λ j l e. absurd (omega arith);
        place_stay = tt;
      })
