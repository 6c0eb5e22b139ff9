-- The table of a channel over a list of steps follows the protocol of the standard's section 5: a word that is valid and not taken stays until it is delivered, and
-- the words delivered are those that were offered. From any state, merges included; refused steps leave no column and change nothing. Each column is followed by
-- whatever cycle comes next (`along`, one induction over the steps); the rest are laws of such lists of columns.
-- Assumes nothing.
use Prim.Native.Nat.{ℕ, zero, suc, ◌<◌}
use mathlib.Core.Path.{◌≡◌, refl, sym, ap, ◌∙◌, subst₂}
use mathlib.Core.Bool.{Bool, true, false, cond, not, ◌&&◌}
use mathlib.Core.List.Memᴰ
use mathlib.Core.List.{List, [], ◌∷◌, ◌++◌, append-nil, append_assoc}
use mathlib.Core.Option.{some}
use native.Mathlib.Omega.{arith}
use borrow.Author.Tests.{ne_eqb}
use lib.Dec.{eqb}
use lib.ListN.{get_elem?}
use Rattle.blocks.specs.declared.Sig.{Sig}
use Rattle.blocks.proofs.Folds.{clash}
use Rattle.blocks.proofs.Options.{none-some}
use Rattle.blocks.specs.declared.Net.{Net}
use Rattle.nets.proofs.Nets.{channels-high}
use Rattle.cycles.specs.Cycle.{Signals, signals_of}
use Rattle.cycles.specs.State.{regs_of}
use Rattle.cycles.specs.Step.{refusal_by, state_after, step_by, fresh_by}
use Rattle.blocks.specs.declared.State.{State}
use Rattle.cycles.specs.declared.Stepped.{Stepped}
use Rattle.cycles.proofs.Steps.{step-cases}
use Rattle.cycles.proofs.Sustained.{keeps_after}
use Rattle.queue.specs.Delivered.{Input, marked, delivered_from, over, delivered}
use Rattle.queue.specs.Claims.{IsAccepted}
use Rattle.queue.proofs.Marks.{marked_refused, marked-worked}
use Rattle.queue.proofs.Waits.{untaken, waits_from, waits}
use Rattle.handshake.specs.Table.{Column, column_of, column_at, table_from, Over, delivers, observed, StaysUntilReady, offered_first, still_offered, Protocol}

-- ## Columns that follow each other

-- what is valid and not taken in one column is valid, with the same word, in the next
abbrev Next : Column → Column → Type 0
Next a b = a.valid ≡ true → a.ready ≡ false → (b.valid ≡ true) × (b.word ≡ a.word)

abbrev Chain : Column → List Column → Type 0
Chain a [] = Unit {0}
Chain a (b ∷ t) = Next a b × Chain b t

abbrev Chained : List Column → Type 0
Chained [] = Unit {0}
Chained (a ∷ t) = Chain a t

-- a valid column that does not deliver is not ready
idle : (a : Column) → a.valid ≡ true → delivers a ≡ false → a.ready ≡ false
idle a v d = rw v at d

-- from the first column on
chain_until : (t : List Column) (a : Column) → Chain a t → (q : ℕ) (b : Column) → get_elem? (a ∷ t) q ≡ some b → a.valid ≡ true
    → ((k : ℕ) (d : Column) → k < q → get_elem? (a ∷ t) k ≡ some d → delivers d ≡ false) → (b.valid ≡ true) × (b.word ≡ a.word)
chain_until t a h zero b e v none_yet = let z : a ≡ b = cc in (ap (λ (x : Column). x.valid) (sym z) ∙ v, ap (λ (x : Column). x.word) (sym z))
chain_until [] a h (suc q) b e v none_yet = none-some e
chain_until (x ∷ t) a h (suc q) b e v none_yet =
    let n = h.0 v (idle a v (none_yet 0 a (omega arith) refl)) in
    let r = chain_until t x h.1 q b e n.0 (λ k d l f. none_yet (suc k) d (omega arith) f) in
    (r.0, r.1 ∙ n.1)

rest : (a : Column) (t : List Column) → Chain a t → Chained t
rest a [] h = tt
rest a (b ∷ t) h = h.1

pub stays_until : (t : List Column) → Chained t → StaysUntilReady t
stays_until [] h p q a b l e f v none_yet = none-some e
stays_until (x ∷ t) h zero q a b l e f v none_yet =
    let z : x ≡ a = cc in
    let r = chain_until t x h q b f (ap (λ (y : Column). y.valid) z ∙ v) (λ k d m g. none_yet k d (omega arith) m g) in
    (r.0, r.1 ∙ ap (λ (y : Column). y.word) z)
stays_until (x ∷ t) h (suc p) zero a b l e f v none_yet = absurd (omega arith)
stays_until (x ∷ t) h (suc p) (suc q) a b l e f v none_yet =
    stays_until t (rest x t h) p q a b (omega arith) e f v (λ k d m n g. none_yet (suc k) d (omega arith) (omega arith) g)

-- before the first column nothing waits
abbrev nothing_yet : Column
nothing_yet = record { word = 0; valid = false; ready = false }

-- ## What is offered is what is delivered, and what still waits

-- the word that waits after column a
abbrev left : Column → List ℕ
left a = cond (a.valid && not a.ready) (a.word ∷ []) []

-- one column: what waited before it, if anything, is its word
module _ (a b : Column) (h : Next a b) where
  by_cases : (va ya vb yb : Bool) → a.valid ≡ va → a.ready ≡ ya → b.valid ≡ vb → b.ready ≡ yb
      → cond (va && not ya) (a.word ∷ []) [] ++ cond (vb && not (va && not ya)) (b.word ∷ []) [] ≡ cond (vb && yb) (b.word ∷ []) [] ++ cond (vb && not yb) (b.word ∷ []) []
  by_cases true false false yb p q r s = clash (h p q).0 r
  by_cases true false true true p q r s = ap (λ (w : ℕ). w ∷ []) (sym (h p q).1)
  by_cases true false true false p q r s = ap (λ (w : ℕ). w ∷ []) (sym (h p q).1)
  by_cases true true true true p q r s = refl
  by_cases true true true false p q r s = refl
  by_cases true true false yb p q r s = refl
  by_cases false ya true true p q r s = refl
  by_cases false ya true false p q r s = refl
  by_cases false ya false yb p q r s = refl

  one_column : left a ++ cond (b.valid && not (a.valid && not a.ready)) (b.word ∷ []) [] ≡ cond (delivers b) (b.word ∷ []) [] ++ left b
  one_column = by_cases a.valid a.ready b.valid b.ready refl refl refl refl

offered_are : (t : List Column) (a : Column) → Chain a t → left a ++ offered_first (a.valid && not a.ready) t ≡ observed t ++ still_offered (left a) t
offered_are [] a h = append-nil (left a)
offered_are (b ∷ t) a h =
    let fresh : List ℕ = cond (b.valid && not (a.valid && not a.ready)) (b.word ∷ []) [] in
    let went : List ℕ = cond (delivers b) (b.word ∷ []) [] in
    let later : List ℕ = offered_first (b.valid && not b.ready) t in
    sym (append_assoc (left a) fresh later)
    ∙ ap (λ (l : List ℕ). l ++ later) (one_column a b h.0)
    ∙ append_assoc went (left b) later
    ∙ ap (λ (l : List ℕ). went ++ l) (offered_are t b h.1)
    ∙ sym (append_assoc went (observed t) (still_offered (left b) t))

-- ## The table of a list of steps

-- the column, if any, that a step leaves, and then the table from its state
abbrev goes : Bool → Net → ℕ → State → Input → List Input → Stepped → List Column
goes ok net c s n ns t = cond (eqb t.refusal 0) (column_at net s n c ∷ []) [] ++ table_from ok net t.state ns c

-- what is delivered is what the table shows delivered, over any streams
module _ (ok : Bool) (net : Net) (acc : IsAccepted net) (c : ℕ) (hc : c < net.channels) where
  wide : c < 128
  wide = omega (arith, channels-high net acc.0.fields)

  table_observed : (ns : List Input) (s : State) → observed (table_from ok net s ns c) ≡ delivered_from ok net s ns c
  table_observed [] s = refl
  table_observed (n ∷ ns) s = step (λ s. table_observed ns s)
    where
      step : ((s : State) → observed (table_from ok net s ns c) ≡ delivered_from ok net s ns c) → observed (table_from ok net s (n ∷ ns) c) ≡ delivered_from ok net s (n ∷ ns) c
      step rec =
          step-cases ok net s n.words n.ends n.offer n.ready
          (λ t. observed (goes ok net c s n ns t) ≡ marked t c ++ delivered_from ok net t.state ns c)
          (λ z. rw (ne_eqb (refusal_by ok net s n.words n.ends false 1) 0 z, marked_refused (refusal_by ok net s n.words n.ends false 1) s c wide) (rec s))
          (λ p. let g : Signals = signals_of net n.words n.ends n.offer n.ready (regs_of s) in
          rw (marked-worked net acc.0.fields s n.words n.ends g c hc)
          (ap (λ (l : List ℕ). cond ((g.shows c).valid && g.ready c) ((g.shows c).word ∷ []) [] ++ l) (rec (state_after net s n.words n.ends g))))

module _ (ok : Bool) (net : Net) (words ends : List ℕ) (acc : IsAccepted net) (c : ℕ) (hc : c < net.channels) where
  -- the cycle from state s over these streams, and the state after it
  abbrev cycle : State → ℕ → ℕ → Signals
  cycle s offer ready = signals_of net words ends offer ready (regs_of s)

  abbrev after : State → ℕ → ℕ → State
  after s offer ready = state_after net s words ends (cycle s offer ready)

  -- whatever the masks of the next cycle from state s, it follows column a
  abbrev Follows : Column → State → Type 0
  Follows a s = (offer ready : ℕ) → Next a (column_of (cycle s offer ready) c)

  follows_after : (s : State) (offer ready : ℕ) → Follows (column_of (cycle s offer ready) c) (after s offer ready)
  follows_after s offer ready offer' ready' v y =
      let e = keeps_after net acc words ends offer ready offer' ready' s c hc v y in
      (ap (λ (z : Sig). z.valid) e ∙ v, ap (λ (z : Sig). z.word) e)

  -- all the steps of a list, from every state and after every column that it follows
  abbrev GoesAlong : List Input → Type 0
  GoesAlong ns = (a : Column) (s : State) → Follows a s → Chain a (table_from ok net s ns c)

  -- a step over the streams, and then the steps
  worked : (s : State) (offer ready : ℕ) (ns : List Input) → GoesAlong ns → (a : Column) → Follows a s
      → Chain a (column_of (cycle s offer ready) c ∷ table_from ok net (after s offer ready) ns c)
  worked s offer ready ns rec a h = (h offer ready, rec (column_of (cycle s offer ready) c) (after s offer ready) (follows_after s offer ready))

  along : (ns : List Input) → Over net words ends ns → GoesAlong ns
  along [] same a s h = tt
  along (n ∷ ns) same a s h = step (λ a s h. along ns (λ m i. same m (Memᴰ.tail i)) a s h)
    where
      step : GoesAlong ns → Chain a (table_from ok net s (n ∷ ns) c)
      step rec =
          step-cases ok net s n.words n.ends n.offer n.ready (λ t. Chain a (goes ok net c s n ns t))
          (λ z. rw (ne_eqb (refusal_by ok net s n.words n.ends false 1) 0 z) (rec a s h))
          (λ p. let e = same n (Memᴰ.head refl) p.fitting in
          let g : List ℕ → List ℕ → Signals = λ ws es. signals_of net ws es n.offer n.ready (regs_of s) in
          subst₂ (λ (ws es : List ℕ). Chain a (column_of (g ws es) c ∷ table_from ok net (state_after net s ws es (g ws es)) ns c))
          (sym e.0) (sym e.1) (worked s n.offer n.ready ns rec a h))

  module _ (ns : List Input) (same : Over net words ends ns) (s : State) where
    abbrev table : List Column
    table = table_from ok net s ns c

    from_nothing : Chain nothing_yet table
    from_nothing = along ns same nothing_yet s (λ offer ready v. clash v refl)

    pub table-protocol : Protocol table (delivered_from ok net s ns c)
    table-protocol =
        let e : observed table ≡ delivered_from ok net s ns c = table_observed ok net acc c hc ns s in
        record {
          stays = stays_until table (rest nothing_yet table from_nothing);
          observes = e;
          offers = offered_are table nothing_yet from_nothing ∙ ap (λ (l : List ℕ). l ++ still_offered [] table) e;
        }

-- the steps of one list of masks are over one set of streams
pub over_same : (net : Net) (words ends : List ℕ) (ms : List (ℕ × ℕ)) → Over net words ends (over words ends ms)
over_same net words ends [] n m f = elim m [ ]
over_same net words ends (k ∷ ms) n (Memᴰ.head e) f = (ap (λ (x : Input). x.words) e, ap (λ (x : Input). x.ends) e)
over_same net words ends (k ∷ ms) n (Memᴰ.tail m) f = over_same net words ends ms n m f

-- what still waits in the table of a list of masks is what waits after its steps
pub still_waits : (ok : Bool) (net : Net) (words ends : List ℕ) (c : ℕ) (ms : List (ℕ × ℕ)) (W : ℕ → List ℕ) (s : State)
    → still_offered (W c) (table_from ok net s (over words ends ms) c) ≡ waits_from ok net words ends W s ms c
still_waits ok net words ends c [] W s = refl
still_waits ok net words ends c (m ∷ ms) W s =
    let t : Stepped = step_by ok net s words ends m.0 m.1 in
    step (eqb t.refusal 0) t.state (λ W. still_waits ok net words ends c ms W t.state)
  where
    step : (q : Bool) (s' : State) → ((W : ℕ → List ℕ) → still_offered (W c) (table_from ok net s' (over words ends ms) c) ≡ waits_from ok net words ends W s' ms c)
        → let g : Signals = signals_of net words ends m.0 m.1 (regs_of s) in
        still_offered (W c) (cond q (column_of g c ∷ []) [] ++ table_from ok net s' (over words ends ms) c) ≡ waits_from ok net words ends (cond q (untaken g) W) s' ms c
    step true s' rec = rec (untaken (signals_of net words ends m.0 m.1 (regs_of s)))
    step false s' rec = rec W

-- so the words ever offered are the words delivered and then the one that waits
pub ever_is : (ok : Bool) (net : Net) (words ends : List ℕ) → IsAccepted net → (masks : List (ℕ × ℕ)) (c : ℕ) → c < net.channels
    → offered_first false (table_from ok net (fresh_by ok net) (over words ends masks) c) ≡ delivered ok net words ends masks c ++ waits ok net words ends masks c
ever_is ok net words ends acc masks c hc =
    (table-protocol ok net words ends acc c hc (over words ends masks) (over_same net words ends masks) (fresh_by ok net)).offers
    ∙ ap (λ (l : List ℕ). delivered ok net words ends masks c ++ l) (still_waits ok net words ends c masks (λ c. []) (fresh_by ok net))
