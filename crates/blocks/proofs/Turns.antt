-- Laws of a block's firing: it needs only the words that it takes, so more words waiting change nothing of what it does; it takes only words that wait; and a merge
-- puts its choices on its report.
-- Assumes nothing.
use Rattle.std.proofs.Common.{◌≡◌, ℕ, zero, suc, ◌<◌, eqb, ltb, ◌⊎◌, List, [], ◌∷◌, sym, refl, ap, ◌∙◌, inl, inr, arith, ltb-true, lt-ltb, eq-eqb, eqb-true}
use mathlib.Core.Option.{Option, some, some-injective}
use lib.ListN.{get_elem?}
use Rattle.blocks.specs.Kinds.{Kind, source, sink, operator, constant, fork, mux, demux, merge, buffer, control, unused}
use Rattle.blocks.specs.Ports.{n_in}
use Rattle.blocks.specs.Words.{operate, reach, merge_input}
use Rattle.blocks.specs.Firing.{◌then◌, Turn, each, swallow, choose, join, turn}
use Rattle.blocks.proofs.Options.{none-some, test, Below, then_there, if_there, reach-below}

same_turn : (t u : Turn) → some t ≡ some u → (i : ℕ) → u.takes i ≡ t.takes i
same_turn t u e i = ap (λ (x : Turn). x.takes i) (sym (some-injective t u e))

-- a merge that fires has a choice, which is the number of an input, and a word waits there
record Chose (m : ℕ) (cs : List ℕ) (k : ℕ) (f : ℕ → Option ℕ) (u : Turn) : Type 0 where
  choice : ℕ
  word : ℕ
  is_choice : get_elem? cs k ≡ some choice
  in_range : choice < m
  waits_there : f choice ≡ some word
  does : some (join choice word) ≡ some u

chose : (m : ℕ) (cs : List ℕ) (k : ℕ) (f : ℕ → Option ℕ) (u : Turn) → turn (merge m cs) k f ≡ some u → Chose m cs k f u
chose m cs k f u e =
    let s = then_there (get_elem? cs k) _ u e in
    let a = then_there _ _ u s.2 in
    let t = then_there (merge_input m s.0) _ a.0 a.1 in
    let named = if_there (ltb s.0 m) (some s.0) t.0 t.1 in
    record {
      choice = s.0;
      word = a.0;
      is_choice = s.1;
      in_range = ltb-true s.0 m named.0;
      waits_there = ap f (some-injective s.0 t.0 named.1) ∙ t.2;
      does = a.2;
    }

-- ## A firing needs only the words that it takes

-- what waits at the inputs from which firing u takes a word, waits there in g too
abbrev pub Feeds : Kind → Turn → (ℕ → Option ℕ) → (ℕ → Option ℕ) → Type 0
Feeds K u f g = (i : ℕ) → i < n_in K → u.takes i ≡ 1 → Below (f i) (g i)

-- a firing with one input
needs_one : (f g : ℕ → Option ℕ) (T : ℕ → Turn) (u : Turn) → ((a : ℕ) → (T a).takes 0 ≡ 1) → (f 0 then λ a. some (T a)) ≡ some u
    → (u.takes 0 ≡ 1 → Below (f 0) (g 0)) → (g 0 then λ a. some (T a)) ≡ some u
needs_one f g T u single e h =
    let a = then_there (f 0) (λ a. some (T a)) u e in
    rw (h (same_turn (T a.0) u a.2 0 ∙ single a.0) a.0 a.1) a.2

pub turn-needs : (K : Kind) (k : ℕ) (f g : ℕ → Option ℕ) (u : Turn) → turn K k f ≡ some u → Feeds K u f g → turn K k g ≡ some u
turn-needs (source xs) k f g u e h = e
turn-needs sink k f g u e h = needs_one f g (λ a. swallow) u (λ a. refl) e (h 0 (omega arith))
turn-needs (operator o) k f g u e h =
    let a = then_there (f 0) _ u e in
    let b = then_there (f 1) _ u a.2 in
    rw (h 0 (omega arith) (same_turn _ u b.2 0) a.0 a.1, h 1 (omega arith) (same_turn _ u b.2 1) b.0 b.1) b.2
turn-needs (constant o v) k f g u e h = needs_one f g (λ a. each (operate o a v)) u (λ a. refl) e (h 0 (omega arith))
turn-needs (fork m) k f g u e h = needs_one f g each u (λ a. refl) e (h 0 (omega arith))
turn-needs (mux m) k f g u e h =
    let s = then_there (f 0) _ u e in
    let t = then_there (reach m s.0) _ u s.2 in
    let a = then_there (f (suc t.0)) _ u t.2 in
    let picked : u.takes (suc t.0) ≡ 1 = same_turn (choose t.0 a.0) u a.2 (suc t.0) ∙ rw (eq-eqb t.0 t.0 refl) in
    rw (h 0 (omega arith) (same_turn _ u a.2 0) s.0 s.1, t.1, h (suc t.0) (omega (arith, reach-below m s.0 t.0 t.1)) picked a.0 a.1) a.2
turn-needs (demux m) k f g u e h =
    let s = then_there (f 0) _ u e in
    let t = then_there (reach m s.0) _ u s.2 in
    let a = then_there (f 1) _ u t.2 in
    rw (h 0 (omega arith) (same_turn _ u a.2 0) s.0 s.1, t.1, h 1 (omega arith) (same_turn _ u a.2 1) a.0 a.1) a.2
turn-needs (merge m cs) k f g u e h =
    let c : Chose m cs k f u = chose m cs k f u e in
    let picked : u.takes c.choice ≡ 1 = same_turn (join c.choice c.word) u c.does c.choice ∙ rw (eq-eqb c.choice c.choice refl) in
    rw (c.is_choice, lt-ltb c.choice m c.in_range, h c.choice c.in_range picked c.word c.waits_there) c.does
turn-needs (buffer o) k f g u e h = needs_one f g each u (λ a. refl) e (h 0 (omega arith))
turn-needs control k f g u e h = needs_one f g each u (λ a. refl) e (h 0 (omega arith))
turn-needs unused k f g u e h = e

-- A firing sees only what its inputs hold: with more words behind them, it does the same.
abbrev pub Sees : Kind → (ℕ → Option ℕ) → (ℕ → Option ℕ) → Type 0
Sees K f g = (i : ℕ) → i < n_in K → Below (f i) (g i)

pub turn_below : (K : Kind) (k : ℕ) (f g : ℕ → Option ℕ) → Sees K f g → Below (turn K k f) (turn K k g)
turn_below K k f g h u e = turn-needs K k f g u e (λ i l q. h i l)

-- ## A firing takes no more than one word from an input, and only a word that waits

abbrev pub Takes : Turn → (ℕ → Option ℕ) → ℕ → Type 0
Takes t f i = (t.takes i ≡ 0) ⊎ ((t.takes i ≡ 1) × ((w : ℕ) × (f i ≡ some w)))

-- a firing that takes one word from each of its inputs
one_input : (f : ℕ → Option ℕ) (t u : Turn) (a : ℕ) → some t ≡ some u → t.takes 0 ≡ 1 → f 0 ≡ some a → (i : ℕ) → i < 1 → Takes u f i
one_input f t u a e k h zero l = inr (same_turn t u e 0 ∙ k, (a, h))
one_input f t u a e k h (suc i) l = absurd (omega arith)

two_inputs : (f : ℕ → Option ℕ) (t u : Turn) (a b : ℕ) → some t ≡ some u → t.takes 0 ≡ 1 → t.takes 1 ≡ 1 → f 0 ≡ some a → f 1 ≡ some b → (i : ℕ) → i < 2 → Takes u f i
two_inputs f t u a b e k k' h h' zero l = inr (same_turn t u e 0 ∙ k, (a, h))
two_inputs f t u a b e k k' h h' (suc zero) l = inr (same_turn t u e 1 ∙ k', (b, h'))
two_inputs f t u a b e k k' h h' (suc (suc i)) l = absurd (omega arith)

mux-inputs : (f : ℕ → Option ℕ) (u : Turn) (s t a : ℕ) → some (choose t a) ≡ some u → f 0 ≡ some s → f (suc t) ≡ some a → (i : ℕ) → Takes u f i
mux-inputs f u s t a e h h' zero = inr (same_turn (choose t a) u e 0, (s, h))
mux-inputs f u s t a e h h' (suc i) =
    test (eqb i t)
    (λ q. inr (same_turn (choose t a) u e (suc i) ∙ rw q, (a, ap (λ (x : ℕ). f (suc x)) (eqb-true i t q) ∙ h')))
    (λ q. inl (same_turn (choose t a) u e (suc i) ∙ rw q))

merge-inputs : (f : ℕ → Option ℕ) (u : Turn) (s a : ℕ) → some (join s a) ≡ some u → f s ≡ some a → (i : ℕ) → Takes u f i
merge-inputs f u s a e h i =
    test (eqb i s)
    (λ q. inr (same_turn (join s a) u e i ∙ rw q, (a, ap f (eqb-true i s q) ∙ h)))
    (λ q. inl (same_turn (join s a) u e i ∙ rw q))

pub turn-takes : (K : Kind) (k : ℕ) (f : ℕ → Option ℕ) (u : Turn) → turn K k f ≡ some u → (i : ℕ) → i < n_in K → Takes u f i
turn-takes (source xs) k f u e i l = absurd (omega arith)
turn-takes sink k f u e i l = let a = then_there (f 0) _ u e in one_input f _ u a.0 a.2 refl a.1 i l
turn-takes (operator o) k f u e i l =
    let a = then_there (f 0) _ u e in
    let b = then_there (f 1) _ u a.2 in
    two_inputs f _ u a.0 b.0 b.2 refl refl a.1 b.1 i l
turn-takes (constant o v) k f u e i l = let a = then_there (f 0) _ u e in one_input f _ u a.0 a.2 refl a.1 i l
turn-takes (fork m) k f u e i l = let a = then_there (f 0) _ u e in one_input f _ u a.0 a.2 refl a.1 i l
turn-takes (mux m) k f u e i l =
    let s = then_there (f 0) _ u e in
    let t = then_there (reach m s.0) _ u s.2 in
    let a = then_there (f (suc t.0)) _ u t.2 in
    mux-inputs f u s.0 t.0 a.0 a.2 s.1 a.1 i
turn-takes (demux m) k f u e i l =
    let s = then_there (f 0) _ u e in
    let t = then_there (reach m s.0) _ u s.2 in
    let a = then_there (f 1) _ u t.2 in
    two_inputs f _ u s.0 a.0 a.2 refl refl s.1 a.1 i l
turn-takes (merge m cs) k f u e i l = let c : Chose m cs k f u = chose m cs k f u e in merge-inputs f u c.choice c.word c.does c.waits_there i
turn-takes (buffer o) k f u e i l = let a = then_there (f 0) _ u e in one_input f _ u a.0 a.2 refl a.1 i l
turn-takes control k f u e i l = let a = then_there (f 0) _ u e in one_input f _ u a.0 a.2 refl a.1 i l
turn-takes unused k f u e i l = none-some e

-- ## Firing k of a merge puts choice k, which is the number of an input, on its report

pub turn_reports : (m : ℕ) (cs : List ℕ) (k : ℕ) (f : ℕ → Option ℕ) (u : Turn) → turn (merge m cs) k f ≡ some u
    → (s : ℕ) × (get_elem? cs k ≡ some s) × (s < m) × (u.gives 1 ≡ s ∷ [])
turn_reports m cs k f u e =
    let c : Chose m cs k f u = chose m cs k f u e in
    (c.choice, c.is_choice, c.in_range, ap (λ (t : Turn). t.gives 1) (sym (some-injective (join c.choice c.word) u c.does)))
