-- What holds in each state of the queue machine: every block's queues are given by its history. How channels are joined to ports is used through the laws
-- of `Wired` alone.
-- Assumes nothing.
use Prim.Native.Nat.{ℕ, suc, ◌+◌, ◌≤◌, ◌<◌}
use mathlib.Core.Path.{◌≡◌, refl, sym, ap, ◌∙◌, subst}
use mathlib.Core.Bool.{Bool, true, false}
use mathlib.Core.Logic.{◌≢◌, ◌⊎◌, inl, inr, ⊎_elim}
use mathlib.Core.List.Memᴰ
use mathlib.Core.List.{List, [], ◌∷◌, ◌++◌, IsPrefix, Memᴰ}
use mathlib.Core.Option.{Option, none, some}
use native.Mathlib.Omega.{arith}
use borrow.Author.Tests.{eqb-true, eqb-false, eq-eqb, ltb-true, ltb-false, lt-ltb}
use lib.Dec.{ltb, eqb}
use Rattle.blocks.specs.Ports.{n_in, n_out}
use Rattle.blocks.specs.Firing.{Turn, turn, first}
use Rattle.blocks.proofs.Options.{Below, test, if_there}
use Rattle.blocks.proofs.Turns.{turn_below}
use Rattle.cycles.specs.Wires.{View}
use Rattle.cycles.proofs.Wiring.{Wired}
use Rattle.queue.specs.Machine.{Queues, change, waiting, turn_of, perform, after, fire, run, start}
use Rattle.queue.specs.History.{front, pos, turn_at, got}
use Rattle.queue.proofs.Words.{prefix_refl, prefix_trans}
use Rattle.queue.proofs.Apart.{outputs_apart, inputs_apart}
use Rattle.queue.proofs.Walk.{walk-grows}
use Rattle.queue.proofs.Effects.{put_here, put_elsewhere, take_here, take_elsewhere, puts_start}
use Rattle.queue.proofs.History.{Can, Same, turn_same, same, can_longer, can_suc}

-- The lists on the inputs of block `b`.
abbrev pub ins_of : View → Queues → ℕ → ℕ → List ℕ
ins_of n s b i = s.puts (n.inp b i)

-- The queues of block `b` are those of its history.
pub record Sound (n : View) (s : Queues) (b : ℕ) : Type 0 where
  pub can : (k : ℕ) → k < s.fired b → Can (n.kind b) (ins_of n s b) k
  pub took : (i : ℕ) → i < n_in (n.kind b) → s.taken (n.inp b i) ≡ pos (n.kind b) (ins_of n s b) (s.fired b) i
  pub made : (j : ℕ) → j < n_out (n.kind b) → s.puts (n.out b j) ≡ got (n.kind b) (ins_of n s b) (s.fired b) j

abbrev pub AllSound : View → Queues → Type 0
AllSound n s = (b : ℕ) → b < n.blocks → Sound n s b

-- A later state: what was put stays.
pub record Later (s s' : Queues) : Type 0 where
  pub puts_grow : (c : ℕ) → IsPrefix (s.puts c) (s'.puts c)
  pub fired_grow : (b : ℕ) → s.fired b ≤ s'.fired b

pub later_refl : (s : Queues) → Later s s
later_refl s = record { puts_grow = λ c. prefix_refl (s.puts c); fired_grow = λ b. omega arith }

pub later_trans : {s s' s'' : Queues} → Later s s' → Later s' s'' → Later s s''
later_trans {s} {s'} {s''} p q =
    record { puts_grow = λ c. prefix_trans (s.puts c) (s'.puts c) (s''.puts c) (p.puts_grow c) (q.puts_grow c); fired_grow = λ b. omega (arith, p.fired_grow b, q.fired_grow b) }

-- Where a member of two lists stands when the head of the second goes over to the first.
pub moved_on : {a b : ℕ} {seen rest : List ℕ} → Memᴰ a seen ⊎ Memᴰ a (b ∷ rest) → Memᴰ a (b ∷ seen) ⊎ Memᴰ a rest
moved_on (inl m) = inl (Memᴰ.tail m)
moved_on (inr m) = ⊎_elim (λ e. inl (Memᴰ.head e)) (λ y. inr y) (Memᴰ.cases_cons m)

module _ (n : View) where
  act_later : (b : ℕ) (s : Queues) (o : Option Turn) → Later s (after n b s o)
  act_later b s none = later_refl s
  act_later b s (some t) =
      record { puts_grow = λ c. walk-grows (n.out b) (n_out (n.kind b)) c t.gives (s.puts c); fired_grow = λ a. more (s.fired a) (eqb a b) }
    where
      more : (k : ℕ) (q : Bool) → k ≤ change q suc k
      more k true = omega arith
      more k false = omega arith

  pub fire_later : (b : ℕ) (s : Queues) → Later s (fire n b s)
  unfolding fire
  fire_later b s = act_later b s (turn_of n s b)

  pub run_later : (l : List ℕ) (s : Queues) → Later s (run n l s)
  run_later [] s = later_refl s
  run_later (b ∷ l) s = later_trans (fire_later b s) (run_later l (fire n b s))

  -- A block whose own queues have not moved.
  sound_keep : (s s' : Queues) (a : ℕ) → Later s s' → Sound n s a → s'.fired a ≡ s.fired a
      → ((i : ℕ) → i < n_in (n.kind a) → s'.taken (n.inp a i) ≡ s.taken (n.inp a i))
      → ((j : ℕ) → j < n_out (n.kind a) → s'.puts (n.out a j) ≡ s.puts (n.out a j))
      → Sound n s' a
  sound_keep s s' a later h ef et ep =
      let K = n.kind a in
      let sm : Same K (ins_of n s a) (ins_of n s' a) (s.fired a) = same K (ins_of n s a) (ins_of n s' a) (λ i hi. later.puts_grow (n.inp a i)) (s.fired a) h.can in
      record {
        can = λ k q. can_longer K (ins_of n s a) (ins_of n s' a) (λ i hi. later.puts_grow (n.inp a i)) k (λ p r. h.can p (omega arith)) (h.can k (omega arith));
        took = λ i q. rw ef (et i q ∙ h.took i q ∙ sym (sm.pos_same i q));
        made = λ j q. rw ef (ep j q ∙ h.made j q ∙ sym (sm.got_same j));
      }

  -- A block that has fired once.
  sound_move : (s s' : Queues) (a : ℕ) (t : Turn) → Later s s' → Sound n s a → turn_at (n.kind a) (ins_of n s a) (s.fired a) ≡ some t → s'.fired a ≡ suc (s.fired a)
      → ((i : ℕ) → i < n_in (n.kind a) → s'.taken (n.inp a i) ≡ s.taken (n.inp a i) + t.takes i)
      → ((j : ℕ) → j < n_out (n.kind a) → s'.puts (n.out a j) ≡ s.puts (n.out a j) ++ t.gives j)
      → Sound n s' a
  sound_move s s' a t later h e ef et ep =
      let K = n.kind a in
      let sm : Same K (ins_of n s a) (ins_of n s' a) (s.fired a) = same K (ins_of n s a) (ins_of n s' a) (λ i hi. later.puts_grow (n.inp a i)) (s.fired a) h.can in
      let e' : turn_at K (ins_of n s' a) (s.fired a) ≡ some t = turn_same K (ins_of n s a) (ins_of n s' a) (λ i hi. later.puts_grow (n.inp a i)) (s.fired a) sm t e in
      let past : (k : ℕ) → k < s.fired a → Can K (ins_of n s' a) k =
      λ k q. can_longer K (ins_of n s a) (ins_of n s' a) (λ i hi. later.puts_grow (n.inp a i)) k (λ p r. h.can p (omega arith)) (h.can k q) in
      record {
        can = λ k q. can_suc K (ins_of n s' a) (s.fired a) past (t, e') k (omega arith);
        took = λ i q. rw (ef, e') (et i q ∙ ap (λ (x : ℕ). x + t.takes i) (h.took i q ∙ sym (sm.pos_same i q)));
        made = λ j q. rw (ef, e') (ep j q ∙ ap (λ (x : List ℕ). x ++ t.gives j) (h.made j q ∙ sym (sm.got_same j)));
      }

  -- What the machine sees at the front of a block's queues is what its history sees.
  turn_inside : (s : Queues) (b : ℕ) (t : Turn) → turn_of n s b ≡ some t → (b < n.blocks) × (turn (n.kind b) (s.fired b) (waiting n s b) ≡ some t)
  turn_inside s b t e =
      let r = if_there (ltb b n.blocks) (turn (n.kind b) (s.fired b) (waiting n s b)) t e in
      (ltb-true b n.blocks r.0, r.1)

  turn_at_lem : (s : Queues) (b : ℕ) → Sound n s b → Below (turn (n.kind b) (s.fired b) (waiting n s b)) (turn_at (n.kind b) (ins_of n s b) (s.fired b))
  turn_at_lem s b h = turn_below (n.kind b) (s.fired b) _ _ (λ i q w e. rw (← (h.took i q)) e)

  at_turn : (s : Queues) (b : ℕ) → b < n.blocks → Sound n s b → Below (turn_at (n.kind b) (ins_of n s b) (s.fired b)) (turn_of n s b)
  at_turn s b hb h t e =
      rw (lt-ltb b n.blocks hb) (turn_below (n.kind b) (s.fired b) (front (ins_of n s b) (pos (n.kind b) (ins_of n s b) (s.fired b))) (waiting n s b) (λ i q w e. rw (h.took i q) e) t e)

  module _ (w : Wired n) where
    act-sound : (b : ℕ) (s : Queues) → AllSound n s → (o : Option Turn) → turn_of n s b ≡ o → AllSound n (after n b s o)
    act-sound b s h none e a ha = h a ha
    act-sound b s h (some t) e a ha =
        let nt : (b < n.blocks) × (turn (n.kind b) (s.fired b) (waiting n s b) ≡ some t) = turn_inside s b t e in
        let hb : b < n.blocks = nt.0 in
        test (eqb a b)
        (λ q. subst (λ (x : ℕ). Sound n (perform n b t s) x) (sym (eqb-true a b q))
        (sound_move s (perform n b t s) b t (act_later b s (some t)) (h b hb) (turn_at_lem s b (h b hb) t nt.1) (rw (eq-eqb b b refl))
        (λ i hi. take_here n b t s w hb i hi) (λ j hj. put_here n b t s w hb j hj)))
        (λ q. let ne : a ≢ b = eqb-false a b q in
        sound_keep s (perform n b t s) a (act_later b s (some t)) (h a ha) (rw q)
        (λ i hi. take_elsewhere n b t s (n.inp a i) (⊎_elim (λ f. absurd (f i hi refl)) (λ g. g) (inputs_apart n w a b (n.inp a i) ha hb ne)))
        (λ j hj. put_elsewhere n b t s (n.out a j) (⊎_elim (λ f. absurd (f j hj refl)) (λ g. g) (outputs_apart n w a b (n.out a j) ha hb ne))))

    pub fire-sound : (b : ℕ) (s : Queues) → AllSound n s → AllSound n (fire n b s)
    unfolding fire
    fire-sound b s h = act-sound b s h (turn_of n s b) refl

    -- Firing number `k` has been done once the block has been fired, if it could be done and those before it are done.
    pub fire-pushes : (b : ℕ) → b < n.blocks → (s : Queues) → AllSound n s → (k : ℕ) → k ≤ s.fired b → Can (n.kind b) (ins_of n s b) k → k < (fire n b s).fired b
    unfolding fire
    fire-pushes b hb s h k q c =
        test (ltb k (s.fired b))
        (λ l. omega (arith, ltb-true k (s.fired b) l, (fire_later b s).fired_grow b))
        (λ l. let z : k ≡ s.fired b = omega (arith, ltb-false k (s.fired b) l) in
        let e : turn_of n s b ≡ some c.0 = at_turn s b hb (h b hb) c.0 (subst (λ (x : ℕ). turn_at (n.kind b) (ins_of n s b) x ≡ some c.0) z c.1) in
        rw (e, eq-eqb b b refl) (omega arith))

    pub run_sound : (l : List ℕ) (s : Queues) → AllSound n s → AllSound n (run n l s)
    run_sound [] s h = h
    run_sound (b ∷ l) s h = run_sound l (fire n b s) (fire-sound b s h)

    pub start-sound : AllSound n (start n)
    start-sound b hb =
        record {
          can = λ k q. absurd (omega arith);
          took = λ i q. refl;
          made = λ j q. puts_start n w (n.out b j) (w.out_range b j hb q) ∙ ap (λ (x : ℕ). first (n.kind x)) (w.leaves-only b j hb q).0;
        }

    -- A firing that can be done stays one that can be done, and a list of firings that names its block does it.
    pub can-later : (s s' : Queues) (b : ℕ) → Later s s' → Sound n s b → (k : ℕ) → k ≤ s.fired b → Can (n.kind b) (ins_of n s b) k → Can (n.kind b) (ins_of n s' b) k
    can-later s s' b l h k q c = can_longer (n.kind b) (ins_of n s b) (ins_of n s' b) (λ i hi. l.puts_grow (n.inp b i)) k (λ p r. h.can p (omega arith)) c

    pub run-pushes : (l : List ℕ) (s : Queues) → AllSound n s → (b : ℕ) → b < n.blocks → Memᴰ b l
        → (k : ℕ) → k ≤ s.fired b → Can (n.kind b) (ins_of n s b) k → k < (run n l s).fired b
    run-pushes [] s h b hb m k q c = elim m [ ]
    run-pushes (a ∷ l) s h b hb (Memᴰ.head e) k q c =
        let f : k < (fire n b s).fired b = fire-pushes b hb s h k q c in
        let r : Later (fire n a s) (run n l (fire n a s)) = run_later l (fire n a s) in
        let f' : k < (fire n a s).fired b = subst (λ (x : ℕ). k < (fire n x s).fired b) e f in
        omega (arith, r.fired_grow b)
    run-pushes (a ∷ l) s h b hb (Memᴰ.tail m) k q c =
        run-pushes l (fire n a s) (fire-sound a s h) b hb m k (omega (arith, (fire_later a s).fired_grow b)) (can-later s (fire n a s) b (fire_later a s) (h b hb) k q c)
