-- A buffer on a channel changes no word: whatever firings of the net with the buffer put, some firings of the net without it put on every old channel.
-- Both machines go in step, but for the buffer's own firings, which the other does not see: what the buffer has put is a beginning of what it may take.
-- Assumes nothing.
use Prim.Native.Nat.{ℕ, zero, suc, ◌+◌, ◌<◌}
use mathlib.Core.Path.{◌≡◌, refl, sym, ◌∙◌, ap, subst}
use mathlib.Core.Bool.{cond}
use mathlib.Core.Logic.{◌≢◌, ⊎_elim}
use mathlib.Core.List.{List, [], ◌∷◌, ◌++◌, IsPrefix}
use mathlib.Core.Option.{Option, none, some, some-injective}
use native.Mathlib.Omega.{arith}
use borrow.Author.Tests.{eqb-true, eqb-false, ltb-true, lt-ltb}
use lib.Dec.{eqb, ltb}
use lib.ListN.{length, get_elem?, length-append}
use Rattle.blocks.specs.Ports.{n_in, n_out}
use Rattle.blocks.specs.Firing.{Turn, turn, first, each, ◌then◌}
use Rattle.blocks.proofs.Options.{test, Below, then_there, if_there}
use Rattle.blocks.proofs.Turns.{turn_below}
use Rattle.cycles.specs.Wires.{View}
use Rattle.cycles.proofs.Wiring.{Wired}
use Rattle.queue.specs.Machine.{Queues, change, walk, waiting, turn_of, perform, after, fire, run, start}
use Rattle.queue.proofs.Words.{prefix_trans, prefix_grow, look_prefix}
use Rattle.queue.proofs.Apart.{last_or}
use Rattle.queue.proofs.Walk.{change_other, walk-grows}
use Rattle.queue.proofs.Effects.{put_here, put_elsewhere, take_here, take_elsewhere, puts_start}
use Rattle.queue.proofs.Confluence.{run-append}
use Rattle.placed.proofs.Moved.{moved_other, moved_here, moved_away}

-- u is v with one block more, which takes from c and puts on a channel more, whence the block that took from c takes now
pub record Splits (v u : View) (c : ℕ) : Type 0 where
  pub on_channel : c < v.channels
  pub one_more : u.blocks ≡ suc v.blocks
  pub channel_more : u.channels ≡ suc v.channels
  pub same_kind : (b : ℕ) → b < v.blocks → u.kind b ≡ v.kind b
  pub same_out : (b j : ℕ) → b < v.blocks → j < n_out (v.kind b) → u.out b j ≡ v.out b j
  pub moved_inp : (b i : ℕ) → b < v.blocks → i < n_in (v.kind b) → u.inp b i ≡ cond (eqb (v.inp b i) c) v.channels (v.inp b i)
  pub one_in : n_in (u.kind v.blocks) ≡ 1
  pub one_out : n_out (u.kind v.blocks) ≡ 1
  pub from_old : u.inp v.blocks 0 ≡ c
  pub to_new : u.out v.blocks 0 ≡ v.channels
  pub passes : (k : ℕ) (f : ℕ → Option ℕ) → turn (u.kind v.blocks) k f ≡ (f 0 then λ a. some (each a))
  pub starts_empty : first (u.kind v.blocks) ≡ []

-- the queues s of u and q of v: the same but for the new channel, which holds what the new block has passed on
pub record Matches (v : View) (c : ℕ) (s q : Queues) : Type 0 where
  pub puts_same : (x : ℕ) → x < v.channels → s.puts x ≡ q.puts x
  pub fired_same : (b : ℕ) → b < v.blocks → s.fired b ≡ q.fired b
  pub taken_same : (x : ℕ) → x < v.channels → x ≢ c → s.taken x ≡ q.taken x
  pub taken_moved : s.taken v.channels ≡ q.taken c
  pub behind : IsPrefix (s.puts v.channels) (q.puts c)
  pub passed : length (s.puts v.channels) ≡ s.taken c

-- two walks whose changes are the same at every port
walk_alike {ℓ} : {A : Type ℓ} (port port' : ℕ → ℕ) (n x x' : ℕ) (f : ℕ → A → A) (u : A)
    → ((j : ℕ) → j < n → eqb (port j) x ≡ eqb (port' j) x') → walk port n x f u ≡ walk port' n x' f u
walk_alike port port' zero x x' f u same = refl
walk_alike port port' (suc n) x x' f u same =
    rw (same n (omega arith)) (ap (change (eqb (port' n) x') (f n)) (walk_alike port port' n x x' f u (λ j h. same j (omega arith))))

module _ (v u : View) (c : ℕ) (sp : Splits v u c) (wv : Wired v) (wu : Wired u) where
  -- ## A firing of an old block

  module _ (b : ℕ) (hb : b < v.blocks) (s q : Queues) (m : Matches v c s q) where
    -- what waits at its ports waits at the same ports of v
    waits-below : (i : ℕ) → i < n_in (v.kind b) → Below (waiting u s b i) (waiting v q b i)
    waits-below i hi =
        let p : ℕ = v.inp b i in
        let low : p < v.channels = wv.inp_range b i hb hi in
        rw (sp.moved_inp b i hb hi)
        (test (eqb p c)
        (λ e. let same : p ≡ c = eqb-true p c e in rw (e, m.taken_moved, same) (look_prefix (s.puts v.channels) (q.puts c) m.behind (q.taken c)))
        (λ e. rw (e, m.puts_same p low, m.taken_same p low (eqb-false p c e)) (λ w z. z)))

    turn_same : (t : Turn) → turn (u.kind b) (s.fired b) (waiting u s b) ≡ some t → turn (v.kind b) (q.fired b) (waiting v q b) ≡ some t
    turn_same t e = turn_below (v.kind b) (q.fired b) (waiting u s b) (waiting v q b) waits-below t (rw (sp.same_kind b hb, m.fired_same b hb) at e)

    out-low : (j : ℕ) → j < n_out (u.kind b) → u.out b j ≢ v.channels
    out-low j hj z =
        let kj : j < n_out (v.kind b) = rw (sp.same_kind b hb) at hj in
        let low : v.out b j < v.channels = wv.out_range b j hb kj in
        omega (arith, z, sp.same_out b j hb kj)

    inp-away : (i : ℕ) → i < n_in (u.kind b) → u.inp b i ≢ c
    inp-away i hi z =
        let ki : i < n_in (v.kind b) = rw (sp.same_kind b hb) at hi in
        moved_away (v.inp b i) c v.channels sp.on_channel (sym (sp.moved_inp b i hb ki) ∙ z)

    module _ (t : Turn) where
      old-puts : (x : ℕ) → x < v.channels → (perform u b t s).puts x ≡ (perform v b t q).puts x
      old-puts x h =
          rw (sp.same_kind b hb)
          (walk_alike (u.out b) (v.out b) (n_out (v.kind b)) x x (λ j l. l ++ t.gives j) (s.puts x) (λ j hj. rw (sp.same_out b j hb hj))
          ∙ ap (walk (v.out b) (n_out (v.kind b)) x (λ j l. l ++ t.gives j)) (m.puts_same x h))

      old-taken : (x : ℕ) → x < v.channels → x ≢ c → (perform u b t s).taken x ≡ (perform v b t q).taken x
      old-taken x h ne =
          rw (sp.same_kind b hb)
          (walk_alike (u.inp b) (v.inp b) (n_in (v.kind b)) x x (λ i n. n + t.takes i) (s.taken x)
          (λ i hi. rw (sp.moved_inp b i hb hi) (moved_other (v.inp b i) c v.channels x h ne))
          ∙ ap (walk (v.inp b) (n_in (v.kind b)) x (λ i n. n + t.takes i)) (m.taken_same x h ne))

      old-moved : (perform u b t s).taken v.channels ≡ (perform v b t q).taken c
      old-moved =
          rw (sp.same_kind b hb)
          (walk_alike (u.inp b) (v.inp b) (n_in (v.kind b)) v.channels c (λ i n. n + t.takes i) (s.taken v.channels)
          (λ i hi. rw (sp.moved_inp b i hb hi) (moved_here (v.inp b i) c v.channels (wv.inp_range b i hb hi)))
          ∙ ap (walk (v.inp b) (n_in (v.kind b)) c (λ i n. n + t.takes i)) m.taken_moved)

      new-channel : (perform u b t s).puts v.channels ≡ s.puts v.channels
      new-channel = put_elsewhere u b t s v.channels out-low

      old-behind : IsPrefix ((perform u b t s).puts v.channels) ((perform v b t q).puts c)
      old-behind =
          rw new-channel
          (prefix_trans (s.puts v.channels) (q.puts c) ((perform v b t q).puts c) m.behind
          (walk-grows (v.out b) (n_out (v.kind b)) c t.gives (q.puts c)))

      old-fires : Matches v c (perform u b t s) (perform v b t q)
      old-fires =
          record {
            puts_same = old-puts;
            fired_same = λ x hx. ap (change (eqb x b) suc) (m.fired_same x hx);
            taken_same = old-taken;
            taken_moved = old-moved;
            behind = old-behind;
            passed = ap length new-channel ∙ m.passed ∙ sym (take_elsewhere u b t s c inp-away);
          }

  -- ## A firing of the new block

  abbrev n : ℕ
  n = v.blocks

  module _ (s q : Queues) (m : Matches v c s q) (a : ℕ) (e : get_elem? (s.puts c) (s.taken c) ≡ some a) where
    new-inside : n < u.blocks
    new-inside = omega (arith, sp.one_more)

    new-out : (x : ℕ) → x ≢ v.channels → (j : ℕ) → j < n_out (u.kind n) → u.out n j ≢ x
    new-out x ne j hj z =
        let j0 : j ≡ 0 = omega (arith, hj, sp.one_out) in
        ne (sym z ∙ ap (u.out n) j0 ∙ sp.to_new)

    new-inp : (x : ℕ) → x ≢ c → (i : ℕ) → i < n_in (u.kind n) → u.inp n i ≢ x
    new-inp x ne i hi z =
        let i0 : i ≡ 0 = omega (arith, hi, sp.one_in) in
        ne (sym z ∙ ap (u.inp n) i0 ∙ sp.from_old)

    gives-new : (perform u n (each a) s).puts v.channels ≡ s.puts v.channels ++ a ∷ []
    gives-new = rw sp.to_new at (put_here u n (each a) s wu new-inside 0 (omega (arith, sp.one_out)))

    takes-old : (perform u n (each a) s).taken c ≡ s.taken c + 1
    takes-old = rw sp.from_old at (take_here u n (each a) s wu new-inside 0 (omega (arith, sp.one_in)))

    new-fires : Matches v c (perform u n (each a) s) q
    new-fires =
        record {
          puts_same = λ x h. put_elsewhere u n (each a) s x (new-out x (λ z. omega (arith, h, z))) ∙ m.puts_same x h;
          fired_same = λ b hb. change_other b n (λ z. omega (arith, hb, z)) suc (s.fired b) ∙ m.fired_same b hb;
          taken_same = λ x h ne. take_elsewhere u n (each a) s x (new-inp x ne) ∙ m.taken_same x h ne;
          taken_moved =
              take_elsewhere u n (each a) s v.channels (new-inp v.channels (λ z. omega (arith, z, sp.on_channel))) ∙ m.taken_moved;
          behind = rw gives-new (prefix_grow (s.puts v.channels) (q.puts c) m.behind a (rw (m.passed, ← (m.puts_same c sp.on_channel)) e));
          passed = ap length gives-new ∙ length-append (s.puts v.channels) (a ∷ []) ∙ ap (λ (k : ℕ). k + 1) m.passed ∙ sym takes-old;
        }

  -- ## Lists of firings

  -- the firings of v that follow one firing of u
  abbrev Followed : Queues → Queues → Type 0
  Followed s q = (G : List ℕ) × Matches v c s (run v G q)

  able_new : (s q : Queues) → Matches v c s q → (t : Turn) → turn (u.kind n) (s.fired n) (waiting u s n) ≡ some t → Followed (perform u n t s) q
  able_new s q m t e =
      let there = then_there (waiting u s n 0) (λ a. some (each a)) t (sym (sp.passes (s.fired n) (waiting u s n)) ∙ e) in
      let word : get_elem? (s.puts c) (s.taken c) ≡ some there.0 =
      sym (ap (λ (x : ℕ). get_elem? (s.puts x) (s.taken x)) sp.from_old) ∙ there.1 in
      ([], subst (λ (t : Turn). Matches v c (perform u n t s) q) (some-injective (each there.0) t there.2) (new-fires s q m there.0 word))

  able_old : (b : ℕ) (s q : Queues) → Matches v c s q → (t : Turn) → b < n → turn (u.kind b) (s.fired b) (waiting u s b) ≡ some t → Followed (perform u b t s) q
  unfolding fire
  able_old b s q m t hb e =
      let there : turn_of v q b ≡ some t = rw (lt-ltb b v.blocks hb) (turn_same b hb s q m t e) in
      (b ∷ [], rw there (old-fires b hb s q m t))

  able : (b : ℕ) (s q : Queues) → Matches v c s q → (t : Turn) → turn_of u s b ≡ some t → Followed (perform u b t s) q
  able b s q m t e =
      let can = if_there (ltb b u.blocks) (turn (u.kind b) (s.fired b) (waiting u s b)) t e in
      let inside : b < u.blocks = ltb-true b u.blocks can.0 in
      ⊎_elim
      (λ (z : b ≡ n).
      subst (λ (x : ℕ). Followed (perform u x t s) q) (sym z)
      (able_new s q m t (subst (λ (x : ℕ). turn (u.kind x) (s.fired x) (waiting u s x) ≡ some t) z can.1)))
      (λ (hb : b < n). able_old b s q m t hb can.1)
      (last_or b n (omega (arith, inside, sp.one_more)))

  one_firing : (b : ℕ) (s q : Queues) → Matches v c s q → (o : Option Turn) → turn_of u s b ≡ o → Followed (after u b s o) q
  one_firing b s q m none e = ([], m)
  one_firing b s q m (some t) e = able b s q m t e

  followed : (F : List ℕ) (s q : Queues) → Matches v c s q → Followed (run u F s) q
  unfolding fire
  followed [] s q m = ([], m)
  followed (b ∷ F) s q m =
      let E = one_firing b s q m (turn_of u s b) refl in
      let G = followed F (fire u b s) (run v E.0 q) E.1 in
      (E.0 ++ G.0, rw (run-append v wv E.0 G.0 q) G.1)

  -- ## The start

  old_producer : (x : ℕ) → x < v.channels → wu.producer x ≡ wv.producer x
  old_producer x h =
      let l = wv.leaves x h in
      let same : u.out (wv.producer x) (wv.out_port x) ≡ x = sp.same_out (wv.producer x) (wv.out_port x) l.0 l.1 ∙ l.2 in
      ap wu.producer (sym same)
      ∙ (wu.leaves-only (wv.producer x) (wv.out_port x) (omega (arith, l.0, sp.one_more)) (rw (sp.same_kind (wv.producer x) l.0) l.1)).0

  new_producer : wu.producer v.channels ≡ n
  new_producer = ap wu.producer (sym sp.to_new) ∙ (wu.leaves-only n 0 (omega (arith, sp.one_more)) (omega (arith, sp.one_out))).0

  start_old : (x : ℕ) → x < v.channels → (start u).puts x ≡ (start v).puts x
  start_old x h =
      puts_start u wu x (omega (arith, h, sp.channel_more))
      ∙ ap (λ (b : ℕ). first (u.kind b)) (old_producer x h)
      ∙ ap first (sp.same_kind (wv.producer x) (wv.leaves x h).0)
      ∙ sym (puts_start v wv x h)

  start_new : (start u).puts v.channels ≡ []
  start_new = puts_start u wu v.channels (omega (arith, sp.channel_more)) ∙ ap (λ (b : ℕ). first (u.kind b)) new_producer ∙ sp.starts_empty

  starts : Matches v c (start u) (start v)
  starts =
      record {
        puts_same = start_old;
        fired_same = λ b hb. refl;
        taken_same = λ x h ne. refl;
        taken_moved = refl;
        behind = rw start_new ((start v).puts c, refl);
        passed = ap length start_new;
      }

  -- whatever firings of u put on the channels of v, some firings of v put
  pub same_puts : (F : List ℕ) → (G : List ℕ) × ((x : ℕ) → x < v.channels → (run u F (start u)).puts x ≡ (run v G (start v)).puts x)
  same_puts F = let G = followed F (start u) (start v) starts in (G.0, G.1.puts_same)
