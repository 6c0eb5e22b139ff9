-- The circuit of a net against its queue machine: every cycle is two passes of firings through an order of the blocks. In the first all valid words of the cycle
-- come to stand in their queues; in the second every block does the firing that belongs to the cycle, if one does.
-- Assumes nothing.
use Prim.Native.Nat.{ℕ, suc, ◌+◌, ◌≤◌, ◌<◌}
use mathlib.Core.Path.{◌≡◌, refl, sym, ap, ◌∙◌, subst}
use mathlib.Core.Bool.{Bool, true, false, cond, ◌&&◌, and-eq-true_iff}
use mathlib.Core.Logic.{◌⊎◌, inl, inr, ⊎_elim}
use mathlib.Core.List.Memᴰ
use mathlib.Core.List.{List, [], ◌∷◌, ◌++◌, append-nil, IsPrefix, Memᴰ}
use mathlib.Core.Option.{Option, some}
use native.Mathlib.Omega.{arith}
use lib.ListN.{length, get_elem?, length-append}
use Rattle.blocks.specs.Folds.{one}
use Rattle.blocks.specs.Kinds.{Kind}
use Rattle.blocks.specs.Ports.{n_in, n_out}
use Rattle.blocks.specs.Firing.{Turn}
use Rattle.blocks.specs.declared.Reg.{Reg}
use Rattle.blocks.proofs.Options.{Below}
use Rattle.blocks.proofs.Local.{waits}
use Rattle.cycles.specs.Wires.{View}
use Rattle.cycles.specs.Cycle.{Signals}
use Rattle.cycles.proofs.Wiring.{Wired}
use Rattle.queue.specs.Machine.{Queues, fire, run}
use Rattle.queue.specs.Delivered.{offered}
use Rattle.queue.specs.History.{takes_of, gives_of, front, pos, turn_at, got, early}
use Rattle.queue.proofs.Words.{prefix_trans, prefix_grow, look_prefix, look_at}
use Rattle.queue.proofs.History.{Same, same, turn_same, got-grows}
use Rattle.queue.proofs.Sound.{ins_of, Sound, AllSound, Later, moved_on, fire_later, run_later, fire-sound, run_sound, fire-pushes, run-pushes}
use Rattle.queue.proofs.Cycle.{held, Placed, Steered, Shown, Given, Stay, Move, offer, close}
use Rattle.queue.proofs.Circuit.{ports_at, Cycles, deliver}

length_deliver : (l : List ℕ) (t : Bool) (w : ℕ) → length (l ++ cond t (w ∷ []) []) ≡ length l + one t
length_deliver l true w = length-append l (w ∷ [])
length_deliver l false w = length-append l []

grown : (t : Bool) (xs ys : List ℕ) (w : ℕ) → (t ≡ true → get_elem? ys (length xs) ≡ some w) → IsPrefix xs ys → IsPrefix (xs ++ cond t (w ∷ []) []) ys
grown true xs ys w h p = prefix_grow xs ys p w (h refl)
grown false xs ys w h p = rw append-nil p

-- Block `b` in the circuit, against its history in the queue machine: `done` firings of it are complete in the circuit.
pub record Follow (n : View) (s : Queues) (D : ℕ → List ℕ) (r : Reg) (b : ℕ) : Type 0 where
  pub done : ℕ
  pub behind : done ≤ s.fired b
  pub ins_at : (i : ℕ) → i < n_in (n.kind b) → length (D (n.inp b i)) ≡ pos (n.kind b) (ins_of n s b) done i
  pub outs_at : (j : ℕ) → j < n_out (n.kind b) → length (D (n.out b j)) + held (n.kind b) r ≡ length (got (n.kind b) (ins_of n s b) done j) + early (n.kind b) r j
  pub held_at_lem : (j : ℕ) → j < n_out (n.kind b) → held (n.kind b) r ≡ 1 → get_elem? (got (n.kind b) (ins_of n s b) done j) (length (D (n.out b j))) ≡ some r.word
  pub placed : Placed (n.kind b) r done

-- The circuit, with the words delivered so far, against a state of the queue machine.
pub record Sim (n : View) (D : ℕ → List ℕ) (r : ℕ → Reg) (s : Queues) : Type 0 where
  pub sound : AllSound n s
  pub begins : (c : ℕ) → c < n.channels → IsPrefix (D c) (s.puts c)
  pub follow : (b : ℕ) → b < n.blocks → Follow n s D (r b) b

-- A valid word of this cycle stands in the queue, right after the words delivered.
abbrev pub Ahead : Queues → (ℕ → List ℕ) → Signals → ℕ → Type 0
Ahead s D g c = (g.shows c).valid ≡ true → get_elem? (s.puts c) (length (D c)) ≡ some (g.shows c).word

ahead_later : (s s' : Queues) (D : ℕ → List ℕ) (g : Signals) (c : ℕ) → Later s s' → Ahead s D g c → Ahead s' D g c
ahead_later s s' D g c l h v = look_prefix (s.puts c) (s'.puts c) (l.puts_grow c) (length (D c)) (g.shows c).word (h v)

-- An order of blocks: each block whose outputs wait for its inputs stands after the blocks that these come from.
pub data Order (n : View) (w : Wired n) : List ℕ → List ℕ → Type 0 where
  finish : {seen : List ℕ} → Order n w seen []
  next : {seen : List ℕ} {b : ℕ} {rest : List ℕ} → b < n.blocks
      → (waits (n.kind b) ≡ true → (i : ℕ) → i < n_in (n.kind b) → Memᴰ (w.producer (n.inp b i)) seen)
      → Order n w (b ∷ seen) rest → Order n w seen (b ∷ rest)

pub order_inside : (n : View) (w : Wired n) {seen rest : List ℕ} → Order n w seen rest → (b : ℕ) → Memᴰ b rest → b < n.blocks
order_inside n w finish b m = elim m [ ]
order_inside n w (next h before ord) b (Memᴰ.head e) = rw e h
order_inside n w (next h before ord) b (Memᴰ.tail m) = order_inside n w ord b m

module _ (n : View) (w : Wired n) where
  -- Only the words of the net's channels count.
  pub sim_same : (D E : ℕ → List ℕ) (r : ℕ → Reg) (s : Queues) → ((c : ℕ) → c < n.channels → E c ≡ D c) → Sim n D r s → Sim n E r s
  sim_same D E r s e x =
      record {
        sound = x.sound;
        begins = λ c q. rw (e c q) (x.begins c q);
        follow = λ b h. let y : Follow n s D (r b) b = x.follow b h in record {
          done = y.done;
          behind = y.behind;
          ins_at = λ i q. rw (e (n.inp b i) (w.inp_range b i h q)) (y.ins_at i q);
          outs_at = λ j q. rw (e (n.out b j) (w.out_range b j h q)) (y.outs_at j q);
          held_at_lem = λ j q k. rw (e (n.out b j) (w.out_range b j h q)) (y.held_at_lem j q k);
          placed = y.placed;
        };
      }

  -- The past is the same in a later state.
  same_later : (s s' : Queues) (b k : ℕ) → Later s s' → Sound n s b → k ≤ s.fired b → Same (n.kind b) (ins_of n s b) (ins_of n s' b) k
  same_later s s' b k l h q = same (n.kind b) (ins_of n s b) (ins_of n s' b) (λ i hi. l.puts_grow (n.inp b i)) k (λ p x. h.can p (omega arith))

  turn_later : (s s' : Queues) (b k : ℕ) → Later s s' → Sound n s b → k ≤ s.fired b → Below (turn_at (n.kind b) (ins_of n s b) k) (turn_at (n.kind b) (ins_of n s' b) k)
  turn_later s s' b k l h q = turn_same (n.kind b) (ins_of n s b) (ins_of n s' b) (λ i hi. l.puts_grow (n.inp b i)) k (same_later s s' b k l h q)

  follow_later : (s s' : Queues) (D : ℕ → List ℕ) (r : Reg) (b : ℕ) → Later s s' → Sound n s b → Follow n s D r b → Follow n s' D r b
  follow_later s s' D r b l h x =
      let z : Same (n.kind b) (ins_of n s b) (ins_of n s' b) x.done = same_later s s' b x.done l h x.behind in
      record {
        done = x.done;
        behind = omega (arith, x.behind, l.fired_grow b);
        ins_at = λ i q. x.ins_at i q ∙ sym (z.pos_same i q);
        outs_at = λ j q. rw (z.got_same j) (x.outs_at j q);
        held_at_lem = λ j q e. rw (z.got_same j) (x.held_at_lem j q e);
        placed = x.placed;
      }

  sim_later : (s s' : Queues) (D : ℕ → List ℕ) (r : ℕ → Reg) → Later s s' → AllSound n s' → Sim n D r s → Sim n D r s'
  sim_later s s' D r l h x =
      record { sound = h; begins = λ c q. prefix_trans (D c) (s.puts c) (s'.puts c) (x.begins c q) (l.puts_grow c); follow = λ b q. follow_later s s' D (r b) b l (x.sound b q) (x.follow b q) }

  -- What `k` firings put on an output stands there, where the block has fired at least `k` times.
  pub puts_at : (s : Queues) (b : ℕ) → Sound n s b → (k j : ℕ) → j < n_out (n.kind b) → k ≤ s.fired b → IsPrefix (got (n.kind b) (ins_of n s b) k j) (s.puts (n.out b j))
  puts_at s b h k j q l = rw (h.made j q) (got-grows (n.kind b) (ins_of n s b) j k (s.fired b) l)

  -- Where the words of the valid inputs stand in their queues, the front of the block's history shows them.
  shown : (s : Queues) (D : ℕ → List ℕ) (g : Signals) (r : Reg) (b : ℕ) (x : Follow n s D r b)
      → ((i : ℕ) → i < n_in (n.kind b) → Ahead s D g (n.inp b i))
      → Shown (n.kind b) (ports_at n g b) (front (ins_of n s b) (pos (n.kind b) (ins_of n s b) x.done))
  shown s D g r b x h i q v = rw (← (x.ins_at i q)) (h i q v)

  -- The history with one firing more, in a later state.
  module _ (s s' : Queues) (b k : ℕ) (l : Later s s') (h : Sound n s b) (q : k ≤ s.fired b) (t : Turn) (e : turn_at (n.kind b) (ins_of n s b) k ≡ some t) where
    got-more : (j : ℕ) → got (n.kind b) (ins_of n s' b) (suc k) j ≡ got (n.kind b) (ins_of n s b) k j ++ t.gives j
    got-more j =
        ap (λ (o : Option Turn). got (n.kind b) (ins_of n s' b) k j ++ gives_of o j) (turn_later s s' b k l h q t e)
        ∙ ap (λ (y : List ℕ). y ++ t.gives j) ((same_later s s' b k l h q).got_same j)

    pos-more : (i : ℕ) → i < n_in (n.kind b) → pos (n.kind b) (ins_of n s' b) (suc k) i ≡ pos (n.kind b) (ins_of n s b) k i + t.takes i
    pos-more i c =
        ap (λ (o : Option Turn). pos (n.kind b) (ins_of n s' b) k i + takes_of o i) (turn_later s s' b k l h q t e)
        ∙ ap (λ (y : ℕ). y + t.takes i) ((same_later s s' b k l h q).pos_same i c)

  -- One cycle, in which the winner of every merge is its next choice.
  module _ (mask : ℕ → Bool) (D : ℕ → List ℕ) (g : Signals) (r r' : ℕ → Reg) (cycle : Cycles n mask g r r')
      (steered : (b : ℕ) → b < n.blocks → (s : Queues) → Sound n s b → (x : Follow n s D (r b) b) → Steered (n.kind b) (ports_at n g b) (r b) x.done) where
    -- Once block `b` has been fired, the words that it offers stand in their queues.
    fire-ahead : (s : Queues) → Sim n D r s → (b : ℕ) → b < n.blocks → (waits (n.kind b) ≡ true → (i : ℕ) → i < n_in (n.kind b) → Ahead s D g (n.inp b i))
        → (j : ℕ) → j < n_out (n.kind b) → Ahead (fire n b s) D g (n.out b j)
    fire-ahead s x b hb h j q v =
        ⊎_elim held-case given-case
        (offer (mask b) (ports_at n g b) (r b) (r' b) y.done (front (ins_of n s b) (pos K (ins_of n s b) y.done)) K (steered b hb s (x.sound b hb) y) (cycle b hb) y.placed
        (λ e. shown s D g (r b) b y (h e)) j q v)
      where
        K : Kind
        K = n.kind b

        y : Follow n s D (r b) b
        y = x.follow b hb

        later : Later s (fire n b s)
        later = fire_later n b s

        after : Sound n (fire n b s) b
        after = fire-sound n w b s x.sound b hb

        held-case : (held K (r b) ≡ 1) × ((g.shows (n.out b j)).word ≡ (r b).word) → get_elem? ((fire n b s).puts (n.out b j)) (length (D (n.out b j))) ≡ some (g.shows (n.out b j)).word
        held-case e =
            rw e.1 (look_prefix (got K (ins_of n s b) y.done j) ((fire n b s).puts (n.out b j)) (prefix_trans (got K (ins_of n s b) y.done j) (s.puts (n.out b j)) ((fire n b s).puts (n.out b j)) (puts_at s b (x.sound b hb) y.done j q y.behind) (later.puts_grow (n.out b j))) (length (D (n.out b j))) (r b).word (y.held_at_lem j q e.0))

        given-case : Given K (ports_at n g b) (r b) y.done (front (ins_of n s b) (pos K (ins_of n s b) y.done)) j
            → get_elem? ((fire n b s).puts (n.out b j)) (length (D (n.out b j))) ≡ some (g.shows (n.out b j)).word
        given-case e =
            let p : y.done < (fire n b s).fired b = fire-pushes n w b hb s x.sound y.done y.behind (e.firing, e.fires) in
            let len : length (D (n.out b j)) ≡ length (got K (ins_of n s b) y.done j) = omega (arith, y.outs_at j q, e.none-held, e.none-early) in
            look_prefix (got K (ins_of n (fire n b s) b) (suc y.done) j) ((fire n b s).puts (n.out b j)) (puts_at (fire n b s) b after (suc y.done) j q p) (length (D (n.out b j))) (g.shows (n.out b j)).word
            (rw (got-more s (fire n b s) b y.done later (x.sound b hb) y.behind e.firing e.fires j, len, e.gives_it) (look_at (got K (ins_of n s b) y.done j) (g.shows (n.out b j)).word []))

    -- The channels that leave the blocks of a list are ahead.
    abbrev Known : Queues → List ℕ → Type 0
    Known s seen = (c : ℕ) → c < n.channels → Memᴰ (w.producer c) seen → Ahead s D g c

    sim-fire : (s : Queues) → Sim n D r s → (b : ℕ) → b < n.blocks → Sim n D r (fire n b s)
    sim-fire s x b hb = sim_later s (fire n b s) D r (fire_later n b s) (fire-sound n w b s x.sound) x

    known-fire : (s : Queues) → Sim n D r s → (seen : List ℕ) → Known s seen → (b : ℕ) → b < n.blocks
        → (waits (n.kind b) ≡ true → (i : ℕ) → i < n_in (n.kind b) → Memᴰ (w.producer (n.inp b i)) seen) → Known (fire n b s) (b ∷ seen)
    known-fire s x seen known b hb before c q m = ⊎_elim own other (Memᴰ.cases_cons m)
      where
        own : w.producer c ≡ b → Ahead (fire n b s) D g c
        own e =
            let l = w.leaves c q in
            let hj : w.out_port c < n_out (n.kind b) = subst (λ (a : ℕ). w.out_port c < n_out (n.kind a)) e l.1 in
            let hc : n.out b (w.out_port c) ≡ c = subst (λ (a : ℕ). n.out a (w.out_port c) ≡ c) e l.2 in
            subst (λ (a : ℕ). Ahead (fire n b s) D g a) hc (fire-ahead s x b hb (λ wt i hi. known (n.inp b i) (w.inp_range b i hb hi) (before wt i hi)) (w.out_port c) hj)

        other : Memᴰ (w.producer c) seen → Ahead (fire n b s) D g c
        other y = ahead_later s (fire n b s) D g c (fire_later n b s) (known c q y)

    -- One pass through an order: every valid word of the cycle stands in its queue.
    pass : {seen rest : List ℕ} → Order n w seen rest → (s : Queues) → Sim n D r s → Known s seen
        → (c : ℕ) → c < n.channels → Memᴰ (w.producer c) seen ⊎ Memᴰ (w.producer c) rest → Ahead (run n rest s) D g c
    pass finish s x known c q (inl m) = known c q m
    pass finish s x known c q (inr m) = elim m [ ]
    pass (next {seen} {b} {rest} hb before ord) s x known c q m = pass ord (fire n b s) (sim-fire s x b hb) (known-fire s x seen known b hb before) c q (moved_on m)

    -- How many words are delivered on a channel, with this cycle's.
    count : (c : ℕ) → length (deliver g D c) ≡ length (D c) + one ((g.shows c).valid && g.ready c)
    count c = length_deliver (D c) ((g.shows c).valid && g.ready c) (g.shows c).word

    -- Where no firing belongs to the cycle.
    follow-stay : (s s' : Queues) (b : ℕ) → Later s s' → Sound n s b → (x : Follow n s D (r b) b) → Stay (n.kind b) (ports_at n g b) (r b) (r' b) x.done → Follow n s' (deliver g D) (r' b) b
    follow-stay s s' b l h x y =
        let z : Same (n.kind b) (ins_of n s b) (ins_of n s' b) x.done = same_later s s' b x.done l h x.behind in
        record {
          done = x.done;
          behind = omega (arith, x.behind, l.fired_grow b);
          ins_at = λ i q. omega (arith, count (n.inp b i), ap one (y.ins_stay i q), x.ins_at i q, z.pos_same i q);
          outs_at = λ j q. omega (arith, count (n.out b j), y.outs_stay j q, x.outs_at j q, ap length (z.got_same j));
          held_at_lem = λ j q e.
              let hs = y.held_stay j q e in
              let len : length (deliver g D (n.out b j)) ≡ length (D (n.out b j)) = omega (arith, count (n.out b j), ap one hs.2) in
              rw (z.got_same j, hs.1, len) (x.held_at_lem j q hs.0);
          placed = y.place_stay;
        }

    -- Where one firing does.
    follow-move : (s s' : Queues) (b : ℕ) → Later s s' → Sound n s b → (x : Follow n s D (r b) b)
        → (y : Move (n.kind b) (ports_at n g b) (r b) (r' b) x.done (front (ins_of n s b) (pos (n.kind b) (ins_of n s b) x.done))) → x.done < s'.fired b → Follow n s' (deliver g D) (r' b) b
    follow-move s s' b l h x y p =
        record {
          done = suc x.done;
          behind = p;
          ins_at = λ i q. omega (arith, count (n.inp b i), y.ins_move i q, x.ins_at i q, pos-more s s' b x.done l h x.behind y.turned y.turns i q);
          outs_at = λ j q. omega (arith, count (n.out b j), y.outs_move j q, x.outs_at j q, ap length (more j), long j);
          held_at_lem = λ j q e.
              let hm = y.held_move j q e in
              let len : length (deliver g D (n.out b j)) ≡ length (got (n.kind b) (ins_of n s b) x.done j) = omega (arith, count (n.out b j), y.outs_move j q, x.outs_at j q, ap length hm.0, hm.1, e) in
              rw (more j, hm.0, len) (look_at (got (n.kind b) (ins_of n s b) x.done j) (r' b).word []);
          placed = y.place_move;
        }
      where
        more : (j : ℕ) → got (n.kind b) (ins_of n s' b) (suc x.done) j ≡ got (n.kind b) (ins_of n s b) x.done j ++ y.turned.gives j
        more j = got-more s s' b x.done l h x.behind y.turned y.turns j

        long : (j : ℕ) → length (got (n.kind b) (ins_of n s b) x.done j ++ y.turned.gives j) ≡ length (got (n.kind b) (ins_of n s b) x.done j) + length (y.turned.gives j)
        long j = length-append (got (n.kind b) (ins_of n s b) x.done j) (y.turned.gives j)

    -- A cycle is two passes: after the first all its valid words stand in their queues; in the second every block does the firing that belongs to the cycle.
    module _ (order : List ℕ) (ordered : Order n w [] order) (whole : (b : ℕ) → b < n.blocks → Memᴰ b order) where
      -- after the first, what is delivered and then what is valid begins what is put
      ahead_of : (s : Queues) → Sim n D r s → (c : ℕ) → c < n.channels → Ahead (run n order s) D g c
      ahead_of s x c q = pass ordered s x (λ c q m. elim m [ ]) c q (inr (whole (w.producer c) (w.leaves c q).0))

      pub sim-offers : (s : Queues) → Sim n D r s → (c : ℕ) → c < n.channels → IsPrefix (D c ++ offered g c) ((run n order s).puts c)
      sim-offers s x c q =
          grown (g.shows c).valid (D c) ((run n order s).puts c) (g.shows c).word (ahead_of s x c q)
          (prefix_trans (D c) (s.puts c) ((run n order s).puts c) (x.begins c q) ((run_later n order s).puts_grow c))

      pub sim-cycle : (s : Queues) → Sim n D r s → Sim n (deliver g D) r' (run n order (run n order s))
      sim-cycle s x = record {
        sound = sound2;
        begins = λ c q. grown ((g.shows c).valid && g.ready c) (D c) (s2.puts c) (g.shows c).word (λ e. ahead2 c q ((and-eq-true_iff (g.shows c).valid (g.ready c)).0 e).0) (prefix_trans (D c) (s1.puts c) (s2.puts c) (sim1.begins c q) (later2.puts_grow c));
        follow = λ b q. follows b q;
      }
        where
          s1 : Queues
          s1 = run n order s

          sound1 : AllSound n s1
          sound1 = run_sound n w order s x.sound

          sim1 : Sim n D r s1
          sim1 = sim_later s s1 D r (run_later n order s) sound1 x

          s2 : Queues
          s2 = run n order s1

          sound2 : AllSound n s2
          sound2 = run_sound n w order s1 sound1

          ahead1 : (c : ℕ) → c < n.channels → Ahead s1 D g c
          ahead1 = ahead_of s x

          later2 : Later s1 s2
          later2 = run_later n order s1

          ahead2 : (c : ℕ) → c < n.channels → Ahead s2 D g c
          ahead2 c q = ahead_later s1 s2 D g c later2 (ahead1 c q)

          follows : (b : ℕ) → b < n.blocks → Follow n s2 (deliver g D) (r' b) b
          follows b q =
              let x1 : Follow n s1 D (r b) b = sim1.follow b q in
              ⊎_elim (λ y. follow-stay s1 s2 b later2 (sound1 b q) x1 y)
              (λ y. follow-move s1 s2 b later2 (sound1 b q) x1 y (run-pushes n w order s1 sound1 b q (whole b q) x1.done x1.behind (y.turned, y.turns)))
              (close (mask b) (ports_at n g b) (r b) (r' b) x1.done (front (ins_of n s1 b) (pos (n.kind b) (ins_of n s1 b) x1.done)) (n.kind b)
              (steered b q s1 (sound1 b q) x1) (cycle b q) x1.placed
              (shown s1 D g (r b) b x1 (λ i hi. ahead1 (n.inp b i) (w.inp_range b i q hi))))
