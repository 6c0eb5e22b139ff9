-- Any two lists of firings of one net put comparable words on each channel: one puts a beginning of what the other puts. Two blocks that can both fire may
-- fire in either order, so a firing can be moved to the front of a list.
-- Assumes nothing.
use Prim.Native.Nat.{ℕ, suc, ◌+◌, ◌<◌}
use mathlib.Core.Path.{◌≡◌, refl, sym, ◌∙◌, ap}
use mathlib.Core.Bool.{Bool, true, false}
use mathlib.Core.Logic.{◌≢◌, ◌⊎◌, ⊎_elim}
use mathlib.Core.List.{List, [], ◌∷◌, ◌++◌, append_assoc, append-nil, IsPrefix}
use mathlib.Core.Option.{Option, none, some}
use borrow.Author.Tests.{eqb-true, eqb-false, ltb-true}
use lib.Dec.{ltb, eqb}
use Rattle.blocks.specs.Ports.{n_in, n_out}
use Rattle.blocks.specs.Firing.{Turn}
use Rattle.blocks.proofs.Options.{Below, if_there, if_below}
use Rattle.blocks.proofs.Turns.{turn_below}
use Rattle.cycles.specs.Wires.{View}
use Rattle.cycles.proofs.Wiring.{Wired}
use Rattle.queue.specs.Machine.{Queues, waiting, turn_of, perform, after, fire, run, start}
use Rattle.queue.proofs.Words.{prefix_refl, prefix_trans, prefix_compare, look_prefix}
use Rattle.queue.proofs.Apart.{outputs_apart, inputs_apart}
use Rattle.queue.proofs.Walk.{change_other, change_swap, walk_elsewhere, walk_swap, walk-grows}

module _ (v : View) (w : Wired v) where
  perform_swap : (b x : ℕ) (a a' : Turn) (s : Queues) → b < v.blocks → x < v.blocks → b ≢ x
      → perform v b a (perform v x a' s) ≡ perform v x a' (perform v b a s)
  perform_swap b x a a' s hb hx ne =
      λ i. record {
        puts = λ c. walk_swap (v.out b) (v.out x) (n_out (v.kind b)) (n_out (v.kind x)) c (λ j l. l ++ a.gives j) (λ j l. l ++ a'.gives j) (s.puts c) (outputs_apart v w b x c hb hx ne) i;
        taken = λ c. walk_swap (v.inp b) (v.inp x) (n_in (v.kind b)) (n_in (v.kind x)) c (λ j n. n + a.takes j) (λ j n. n + a'.takes j) (s.taken c) (inputs_apart v w b x c hb hx ne) i;
        fired = λ y. change_swap y b x ne suc suc (s.fired y) i;
      }

  -- a word that waits at a port of block b still waits after block x has fired
  waiting_stays : (b x : ℕ) (a' : Turn) (s : Queues) → b < v.blocks → x < v.blocks → b ≢ x → (j : ℕ) → j < n_in (v.kind b)
      → Below (waiting v s b j) (waiting v (perform v x a' s) b j)
  waiting_stays b x a' s hb hx ne j port =
      let c : ℕ = v.inp b j in
      let others : (k : ℕ) → k < n_in (v.kind x) → v.inp x k ≢ c = ⊎_elim (λ f. absurd (f j port refl)) (λ g. g) (inputs_apart v w b x c hb hx ne) in
      rw (walk_elsewhere (v.inp x) (n_in (v.kind x)) c (λ k n. n + a'.takes k) (s.taken c) others)
      (look_prefix (s.puts c) ((perform v x a' s).puts c) (walk-grows (v.out x) (n_out (v.kind x)) c a'.gives (s.puts c)) (s.taken c))

module _ (v : View) (w : Wired v) where
  -- only the net's blocks fire
  able_inside : (b : ℕ) (a : Turn) (s : Queues) → turn_of v s b ≡ some a → b < v.blocks
  able_inside b a s able = ltb-true b v.blocks (if_there (ltb b v.blocks) _ a able).0

  -- a block that can fire does the same after another block has fired
  turn-stays : (b x : ℕ) (a' : Turn) (s : Queues) → x < v.blocks → b ≢ x → Below (turn_of v s b) (turn_of v (perform v x a' s) b)
  turn-stays b x a' s hx ne =
      if_below (ltb b v.blocks) _ _ (λ e.
      rw (change_other b x ne suc (s.fired b))
      (turn_below (v.kind b) (s.fired b) _ _ (waiting_stays v w b x a' s (ltb-true b v.blocks e) hx ne)))

  fire_able : (b : ℕ) (a : Turn) (s : Queues) → turn_of v s b ≡ some a → fire v b s ≡ perform v b a s
  unfolding fire
  fire_able b a s able = ap (after v b s) able

  fire_unable : (b : ℕ) (s : Queues) → turn_of v s b ≡ none → fire v b s ≡ s
  unfolding fire
  fire_unable b s unable = ap (after v b s) unable

  -- a block that can fire still can after another block has fired
  able_stays : (b x : ℕ) (a a' : Turn) (s : Queues) → b ≢ x → turn_of v s b ≡ some a → turn_of v s x ≡ some a'
      → turn_of v (fire v x s) b ≡ some a
  able_stays b x a a' s ne able able' = rw (fire_able x a' s able') (turn-stays b x a' s (able_inside x a' s able') ne a able)

  -- two blocks that can both fire may fire in either order
  fire_swap : (b x : ℕ) (a a' : Turn) (s : Queues) → b ≢ x → turn_of v s b ≡ some a → turn_of v s x ≡ some a'
      → fire v b (fire v x s) ≡ fire v x (fire v b s)
  fire_swap b x a a' s ne able able' =
      fire_able b a (fire v x s) (able_stays b x a a' s ne able able')
      ∙ ap (perform v b a) (fire_able x a' s able')
      ∙ perform_swap v w b x a a' s (able_inside b a s able) (able_inside x a' s able') ne
      ∙ sym (fire_able x a' (fire v b s) (able_stays x b a' a s (λ e. ne (sym e)) able' able) ∙ ap (perform v x a') (fire_able b a s able))

  -- ## Lists of firings

  pub run-append : (F G : List ℕ) (s : Queues) → run v (F ++ G) s ≡ run v G (run v F s)
  run-append [] G s = refl
  run-append (b ∷ F) G s = run-append F G (fire v b s)

  -- after s, the firings F and then b come to the same as b and then some others
  abbrev Moved : ℕ → List ℕ → Queues → Type 0
  Moved b F s = (F' : List ℕ) × (run v (F ++ b ∷ []) s ≡ run v F' (fire v b s))

  move_past : (b x : ℕ) (F : List ℕ) (a : Turn) (s : Queues) → turn_of v s b ≡ some a
      → ((s : Queues) → turn_of v s b ≡ some a → Moved b F s)
      → (t : Bool) → eqb b x ≡ t → (o : Option Turn) → turn_of v s x ≡ o → Moved b (x ∷ F) s
  move_past b x F a s able ih true e o q = (F ++ b ∷ [], ap (λ (y : ℕ). run v (F ++ b ∷ []) (fire v y s)) (sym (eqb-true b x e)))
  move_past b x F a s able ih false e none q = let r = ih s able in (r.0, ap (run v (F ++ b ∷ [])) (fire_unable x s q) ∙ r.1)
  move_past b x F a s able ih false e (some a') q =
      let r = ih (fire v x s) (able_stays b x a a' s (eqb-false b x e) able q) in
      (x ∷ r.0, r.1 ∙ ap (run v r.0) (fire_swap b x a a' s (eqb-false b x e) able q))

  -- a block that can fire may fire first
  move : (b : ℕ) (F : List ℕ) (a : Turn) (s : Queues) → turn_of v s b ≡ some a → Moved b F s
  move b [] a s able = ([], refl)
  move b (x ∷ F) a s able = move_past b x F a s able (move b F a) (eqb b x) refl (turn_of v s x) refl

  -- after s, the firings F and then G come to the same as G and then some others
  abbrev pub Joined : List ℕ → List ℕ → Queues → Type 0
  Joined F G s = (E : List ℕ) × (run v (F ++ G) s ≡ run v (G ++ E) s)

  join_past : (F : List ℕ) (g : ℕ) (G : List ℕ) (s : Queues) → ((F : List ℕ) (s : Queues) → Joined F G s)
      → (o : Option Turn) → turn_of v s g ≡ o → Joined F (g ∷ G) s
  join_past F g G s ih none q =
      let r = ih (F ++ g ∷ []) s in (
        r.0,
        ap (λ (l : List ℕ). run v l s) (sym (append_assoc F (g ∷ []) G)) ∙ r.1 ∙ ap (run v (G ++ r.0)) (sym (fire_unable g s q)),
      )
  join_past F g G s ih (some a) q =
      let m = move g F a s q in
      let r = ih m.0 (fire v g s) in (
        r.0,
        ap (λ (l : List ℕ). run v l s) (sym (append_assoc F (g ∷ []) G))
            ∙ run-append (F ++ g ∷ []) G s
            ∙ ap (run v G) m.1
            ∙ sym (run-append m.0 G (fire v g s))
            ∙ r.1,
      )

  -- any two lists of firings go on to one state
  pub join : (F G : List ℕ) (s : Queues) → Joined F G s
  join F [] s = (F, ap (λ (l : List ℕ). run v l s) (append-nil F))
  join F (g ∷ G) s = join_past F g G s (λ F s. join F G s) (turn_of v s g) refl

  grows-once : (b : ℕ) (s : Queues) (c : ℕ) (o : Option Turn) → IsPrefix (s.puts c) ((after v b s o).puts c)
  grows-once b s c none = prefix_refl (s.puts c)
  grows-once b s c (some a) = walk-grows (v.out b) (n_out (v.kind b)) c a.gives (s.puts c)

  -- firing adds words and takes none back
  grows : (F : List ℕ) (s : Queues) (c : ℕ) → IsPrefix (s.puts c) ((run v F s).puts c)
  unfolding fire
  grows [] s c = prefix_refl (s.puts c)
  grows (b ∷ F) s c =
      prefix_trans (s.puts c) ((fire v b s).puts c) ((run v F (fire v b s)).puts c) (grows-once b s c (turn_of v s b)) (grows F (fire v b s) c)

  grows-append : (F G : List ℕ) (s : Queues) (c : ℕ) → IsPrefix ((run v F s).puts c) ((run v (F ++ G) s).puts c)
  grows-append F G s c = rw (run-append F G s) (grows G (run v F s) c)

  -- Beginnings of what two lists of firings put on a channel are comparable.
  pub beginnings_comparable : (F G : List ℕ) (s : Queues) (c : ℕ) (xs ys : List ℕ)
      → IsPrefix xs ((run v F s).puts c) → IsPrefix ys ((run v G s).puts c) → IsPrefix xs ys ⊎ IsPrefix ys xs
  beginnings_comparable F G s c xs ys p q =
      let r = join F G s in
      prefix_compare xs ys ((run v (F ++ G) s).puts c)
      (prefix_trans xs ((run v F s).puts c) ((run v (F ++ G) s).puts c) p (grows-append F G s c))
      (prefix_trans ys ((run v G s).puts c) ((run v (F ++ G) s).puts c) q (rw r.1 (grows-append G r.0 s c)))

  -- For any two lists of firings over the same streams, on each channel taken alone, one puts a beginning of what the other puts.
  pub comparable : (F G : List ℕ) (c : ℕ) → c < v.channels
      → IsPrefix ((run v F (start v)).puts c) ((run v G (start v)).puts c)
      ⊎ IsPrefix ((run v G (start v)).puts c) ((run v F (start v)).puts c)
  comparable F G c h =
      beginnings_comparable F G (start v) c ((run v F (start v)).puts c) ((run v G (start v)).puts c)
      (prefix_refl ((run v F (start v)).puts c))
      (prefix_refl ((run v G (start v)).puts c))
