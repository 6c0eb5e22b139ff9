-- No more words are taken from a channel than were put on it, so what is put and how much of it is taken are together a queue.
-- Assumes nothing.
use Prim.Native.Nat.{ℕ, zero, suc, ◌≤◌, ◌<◌}
use mathlib.Core.Path.{◌≡◌, refl, sym, ◌∙◌, ap, subst}
use mathlib.Core.Bool.{Bool, true, false}
use mathlib.Core.Logic.{◌≢◌, ◌⊎◌, inl, inr, ⊎_elim}
use mathlib.Core.List.{List, [], ◌∷◌, IsPrefix}
use mathlib.Core.Option.{Option, none, some}
use native.Mathlib.Omega.{arith}
use borrow.Author.Tests.{ltb-true, eqb-true, eqb-false}
use lib.Dec.{ltb, eqb}
use lib.ListN.{length, length-append}
use Rattle.blocks.specs.Ports.{n_in, n_out}
use Rattle.blocks.specs.Firing.{Turn, turn}
use Rattle.blocks.proofs.Options.{if_there}
use Rattle.blocks.proofs.Turns.{turn-takes}
use Rattle.cycles.specs.Wires.{View}
use Rattle.cycles.proofs.Wiring.{Wired}
use Rattle.queue.specs.Machine.{Queues, waiting, turn_of, perform, after, fire, run, start}
use Rattle.queue.proofs.Words.{look_inside}
use Rattle.queue.proofs.Apart.{last_or}
use Rattle.queue.proofs.Walk.{walk-grows}
use Rattle.queue.proofs.Effects.{take_here, take_elsewhere}

Bounded : Queues → Type 0
Bounded s = (c : ℕ) → s.taken c ≤ length (s.puts c)

longer : (l l' : List ℕ) → IsPrefix l l' → length l ≤ length l'
longer l l' p = omega (arith, length-append l p.0, ap length p.1)

-- a port on channel c, or none
find : (port : ℕ → ℕ) (n c : ℕ) → ((j : ℕ) × (j < n) × (port j ≡ c)) ⊎ ((j : ℕ) → j < n → port j ≢ c)
find port zero c = inr (λ j h. absurd (omega arith))
find port (suc n) c = go (eqb (port n) c) refl (find port n c)
  where
    go : (t : Bool) → eqb (port n) c ≡ t → ((j : ℕ) × (j < n) × (port j ≡ c)) ⊎ ((j : ℕ) → j < n → port j ≢ c)
        → ((j : ℕ) × (j < suc n) × (port j ≡ c)) ⊎ ((j : ℕ) → j < suc n → port j ≢ c)
    go true q r = inl (n, omega arith, eqb-true (port n) c q)
    go false q (inl r) = let h : r.0 < n = r.1 in inl (r.0, omega arith, r.2)
    go false q (inr r) = inr (λ j h. ⊎_elim (λ e. λ e'. eqb-false (port n) c q (ap port (sym e) ∙ e')) (λ l. r j l) (last_or j n h))

module _ (v : View) (w : Wired v) where
  after-bounded : (b : ℕ) (s : Queues) → Bounded s → (o : Option Turn) → turn_of v s b ≡ o → Bounded (after v b s o)
  unfolding Bounded
  after-bounded b s h none e c = h c
  after-bounded b s h (some t) e c =
      let able = if_there (ltb b v.blocks) (turn (v.kind b) (s.fired b) (waiting v s b)) t e in
      let hb : b < v.blocks = ltb-true b v.blocks able.0 in
      let more : length (s.puts c) ≤ length ((perform v b t s).puts c) =
      longer (s.puts c) ((perform v b t s).puts c) (walk-grows (v.out b) (n_out (v.kind b)) c t.gives (s.puts c)) in
      let kept : (perform v b t s).taken c ≤ length (s.puts c) =
      ⊎_elim
      (λ (f : (i : ℕ) × (i < n_in (v.kind b)) × (v.inp b i ≡ c)).
      subst (λ (d : ℕ). (perform v b t s).taken d ≤ length (s.puts d)) f.2
      (rw (take_here v b t s w hb f.0 f.1)
      (⊎_elim
      (λ (z : t.takes f.0 ≡ 0). omega (arith, h (v.inp b f.0)))
      (λ (z : (t.takes f.0 ≡ 1) × ((x : ℕ) × (waiting v s b f.0 ≡ some x))).
      omega (arith, z.0, look_inside (s.puts (v.inp b f.0)) (s.taken (v.inp b f.0)) z.1.0 z.1.1))
      (turn-takes (v.kind b) (s.fired b) (waiting v s b) t able.1 f.0 f.1))))
      (λ (f : (i : ℕ) → i < n_in (v.kind b) → v.inp b i ≢ c). rw (take_elsewhere v b t s c f) (h c))
      (find (v.inp b) (n_in (v.kind b)) c) in
      omega arith

  run-bounded : (F : List ℕ) (s : Queues) → Bounded s → Bounded (run v F s)
  unfolding fire
  run-bounded [] s h = h
  run-bounded (b ∷ F) s h = run-bounded F (fire v b s) (after-bounded b s h (turn_of v s b) refl)

  pub bounded : (F : List ℕ) (c : ℕ) → (run v F (start v)).taken c ≤ length ((run v F (start v)).puts c)
  unfolding Bounded
  bounded F c = run-bounded F (start v) (λ c. omega arith) c
