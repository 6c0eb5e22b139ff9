-- What one firing does to one channel, at a port of its block and elsewhere, and what a channel starts with.
-- Assumes nothing.
use Prim.Native.Nat.{ℕ, zero, suc, ◌+◌, ◌<◌}
use mathlib.Core.Path.{◌≡◌, refl, sym, ◌∙◌, ap}
use mathlib.Core.Bool.{Bool, true, false}
use mathlib.Core.Logic.{◌≢◌, ◌⊎◌, inl, inr, ⊎_elim}
use mathlib.Core.List.{List, [], ◌++◌, append-nil}
use mathlib.Core.Option.{none, some}
use native.Mathlib.Nat.{not-suc-le-zero}
use native.Mathlib.Omega.{arith}
use borrow.Author.Tests.{eqb-true, eqb-false}
use lib.Dec.{eqb}
use Rattle.blocks.specs.Kinds.{Kind, source, sink, operator, constant, fork, mux, demux, merge, buffer, control, unused}
use Rattle.blocks.specs.Ports.{n_in, n_out}
use Rattle.blocks.specs.Firing.{Turn, first}
use Rattle.blocks.proofs.Options.{test}
use Rattle.cycles.specs.Wires.{View}
use Rattle.cycles.proofs.Wiring.{Wired}
use Rattle.queue.specs.Machine.{Queues, change, walk, perform, start}
use Rattle.queue.proofs.Apart.{last_or, output_alone, input_alone}
use Rattle.queue.proofs.Walk.{walk_here, walk_elsewhere}

module _ (v : View) (b : ℕ) (t : Turn) (s : Queues) where
  -- the channel at output port j gets what the firing gives there
  pub put_here : Wired v → b < v.blocks → (j : ℕ) → j < n_out (v.kind b) → (perform v b t s).puts (v.out b j) ≡ s.puts (v.out b j) ++ t.gives j
  put_here w hb j hj =
      walk_here (v.out b) (n_out (v.kind b)) (v.out b j) (λ j l. l ++ t.gives j) (s.puts (v.out b j)) j hj refl (λ k hk e. output_alone v w b k j hb hk hj e)

  pub put_elsewhere : (c : ℕ) → ((j : ℕ) → j < n_out (v.kind b) → v.out b j ≢ c) → (perform v b t s).puts c ≡ s.puts c
  put_elsewhere c none-on = walk_elsewhere (v.out b) (n_out (v.kind b)) c (λ j l. l ++ t.gives j) (s.puts c) none-on

  -- from the channel at input port i what the firing takes there is taken
  pub take_here : Wired v → b < v.blocks → (i : ℕ) → i < n_in (v.kind b) → (perform v b t s).taken (v.inp b i) ≡ s.taken (v.inp b i) + t.takes i
  take_here w hb i hi =
      walk_here (v.inp b) (n_in (v.kind b)) (v.inp b i) (λ i n. n + t.takes i) (s.taken (v.inp b i)) i hi refl (λ k hk e. input_alone v w b k i hb hk hi e)

  pub take_elsewhere : (c : ℕ) → ((i : ℕ) → i < n_in (v.kind b) → v.inp b i ≢ c) → (perform v b t s).taken c ≡ s.taken c
  take_elsewhere c none-on = walk_elsewhere (v.inp b) (n_in (v.kind b)) c (λ i n. n + t.takes i) (s.taken c) none-on

-- ## The start

change_idle {ℓ} : {A : Type ℓ} (t : Bool) (f : A → A) (u : A) → (t ≡ true → f u ≡ u) → change t f u ≡ u
change_idle true f u idle = idle refl
change_idle false f u idle = refl

walk_idle {ℓ} : {A : Type ℓ} (port : ℕ → ℕ) (n c : ℕ) (f : ℕ → A → A) (u : A)
    → ((j : ℕ) → j < n → port j ≡ c → (u : A) → f j u ≡ u) → walk port n c f u ≡ u
walk_idle port zero c f u idle = refl
walk_idle port (suc n) c f u idle =
    change_idle (eqb (port n) c) (f n) (walk port n c f u) (λ e. idle n (omega arith) (eqb-true (port n) c e) (walk port n c f u))
    ∙ walk_idle port n c f u (λ j hj. idle j (omega arith))

-- a walk in which only index p may change anything
walk-only {ℓ} : {A : Type ℓ} (port : ℕ → ℕ) (n c : ℕ) (f : ℕ → A → A) (u : A) (p : ℕ) → p < n
    → ((j : ℕ) → j < n → port j ≡ c → j ≢ p → (u : A) → f j u ≡ u) → walk port n c f u ≡ change (eqb (port p) c) (f p) u
walk-only port zero c f u p h idle = absurd (not-suc-le-zero h)
walk-only port (suc n) c f u p h idle =
    ⊎_elim
    (λ (q : p ≡ n).
    ap (change (eqb (port n) c) (f n)) (walk_idle port n c f u (λ j hj ej. idle j (omega arith) ej (λ e. omega arith)))
    ∙ ap (λ (x : ℕ). change (eqb (port x) c) (f x) u) (sym q))
    (λ (l : p < n).
    change_idle (eqb (port n) c) (f n) (walk port n c f u) (λ e. idle n (omega arith) (eqb-true (port n) c e) (λ e. omega arith) (walk port n c f u))
    ∙ walk-only port n c f u p l (λ j hj. idle j (omega arith)))
    (last_or p n h)

-- a block that has put a word at the start has one output port
first_or : (K : Kind) → (first K ≡ []) ⊎ (n_out K ≡ 1)
first_or (source xs) = inl refl
first_or sink = inl refl
first_or (operator o) = inl refl
first_or (constant o v) = inl refl
first_or (fork m) = inl refl
first_or (mux m) = inl refl
first_or (demux m) = inl refl
first_or (merge m cs) = inl refl
first_or (buffer none) = inl refl
first_or (buffer (some x)) = inr refl
first_or control = inl refl
first_or unused = inl refl

-- a channel starts with what its producer has put
pub puts_start : (v : View) (w : Wired v) (c : ℕ) → c < v.channels → (start v).puts c ≡ first (v.kind (w.producer c))
puts_start v w c h =
    walk-only (λ b. v.out b 0) v.blocks c (λ b l. l ++ first (v.kind b)) [] p (w.leaves c h).0 idle
    ∙ test (eqb (v.out p 0) c) (λ q. rw q) (λ q. rw q (sym (⊎_elim (λ e. e) (λ e. absurd (away q e)) (first_or (v.kind p)))))
  where
    p : ℕ
    p = w.producer c

    idle : (b : ℕ) → b < v.blocks → v.out b 0 ≡ c → b ≢ p → (u : List ℕ) → u ++ first (v.kind b) ≡ u
    idle b hb e ne u =
        ⊎_elim (λ z. rw z (append-nil u))
        (λ z. absurd (ne (sym (w.leaves-only b 0 hb (omega arith)).0 ∙ ap w.producer e)))
        (first_or (v.kind b))

    away : eqb (v.out p 0) c ≡ false → n_out (v.kind p) ≡ 1 → ⊥
    away q e =
        let port : w.out_port c ≡ 0 = omega (arith, (w.leaves c h).1, e) in
        eqb-false (v.out p 0) c q (ap (v.out p) (sym port) ∙ (w.leaves c h).2)
