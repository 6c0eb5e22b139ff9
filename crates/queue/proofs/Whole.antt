-- "Only buffers can hold tokens" (document 001, section 5): where the circuit is followed by the queue machine, each of its blocks has done whole firings over the
-- words delivered at its inputs. What the firings gave has left, but for the word that a buffer holds; only a fork's copies and a merge's sides can have left before. Both what has
-- left, with the word held, and what the firings gave begin the words that the machine has put; their lengths say the rest.
-- Assumes nothing.
use Prim.Native.Nat.{ℕ, ◌+◌, ◌<◌}
use mathlib.Core.Path.{◌≡◌, refl, sym, ap, ◌∙◌}
use mathlib.Core.Logic.{◌⊎◌, inl, inr, ⊎_elim}
use mathlib.Core.List.{List, [], ◌∷◌, ◌++◌, append-nil, IsPrefix}
use native.Mathlib.Omega.{arith}
use lib.ListN.{length, length-append}
use Rattle.blocks.specs.Kinds.{Kind, source, sink, operator, constant, fork, mux, demux, merge, buffer, control, unused}
use Rattle.blocks.specs.Ports.{n_out}
use Rattle.blocks.specs.Signals.{full}
use Rattle.blocks.specs.declared.Reg.{Reg}
use Rattle.blocks.proofs.Options.{test}
use Rattle.cycles.specs.Wires.{View}
use Rattle.cycles.proofs.Wiring.{Wired}
use Rattle.queue.specs.Machine.{Queues}
use Rattle.queue.specs.History.{got, inside, early, WholeFirings}
use Rattle.queue.proofs.Words.{prefix_grow, prefix_shorter, look_prefix}
use Rattle.queue.proofs.History.{Same, same_short}
use Rattle.queue.proofs.Sound.{ins_of}
use Rattle.queue.proofs.Cycle.{held}
use Rattle.queue.proofs.Simulation.{Follow, Sim, puts_at}

-- a block holds its register's word, or nothing
abbrev Holds : Kind → Reg → Type 0
Holds K r = ((held K r ≡ 1) × (inside K r ≡ r.word ∷ [])) ⊎ ((held K r ≡ 0) × (inside K r ≡ []))

full_or_not : (r : Reg) → Holds control r
full_or_not r = test (full r) (λ e. inl (rw e, rw e)) (λ e. inr (rw e, rw e))

holds_what : (K : Kind) (r : Reg) → Holds K r
holds_what (source xs) r = inr (refl, refl)
holds_what sink r = inr (refl, refl)
holds_what (operator o) r = inr (refl, refl)
holds_what (constant o c) r = inr (refl, refl)
holds_what (fork m) r = inr (refl, refl)
holds_what (mux m) r = inr (refl, refl)
holds_what (demux m) r = inr (refl, refl)
holds_what (merge m cs) r = inr (refl, refl)
holds_what (buffer o) r = full_or_not r
holds_what control r = full_or_not r
holds_what unused r = inr (refl, refl)

module _ (n : View) (w : Wired n) (D : ℕ → List ℕ) (r : ℕ → Reg) (s : Queues) (x : Sim n D r s) (b : ℕ) (hb : b < n.blocks) where
  abbrev K : Kind
  K = n.kind b

  abbrev ins : ℕ → List ℕ
  ins i = D (n.inp b i)

  abbrev outs : ℕ → List ℕ
  outs j = D (n.out b j)

  abbrev y : Follow n s D (r b) b
  y = x.follow b hb

  -- the firings that are complete in the circuit are the same over the words delivered
  past : Same K ins (ins_of n s b) y.done
  past =
      same_short K ins (ins_of n s b) (λ i h. x.begins (n.inp b i) (w.inp_range b i hb h)) y.done
      (λ q h. (x.sound b hb).can q (omega (arith, h, y.behind))) (λ i h. omega (arith, y.ins_at i h))

  -- what they gave
  abbrev gave : ℕ → List ℕ
  gave j = got K (ins_of n s b) y.done j

  gave_begins : (j : ℕ) → j < n_out K → IsPrefix (gave j) (s.puts (n.out b j))
  gave_begins j h = puts_at n w s b (x.sound b hb) y.done j h y.behind

  -- what has left, with what is held
  left_begins : (j : ℕ) → j < n_out K → IsPrefix (outs j ++ inside K (r b)) (s.puts (n.out b j))
  left_begins j h =
      let out-begins : IsPrefix (outs j) (s.puts (n.out b j)) = x.begins (n.out b j) (w.out_range b j hb h) in
      ⊎_elim
      (λ e. rw e.1 (prefix_grow (outs j) (s.puts (n.out b j)) out-begins (r b).word
      (look_prefix (gave j) (s.puts (n.out b j)) (gave_begins j h) (length (outs j)) (r b).word (y.held_at_lem j h e.0))))
      (λ e. rw (e.1, append-nil (outs j)) out-begins)
      (holds_what K (r b))

  lengths : (j : ℕ) → j < n_out K → length (outs j ++ inside K (r b)) ≡ length (gave j) + early K (r b) j
  lengths j h =
      let inside-length : length (inside K (r b)) ≡ held K (r b) = ⊎_elim (λ e. ap length e.1 ∙ sym e.0) (λ e. ap length e.1 ∙ sym e.0) (holds_what K (r b)) in
      omega (arith, length-append (outs j) (inside K (r b)), inside-length, y.outs_at j h)

  pub whole : WholeFirings K (r b) ins outs
  whole =
      record {
        firings = y.done;
        takes_all = λ i h. sym (past.pos_same i h) ∙ sym (y.ins_at i h);
        gives_all = λ j h.
            let p = prefix_shorter (gave j) (outs j ++ inside K (r b)) (s.puts (n.out b j)) (gave_begins j h) (left_begins j h) (omega (arith, lengths j h)) in (
              p.0,
              (let z : length (gave j ++ p.0) ≡ length (gave j) + length p.0 = length-append (gave j) p.0 in omega (arith, lengths j h, ap length p.1, z)),
              sym p.1 ∙ ap (λ (l : List ℕ). l ++ p.0) (past.got_same j),
            );
      }
