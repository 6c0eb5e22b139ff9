-- A block that is no buffer keeps nothing of a word that it has taken in: after a cycle in which one of its inputs is ready and so lets a word go, its registers are
-- zero. Operators, muxes, demuxes and sinks have no registers that any rule names; a fork clears its marks, a merge its winner and marks.
-- Assumes nothing.
use Rattle.std.proofs.Common.{◌≡◌, ℕ, ◌<◌, Bool, true, false, ◌&&◌, eqb, ltb, List, sym, refl, ap, ◌∙◌, arith, eqb-true}
use Rattle.blocks.specs.Kinds.{Kind, source, sink, operator, constant, fork, mux, demux, merge, buffer, control, unused}
use Rattle.blocks.specs.Ports.{n_in}
use Rattle.blocks.specs.Signals.{named, empty}
use Rattle.blocks.specs.Equations.{went, all_done, winner, won, ready_of, next_of}
use Rattle.blocks.specs.Shape.{zero_reg, in_shape}
use Rattle.blocks.specs.declared.Sig.{Sig}
use Rattle.blocks.specs.declared.Reg.{Reg}
use Rattle.blocks.proofs.Folds.{clash, and_1, and_2}

-- the kinds that hold words: the data and the control buffers
abbrev pub storing : Kind → Bool
storing (source xs) = false
storing sink = false
storing (operator o) = false
storing (constant o c) = false
storing (fork m) = false
storing (mux m) = false
storing (demux m) = false
storing (merge m cs) = false
storing (buffer o) = true
storing control = true
storing unused = false

zero_is : (r : Reg) → zero_reg r ≡ true → r ≡ empty
zero_is r e =
    let w : r.word ≡ 0 = eqb-true r.word 0 (and_1 (eqb r.word 0) (eqb r.marks 0) e) in
    let m : r.marks ≡ 0 = eqb-true r.marks 0 (and_2 (eqb r.word 0) (eqb r.marks 0) e) in
    ap (λ (a : ℕ). record { word = a; marks = r.marks }) w ∙ ap (λ (b : ℕ). record { word = 0; marks = b }) m

module _ (mask : Bool) (r : Reg) (x : ℕ → Sig) (t v y : ℕ → Bool) where
  -- input i is ready by the block's equations; then the next registers are zero
  abbrev Emptied : Kind → ℕ → Type 0
  Emptied K i = t i ≡ ready_of K mask r x v y i → t i ≡ true → next_of K r x t v y ≡ empty

  emptied_fork : (m : ℕ) → in_shape (fork m) r ≡ true → t 0 ≡ true → next_of (fork m) r x t v y ≡ empty
  emptied_fork m s q = rw (q, eqb-true r.word 0 (and_1 (eqb r.word 0) (ltb r.marks _) s))

  emptied_merge : (m : ℕ) (cs : List ℕ) (i : ℕ) → Emptied (merge m cs) i
  emptied_merge m cs i e q =
      let both : ((won m r x).valid && all_done 2 r.marks (went v y)) ≡ true =
      and_1 ((won m r x).valid && all_done 2 r.marks (went v y)) (named (winner m x r.word) (eqb i)) (sym e ∙ q) in
      rw (and_1 (won m r x).valid (all_done 2 r.marks (went v y)) both, and_2 (won m r x).valid (all_done 2 r.marks (went v y)) both)

  pub emptied : (K : Kind) → storing K ≡ false → in_shape K r ≡ true → (i : ℕ) → i < n_in K → Emptied K i
  emptied (source xs) n s i h e q = absurd (omega arith)
  emptied sink n s i h e q = zero_is r s
  emptied (operator o) n s i h e q = zero_is r s
  emptied (constant o c) n s i h e q = zero_is r s
  emptied (fork m) n s i h e q = let z : 0 ≡ i = omega arith in emptied_fork m s (ap t z ∙ q)
  emptied (mux m) n s i h e q = zero_is r s
  emptied (demux m) n s i h e q = zero_is r s
  emptied (merge m cs) n s i h e q = emptied_merge m cs i e q
  emptied (buffer o) n s i h e q = clash refl n
  emptied control n s i h e q = clash refl n
  emptied unused n s i h e q = absurd (omega arith)
