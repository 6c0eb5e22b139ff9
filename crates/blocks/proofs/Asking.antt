-- Whom a block hands a question on to: the three cases with what is known in each, and that nothing but the signals at its own ports matters.
-- Assumes nothing.
use Rattle.std.proofs.Common.{◌≡◌, ℕ, zero, suc, ◌<◌, Bool, true, false, cond, not, ◌&&◌, eqb, List, [], sym, refl, ap, subst, ap₂, arith}
use mathlib.Core.Option.{Option, none, some}
use native.Mathlib.Decide.{ℕ_discrete}
use Rattle.blocks.specs.Folds.{or_else, lowest}
use Rattle.blocks.specs.Kinds.{Kind, source, sink, operator, constant, fork, mux, demux, merge, buffer, control, unused, kind_of}
use Rattle.blocks.specs.Ports.{n_in, n_out}
use Rattle.blocks.specs.Words.{reach}
use Rattle.blocks.specs.Signals.{named}
use Rattle.blocks.specs.Asking.{needs, looks, lacks, holds_up, Handed, to_input, to_output, to_nobody, input_else, output_else, handed}
use Rattle.blocks.specs.declared.Sig.{Sig}
use Rattle.blocks.specs.declared.Reg.{Reg}
use Rattle.blocks.proofs.Options.{none-some}
use Rattle.blocks.proofs.Local.{lowest_same, lowest-below, winner_same}
use Rattle.blocks.proofs.Numbers.{by_kind}

-- ## The lowest number of a test

lowest-holds : (n : ℕ) (f : ℕ → Bool) (t : ℕ) → lowest f n ≡ some t → f t ≡ true
unfolding lowest
lowest-holds zero f t e = none-some e
lowest-holds (suc n) f t e = go (lowest f n) (lowest-holds n f t) (f n) refl e
  where
    go : (o : Option ℕ) → (o ≡ some t → f t ≡ true) → (x : Bool) → f n ≡ x → or_else o (cond x (some n) none) ≡ some t → f t ≡ true
    go (some u) h x p q = h q
    go none h true p q = let z : n ≡ t = cc in subst (λ (k : ℕ). f k ≡ true) z p
    go none h false p q = none-some q

pub lowest_misses : (n : ℕ) (f : ℕ → Bool) → lowest f n ≡ none → (i : ℕ) → i < n → f i ≡ false
unfolding lowest
lowest_misses zero f e i h = absurd (omega arith)
lowest_misses (suc n) f e i h = go (lowest f n) (lowest_misses n f) (f n) refl e (ℕ_discrete i n)
  where
    go : (o : Option ℕ) → (o ≡ none → (i : ℕ) → i < n → f i ≡ false) → (x : Bool) → f n ≡ x → or_else o (cond x (some n) none) ≡ none → Dec (i ≡ n) → f i ≡ false
    go (some u) k x p q d = none-some (sym q)
    go none k true p q d = none-some (sym q)
    go none k false p q (yes d) = subst (λ (j : ℕ). f j ≡ false) (sym d) p
    go none k false p q (no d) = k refl i (omega arith)

-- ## The three cases

module _ (K : Kind) (r : Reg) (x : ℕ → Sig) (v y : ℕ → Bool) where
  -- to an input that is needed and lacks V; to an output that holds up, where no input lacks V; to nobody, where there is neither
  pub handed_cases : (P : Handed → Type 0) → ((i : ℕ) → i < n_in K → lacks K r x i ≡ true → P (to_input i)) → ((j : ℕ) → j < n_out K → holds_up K x v y j ≡ true → P (to_output j))
      → (((i : ℕ) → i < n_in K → lacks K r x i ≡ false) → ((j : ℕ) → j < n_out K → holds_up K x v y j ≡ false) → P to_nobody) → P (handed K r x v y)
  unfolding handed
  handed_cases P on-input on-output on-nobody = by (lowest (lacks K r x) (n_in K)) (lowest (holds_up K x v y) (n_out K)) refl refl
    where
      by : (o p : Option ℕ) → lowest (lacks K r x) (n_in K) ≡ o → lowest (holds_up K x v y) (n_out K) ≡ p → P (input_else o (output_else p to_nobody))
      by (some i) p e d = on-input i (lowest-below (n_in K) (lacks K r x) i e) (lowest-holds (n_in K) (lacks K r x) i e)
      by none (some j) e d = on-output j (lowest-below (n_out K) (holds_up K x v y) j d) (lowest-holds (n_out K) (holds_up K x v y) j d)
      by none none e d = on-nobody (lowest_misses (n_in K) (lacks K r x) e) (lowest_misses (n_out K) (holds_up K x v y) d)

-- ## Its own ports alone

needs_local : (K : Kind) (r : Reg) (x y : ℕ → Sig) → ((i : ℕ) → i < n_in K → x i ≡ y i) → (i : ℕ) → needs K r x i ≡ needs K r y i
needs_local (source xs) r x y h i = refl
needs_local sink r x y h i = refl
needs_local (operator o) r x y h i = refl
needs_local (constant o c) r x y h i = refl
needs_local (fork m) r x y h i = refl
needs_local (mux m) r x y h zero = refl
needs_local (mux m) r x y h (suc i) = ap (λ (s : Sig). named (reach m s.word) (eqb i)) (h 0 (omega arith))
needs_local (demux m) r x y h i = refl
needs_local (merge m cs) r x y h i = ap (λ (o : Option ℕ). named o (eqb i)) (winner_same m x y r.word h)
needs_local (buffer o) r x y h i = refl
needs_local control r x y h i = refl
needs_local unused r x y h i = refl

looks_local : (K : Kind) (x y : ℕ → Sig) → ((i : ℕ) → i < n_in K → x i ≡ y i) → (j : ℕ) → looks K x j ≡ looks K y j
looks_local (source xs) x y h j = refl
looks_local sink x y h j = refl
looks_local (operator o) x y h j = refl
looks_local (constant o c) x y h j = refl
looks_local (fork m) x y h j = refl
looks_local (mux m) x y h j = refl
looks_local (demux m) x y h j = ap (λ (s : Sig). named (reach m s.word) (eqb j)) (h 0 (omega arith))
looks_local (merge m cs) x y h j = refl
looks_local (buffer o) x y h j = refl
looks_local control x y h j = refl
looks_local unused x y h j = refl

pub handed_local : (K : Kind) (r : Reg) (x x' : ℕ → Sig) (v v' y y' : ℕ → Bool) → ((i : ℕ) → i < n_in K → x i ≡ x' i) → ((j : ℕ) → j < n_out K → v j ≡ v' j) → ((j : ℕ) → j < n_out K → y j ≡ y' j)
    → handed K r x v y ≡ handed K r x' v' y'
unfolding handed
handed_local K r x x' v v' y y' ins valids readies =
    let e : lowest (lacks K r x) (n_in K) ≡ lowest (lacks K r x') (n_in K) =
    lowest_same (n_in K) (lacks K r x) (lacks K r x') (λ i h. ap₂ ◌&&◌ (needs_local K r x x' ins i) (ap (λ (s : Sig). not s.valid) (ins i h))) in
    let d : lowest (holds_up K x v y) (n_out K) ≡ lowest (holds_up K x' v' y') (n_out K) =
    lowest_same (n_out K) (holds_up K x v y) (holds_up K x' v' y') (λ j h. ap₂ ◌&&◌ (looks_local K x x' ins j) (ap₂ (λ (a b : Bool). a && not b) (valids j h) (readies j h))) in
    ap₂ (λ (o p : Option ℕ). input_else o (output_else p to_nobody)) e d

-- a value, a stream and marks do not matter
pub handed_plain : (m value : ℕ) (xs : List ℕ) (r : Reg) (x : ℕ → Sig) (v y : ℕ → Bool) (k : ℕ) → handed (kind_of k m 0 []) r x v y ≡ handed (kind_of k m value xs) r x v y
unfolding handed
handed_plain m value xs r x v y =
    by_kind (λ k. handed (kind_of k m 0 []) r x v y ≡ handed (kind_of k m value xs) r x v y) refl refl refl refl refl refl refl refl refl refl refl (λ k. refl)
