-- One block whose input from channel c takes from channel d instead, and a new buffer: their ports and their checks.
-- Assumes nothing.
use Prim.Native.Nat.{ℕ, ◌+◌, ◌≤◌, ◌<◌}
use mathlib.Core.Path.{◌≡◌, refl, sym, ap, ◌∙◌, subst}
use mathlib.Core.Bool.{Bool, true, false, cond, ◌&&◌}
use mathlib.Core.Logic.{◌≢◌, ◌⊎◌, inl, inr}
use native.Mathlib.Omega.{arith}
use borrow.Author.Tests.{eqb-true, eqb-false, eq-eqb, ne_eqb, ltb-true, ltb-false, lt-ltb, le-ltb}
use lib.Dec.{eqb, ltb}
use lib.ListN.{length, get_or, replicate, get_or-replicate}
use Rattle.blocks.specs.Folds.{one, all_below, count_below}
use Rattle.blocks.specs.Ports.{m_ok, ports_of}
use Rattle.blocks.proofs.Folds.{clash, and_1, and_2, and_both, all_at, all_in}
use Rattle.blocks.proofs.Options.{test}
use Rattle.nets.specs.Block.{ins, outs, on_side, port_ok, ports_ok, value_ok, block_ok}
use Rattle.nets.specs.Net.{block_zero}
use Rattle.blocks.specs.declared.Block.{Block}
use Rattle.nets.proofs.Blocks.{input_side, used_small}
use Rattle.cycles.specs.State.{tab}
use Rattle.cycles.proofs.States.{get_d_tab, tab_is}
use Rattle.placed.specs.Placed.{buffer_from, port_moved, input_moved}
use Rattle.std.specs.List.{list_any}
use Rattle.std.proofs.lemmas.List.Folds.{list_any_at}

-- ## A port that is moved from c to d

-- it is at another channel x as before, and at d where it was at c
pub moved_other : (p c d x : ℕ) → x < d → x ≢ c → eqb (cond (eqb p c) d p) x ≡ eqb p x
moved_other p c d x h ne =
    test (eqb p c) (λ e. let same : p ≡ c = eqb-true p c e in rw (e, ne_eqb d x (λ z. omega arith), ne_eqb p x (λ z. ne (sym z ∙ same)))) (λ e. rw e)

pub moved_here : (p c d : ℕ) → p < d → eqb (cond (eqb p c) d p) d ≡ eqb p c
moved_here p c d h = test (eqb p c) (λ e. rw (e, eq-eqb d d refl)) (λ e. rw (e, ne_eqb p d (λ z. omega arith)))

pub moved_away : (p c d : ℕ) → c < d → cond (eqb p c) d p ≢ c
moved_away p c d h = test (eqb p c) (λ e. rw e (λ z. omega arith)) (λ e. rw e (eqb-false p c e))

-- ## A block

module _ (c d : ℕ) (b : Block) where
  pub moved_ins : ins (input_moved c d b) ≡ ins b
  unfolding ins
  moved_ins = refl

  pub moved_side : (side : Bool) (j : ℕ) → on_side side (input_moved c d b) j ≡ on_side side b j
  unfolding on_side ins outs
  moved_side true j = refl
  moved_side false j = refl

  pub moved_port : (j : ℕ) → j < 10 → get_or (input_moved c d b).ports j 0 ≡ port_moved c d b j
  moved_port j h = get_d_tab 10 (port_moved c d b) 0 j h

  -- no port is moved of a block that does not name the channel
  pub same_block : length b.ports ≡ 10 → list_any (λ p. eqb p c) b.ports ≡ false → b ≡ input_moved c d b
  same_block long free =
      let ports = tab_is 10 (port_moved c d b) b.ports long (λ j h. sym (same j (omega arith))) in
      λ i. record { kind = b.kind; m = b.m; value = b.value; ports = ports i }
    where
      same : (j : ℕ) → j < length b.ports → port_moved c d b j ≡ get_or b.ports j 0
      same j h =
          let away : eqb (get_or b.ports j 0) c ≡ false =
          test (eqb (get_or b.ports j 0) c) (λ e. clash (list_any_at (λ p. eqb p c) b.ports j 0 h e) free) (λ e. e) in
          test (on_side false b j) (λ e. rw (e, away)) (λ e. rw e)

  -- an input port is moved, another is not
  pub at_input : (j : ℕ) → j < ins b → port_moved c d b j ≡ cond (eqb (get_or b.ports j 0) c) d (get_or b.ports j 0)
  at_input j h = rw (input_side b j h)

  pub no_input : (j : ℕ) → ins b ≤ j → port_moved c d b j ≡ get_or b.ports j 0
  unfolding on_side
  no_input j h = rw (le-ltb j (ins b) h)

-- where the new channel is one more, the block's fields stay in their ranges
module _ (c channels : ℕ) (b : Block) (ok : block_ok b channels ≡ true) where
  values : (value_ok b.kind b.value && ports_ok b.ports (ins b + outs b) channels) ≡ true
  unfolding block_ok
  values = and_2 (m_ok b.kind b.m) _ ok

  old_port : (j : ℕ) → j < 10 → port_ok (get_or b.ports j 0) (ltb j (ins b + outs b)) channels ≡ true
  unfolding ports_ok
  old_port j h =
      all_at (λ k. port_ok (get_or b.ports k 0) (ltb k (ins b + outs b)) channels) 10 (and_2 (value_ok b.kind b.value) _ values) j h

  used_low : (j : ℕ) → j < ins b + outs b → port_moved c channels b j < channels + 1
  used_low j h =
      test (on_side false b j && eqb (get_or b.ports j 0) c) (λ e. rw e (omega arith)) (λ e. rw e (omega (arith, used_small b channels ok j h)))

  new_port : (j : ℕ) → j < 10 → port_ok (port_moved c channels b j) (ltb j (ins b + outs b)) (channels + 1) ≡ true
  new_port j h =
      test (ltb j (ins b + outs b)) (λ e. rw e (lt-ltb _ _ (used_low j (ltb-true j (ins b + outs b) e))))
      (λ e.
      let late : ins b + outs b ≤ j = ltb-false j (ins b + outs b) e in
      rw (e, no_input c channels b j (omega arith)) (rw e at (old_port j h)))

  pub moved_ok : block_ok (input_moved c channels b) (channels + 1) ≡ true
  unfolding block_ok ports_ok ins outs
  moved_ok =
      and_both (m_ok b.kind b.m) _ (and_1 (m_ok b.kind b.m) _ ok)
      (and_both (value_ok b.kind b.value) _ (and_1 (value_ok b.kind b.value) _ values)
      (all_in (λ j. port_ok (get_or (input_moved c channels b).ports j 0) (ltb j (ins b + outs b)) (channels + 1)) 10 (λ j h. rw (moved_port c channels b j h) (new_port j h))))

-- an unused entry stays a zero block
module _ (c d : ℕ) (b : Block) (z : block_zero b ≡ true) where
  zero-kind : b.kind ≡ 0
  unfolding block_zero
  zero-kind = eqb-true b.kind 0 (and_1 (eqb b.kind 0) _ z)

  zero_m : b.m ≡ 0
  unfolding block_zero
  zero_m = eqb-true b.m 0 (and_1 (eqb b.m 0) _ (and_2 (eqb b.kind 0) _ z))

  zero-ports : ports_ok b.ports 0 0 ≡ true
  unfolding block_zero
  zero-ports = and_2 (eqb b.value 0) _ (and_2 (eqb b.m 0) _ (and_2 (eqb b.kind 0) _ z))

  zero-ins : ins b ≡ 0
  unfolding ins ports_of
  zero-ins = rw (zero-kind, zero_m)

  still_zero : (j : ℕ) → j < 10 → port_ok (port_moved c d b j) (ltb j 0) 0 ≡ true
  unfolding ports_ok
  still_zero j h =
      rw (no_input c d b j (omega (arith, zero-ins))) (all_at (λ k. port_ok (get_or b.ports k 0) (ltb k 0) 0) 10 zero-ports j h)

  zero-value : b.value ≡ 0
  unfolding block_zero
  zero-value = eqb-true b.value 0 (and_1 (eqb b.value 0) _ (and_2 (eqb b.m 0) _ (and_2 (eqb b.kind 0) _ z)))

  port-zero : (j : ℕ) → j < 10 → port_moved c d b j ≡ 0
  port-zero j h = eqb-true (port_moved c d b j) 0 (rw (le-ltb j 0 (omega arith)) at (still_zero j h))

  -- it is the zero block
  pub zero_moved : input_moved c d b ≡ buffer_from 0 0 0
  zero_moved =
      let ports : tab 10 (port_moved c d b) ≡ replicate 10 0 =
      sym (tab_is 10 (port_moved c d b) (replicate 10 0) refl (λ j h. get_or-replicate {A = ℕ} 10 j 0 0 h ∙ sym (port-zero j h))) in
      λ i. record { kind = zero-kind i; m = zero_m i; value = zero-value i; ports = ports i }

  pub moved_zero : block_zero (input_moved c d b) ≡ true
  unfolding block_zero ports_ok all_below
  moved_zero = ap block_zero zero_moved

-- ## A new buffer

-- a data buffer or a control buffer, empty at the start
abbrev pub Plain : ℕ → Type 0
Plain kind = (kind ≡ 8) ⊎ (kind ≡ 10)

pub by_plain : (P : ℕ → Type 0) → P 8 → P 10 → (kind : ℕ) → Plain kind → P kind
by_plain P e t kind (inl p) = subst P (sym p) e
by_plain P e t kind (inr p) = subst P (sym p) t

module _ (c d : ℕ) where
  pub buffer_ok : c < d → (kind : ℕ) → Plain kind → block_ok (buffer_from kind c d) (d + 1) ≡ true
  unfolding block_ok ports_ok ports_of ins outs all_below
  buffer_ok h =
      let l : ltb c (d + 1) ≡ true = lt-ltb c (d + 1) (omega arith) in
      let k : ltb d (d + 1) ≡ true = lt-ltb d (d + 1) (omega arith) in
      by_plain (λ kind. block_ok (buffer_from kind c d) (d + 1) ≡ true) (rw (l, k)) (rw (l, k))

  -- its one output is on channel d, its one input on channel c
  abbrev named : ℕ → Bool → ℕ → ℕ → Bool
  named kind side x i = on_side side (buffer_from kind c d) i && eqb (get_or (buffer_from kind c d).ports i 0) x

  pub buffer-out : (x kind : ℕ) → Plain kind → count_below (named kind true x) 10 ≡ one (eqb d x)
  unfolding count_below on_side ins outs ports_of
  buffer-out x = by_plain (λ kind. count_below (named kind true x) 10 ≡ one (eqb d x)) (test (eqb d x) (λ e. rw e) (λ e. rw e)) (test (eqb d x) (λ e. rw e) (λ e. rw e))

  pub buffer-inp : (x kind : ℕ) → Plain kind → count_below (named kind false x) 10 ≡ one (eqb c x)
  unfolding count_below on_side ins outs ports_of
  buffer-inp x = by_plain (λ kind. count_below (named kind false x) 10 ≡ one (eqb c x)) (test (eqb c x) (λ e. rw e) (λ e. rw e)) (test (eqb c x) (λ e. rw e) (λ e. rw e))

  pub buffer-ins : (kind : ℕ) → Plain kind → ins (buffer_from kind c d) ≡ 1
  unfolding ins ports_of
  buffer-ins = by_plain (λ kind. ins (buffer_from kind c d) ≡ 1) refl refl
