-- The check of a net's fields and the codec agree: a net of the type's sizes that passes `fields_ok` is one whose form is read back (`fields_ok_lem`), and every
-- net that a form holds passes it (`ok_fields`).
-- Assumes nothing.
use Prim.Native.Nat.{ℕ, zero, suc, ◌+◌, ◌-◌, ◌^◌, ◌<◌, ◌≤◌}
use native.Mathlib.Omega.{arith}
use mathlib.Core.Path.{◌≡◌, refl, ap, sym, ◌∙◌}
use mathlib.Core.List.{List, [], ◌∷◌, ◌++◌}
use mathlib.Core.Bool.{Bool, true, false, ◌&&◌, ◌||◌}
use lib.ListN.{length, get_or, take, drop, replicate, length-append, length-take, length-replicate, take-append-drop}
use lib.Seq.{drop-append_seam}
use lib.Dec.{leb, ltb, eqb, leb-suc-suc}
use borrow.Author.Tests.{le-leb, lt-ltb, le-ltb, eq-eqb, leb-true, ltb-true, eqb-true}
use Rattle.blocks.specs.Folds.{all_below}
use Rattle.blocks.specs.Ports.{m_ok, has_value}
use Rattle.blocks.proofs.Folds.{all_at, all_in, and_both}
use Rattle.nets.specs.Block.{no_block, ins, outs, port_ok, ports_ok, value_ok, block_ok}
use Rattle.nets.specs.Net.{block_zero, entry_ok, entry_at, sizes_ok, fields_ok}
use Rattle.blocks.specs.declared.Block.{Block}
use Rattle.blocks.specs.declared.Net.{Net}
use Rattle.stored.specs.Form.{port_count, padded, zero_block, loaded, parse}
use Rattle.stored.specs.Sizes.{All, SizedBlock, Sized}
use Rattle.stored.proofs.Lists.{all_so, all_with, all_take, all_drop, all_same, same_all}
use Rattle.stored.proofs.Codecs.{OkValue, OkBlock, OkNet, both, port_count_le, loaded_ok}

-- ## A test that is told whether an element stands among the first n

module _ {A : Type 0} (ok : Bool → A → Bool) (d : A) where
  at_no : (i : ℕ) (a : A) → ok (ltb i 0) a ≡ ok false a
  at_no i a = ap (λ t. ok t a) (le-ltb i 0 (omega arith))

  at_next : (n i : ℕ) (a : A) → ok (ltb (suc i) (suc n)) a ≡ ok (ltb i n) a
  at_next n i a = ap (λ t. ok t a) (leb-suc-suc (suc i) n)

  at_first : (n : ℕ) (a : A) → ok (ltb 0 (suc n)) a ≡ ok true a
  at_first n a = ap (λ t. ok t a) (lt-ltb 0 (suc n) (omega arith))

  -- the first n pass it as such, and the others as others
  parted : (n : ℕ) (l : List A) → ((i : ℕ) → i < length l → ok (ltb i n) (get_or l i d) ≡ true)
      → All (λ a. ok true a ≡ true) (take n l) × All (λ a. ok false a ≡ true) (drop n l)
  parted zero [] h = (tt, tt)
  parted zero (a ∷ l) h =
      (tt, (sym (at_no 0 a) ∙ h 0 (omega arith), (parted zero l (λ i s. at_no i (get_or l i d) ∙ sym (at_no (suc i) (get_or l i d)) ∙ h (suc i) (omega arith))).1))
  parted (suc n) [] h = (tt, tt)
  parted (suc n) (a ∷ l) h =
      let r = parted n l (λ i s. sym (at_next n i (get_or l i d)) ∙ h (suc i) (omega arith)) in
      ((sym (at_first n a) ∙ h 0 (omega arith), r.0), r.1)

  -- and the other way
  joined : (n : ℕ) (l : List A) → All (λ a. ok true a ≡ true) (take n l) → All (λ a. ok false a ≡ true) (drop n l)
      → (i : ℕ) → i < length l → ok (ltb i n) (get_or l i d) ≡ true
  joined zero [] p q i h = absurd (omega arith)
  joined (suc n) [] p q i h = absurd (omega arith)
  joined zero (a ∷ l) p q zero h = at_no 0 a ∙ q.0
  joined zero (a ∷ l) p q (suc i) h = at_no (suc i) (get_or l i d) ∙ sym (at_no i (get_or l i d)) ∙ joined zero l tt q.1 i (omega arith)
  joined (suc n) (a ∷ l) p q zero h = at_first n a ∙ p.0
  joined (suc n) (a ∷ l) p q (suc i) h = at_next n i (get_or l i d) ∙ joined n l p.1 q i (omega arith)

-- ## Lists

-- a list of k elements that are z from n on is its first n, padded
padding : {A : Type 0} (z : A) (k n : ℕ) (l : List A) → length l ≡ k → All (λ a. a ≡ z) (drop n l) → l ≡ padded z k (take n l)
unfolding padded
padding z k n l h p =
    let s : length (take n l) + length (drop n l) ≡ length l = sym (length-append (take n l) (drop n l)) ∙ ap length (take-append-drop n l) in
    let e : length (drop n l) ≡ k - length (take n l) = omega arith in
    sym (take-append-drop n l) ∙ ap (λ r. take n l ++ r) (all_same z (drop n l) p ∙ ap (λ (j : ℕ). replicate j z) e)

padded-rest : {A : Type 0} (z : A) (k n : ℕ) (l : List A) → l ≡ padded z k (take n l) → All (λ a. a ≡ z) (drop n l)
unfolding padded
padded-rest z k n l h =
    let r = replicate (k - length (take n l)) z in
    let e : drop n l ≡ r =
    sym (drop-append_seam (take n l) (drop n l)) ∙ ap (drop (length (take n l))) (take-append-drop n l ∙ h) ∙ drop-append_seam (take n l) r in
    rw e (same_all z (k - length (take n l)))

padded-long : {A : Type 0} (z : A) (k n : ℕ) (l : List A) → n ≤ k → l ≡ padded z k (take n l) → length l ≡ k
unfolding padded
padded-long z k n l s h =
    let t = take n l in
    let few : length t ≤ n = simp length-take (omega arith) in
    let e : length l ≡ length t + (k - length t) = ap length h ∙ length-append t (replicate (k - length t) z) ∙ ap (λ (j : ℕ). length t + j) (length-replicate (k - length t) z) in
    omega arith

-- ## From the check to the codec

abbrev port_test : ℕ → Bool → ℕ → Bool
port_test c used p = port_ok p used c

ports_pass : (c n : ℕ) (ps : List ℕ) → length ps ≡ 10 → ports_ok ps n c ≡ true → All (λ p. p < c) (take n ps) × (ps ≡ padded 0 10 (take n ps))
unfolding ports_ok
ports_pass c n ps s h =
    let u = parted (port_test c) 0 n ps (λ i q. all_at (λ i. port_ok (get_or ps i 0) (ltb i n) c) 10 h i (omega arith)) in
    (all_so (take n ps) (λ p e. ltb-true p c e) u.0, padding 0 10 n ps s (all_so (drop n ps) (λ p e. eqb-true p 0 e) u.1))

value_pass : (t : Bool) (v : ℕ) → v < 2 ^ 32 → (t || eqb v 0) ≡ true → OkValue t v
value_pass true v s h = s
value_pass false v s h = eqb-true v 0 h

block_pass : (c : ℕ) (b : Block) → SizedBlock b → block_ok b c ≡ true → OkBlock c b
unfolding block_ok ins outs port_count
block_pass c b s h =
    let x = both (m_ok b.kind b.m) (value_ok b.kind b.value && ports_ok b.ports (ins b + outs b) c) h in
    let y = both (value_ok b.kind b.value) (ports_ok b.ports (ins b + outs b) c) x.1 in
    let p = ports_pass c (port_count b.kind b.m) b.ports s.ports y.1 in
    record { m = x.0; value = value_pass (has_value b.kind) b.value s.value y.0; ports = p.0; padding = p.1 }

made_zero : (k m v : ℕ) (ps : List ℕ) → k ≡ 0 → m ≡ 0 → v ≡ 0 → ps ≡ replicate 10 0 → ◌≡◌ {A = Block} (record { kind = k; m = m; value = v; ports = ps }) zero_block
made_zero k m v ps a b c d = rw (a, b, c, d)

zero_pass : (b : Block) → SizedBlock b → block_zero b ≡ true → b ≡ zero_block
unfolding block_zero padded
zero_pass b s h =
    let x = both (eqb b.kind 0) (eqb b.m 0 && (eqb b.value 0 && ports_ok b.ports 0 0)) h in
    let y = both (eqb b.m 0) (eqb b.value 0 && ports_ok b.ports 0 0) x.1 in
    let z = both (eqb b.value 0) (ports_ok b.ports 0 0) y.1 in
    made_zero b.kind b.m b.value b.ports (eqb-true _ _ x.0) (eqb-true _ _ y.0) (eqb-true _ _ z.0) (ports_pass 0 0 b.ports s.ports z.1).1

abbrev block_test : ℕ → Bool → Block → Bool
block_test c used b = entry_ok b used c

-- the counts of a net that passes
pub sizes_ok_lem : (n : Net) → fields_ok n ≡ true → (2 ≤ n.size) × (n.size ≤ 64) × (1 ≤ n.channels) × (n.channels ≤ 128)
unfolding fields_ok
sizes_ok_lem n h =
    let x = both (sizes_ok n.size n.channels) (all_below (entry_at n) 64) h in
    let y = both (leb 2 n.size) (leb n.size 64 && (leb 1 n.channels && leb n.channels 128)) x.0 in
    let z = both (leb n.size 64) (leb 1 n.channels && leb n.channels 128) y.1 in
    let w = both (leb 1 n.channels) (leb n.channels 128) z.1 in
    (leb-true _ _ y.0, leb-true _ _ z.0, leb-true _ _ w.0, leb-true _ _ w.1)

pub fields_ok_lem : (n : Net) → Sized n → fields_ok n ≡ true → OkNet n
unfolding fields_ok
fields_ok_lem n s h =
    let c = n.channels in
    let k = n.size in
    let l = n.blocks in
    let t = (both (sizes_ok k c) (all_below (entry_at n) 64) h).1 in
    let u = parted (block_test c) no_block k l (λ i q. all_at (entry_at n) 64 t i (omega (arith, s.blocks))) in
    let z = sizes_ok_lem n h in
    record {
      blocks_least = z.0;
      blocks_most = z.1;
      channels_least = z.2;
      channels_most = z.3;
      blocks = all_with (take k l) (λ b p q. block_pass c b p q) (all_take SizedBlock k l s.each) u.0;
      padding = padding zero_block 64 k l s.blocks (all_with (drop k l) (λ b p q. zero_pass b p q) (all_drop SizedBlock k l s.each) u.1);
    }

-- ## From the codec to the check

pass_ports : (c n : ℕ) (ps : List ℕ) → n ≤ 10 → All (λ p. p < c) (take n ps) → ps ≡ padded 0 10 (take n ps) → ports_ok ps n c ≡ true
unfolding ports_ok
pass_ports c n ps s p q =
    let long : length ps ≡ 10 = padded-long 0 10 n ps s q in
    all_in (λ i. port_ok (get_or ps i 0) (ltb i n) c) 10
    (λ i h. joined (port_test c) 0 n ps (all_so (take n ps) (λ a e. lt-ltb a c e) p) (all_so (drop n ps) (λ a e. eq-eqb a 0 e) (padded-rest 0 10 n ps q)) i (omega arith))

pass_value : (t : Bool) (v : ℕ) → OkValue t v → (t || eqb v 0) ≡ true
pass_value true v h = refl
pass_value false v h = eq-eqb v 0 h

pass_block : (c : ℕ) (b : Block) → OkBlock c b → block_ok b c ≡ true
unfolding block_ok ins outs port_count
pass_block c b o =
    and_both (m_ok b.kind b.m) (value_ok b.kind b.value && ports_ok b.ports (ins b + outs b) c) o.m
    (and_both (value_ok b.kind b.value) (ports_ok b.ports (ins b + outs b) c) (pass_value (has_value b.kind) b.value o.value)
    (pass_ports c (port_count b.kind b.m) b.ports (port_count_le b.kind b.m) o.ports o.padding))

zero_passes : block_zero zero_block ≡ true
unfolding block_zero ports_ok all_below
zero_passes = refl

pub ok_fields : (n : Net) → OkNet n → fields_ok n ≡ true
unfolding fields_ok
ok_fields n o =
    let c = n.channels in
    let k = n.size in
    let l = n.blocks in
    let long : length l ≡ 64 = padded-long zero_block 64 k l o.blocks_most o.padding in
    let sizes : sizes_ok k c ≡ true = rw (le-leb 2 k o.blocks_least, le-leb k 64 o.blocks_most, le-leb 1 c o.channels_least, le-leb c 128 o.channels_most) refl in
    and_both (sizes_ok k c) (all_below (entry_at n) 64) sizes
    (all_in (entry_at n) 64
    (λ i h. joined (block_test c) no_block k l (all_so (take k l) (λ b e. pass_block c b e) o.blocks)
    (all_so (drop k l) (λ b e. ap block_zero e ∙ zero_passes) (padded-rest zero_block 64 k l o.padding)) i (omega arith)))

-- a net that a form holds never earns 12
pub loaded-fields : (f : List ℕ) (n : Net) → parse f ≡ loaded n → fields_ok n ≡ true
loaded-fields f n h = ok_fields n (loaded_ok f n h)
