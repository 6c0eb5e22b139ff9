-- What the code reads at a bit position is what a taker takes from the bits from there on: what each answer says, and what a caller learns of it.
-- Assumes nothing.
use Rattle.std.proofs.Common.{◌≡◌, ℕ, ◌+◌, ◌-◌, ◌*◌, ◌^◌, ◌<◌, ◌≤◌, Bool, true, false, cond, List, Some, None, length, take, drop, leb, ltb, refl, ap, ap₂, sym, ◌∙◌, arith, le-leb, leb-true, length-drop}
use mathlib.Core.Path.{fun_ext}
use mathlib.Core.Logic.{⊎_elim}
use mathlib.Core.Bool.{and-false}
use lib.Seq.{drop-drop}
use borrow.Author.Tests.{lt-leb, leb-false, lt-ltb, le-ltb}
use Rattle.reader.specs.Bits.{number, bits_of, field_at}
use Rattle.reader.specs.Steps.{step_at}
use Rattle.reader.specs.declared.Field.{Field}
use Rattle.reader.proofs.Bits.{lt_or_le, length_bits_of}
use Rattle.reader.proofs.Steps.{step_got, step_end}
use Rattle.blocks.specs.Ports.{m_ok, has_value}
use Rattle.blocks.specs.declared.Block.{Block}
use Rattle.stored.specs.Form.{Taken, got, refused, and_then, check, take_field, take_tested, between, take_port, take_many, padded, port_count, block, take_rest, take_value, take_valued, take_block}
use Rattle.stored.specs.Reads.{Took, padded_ports}
use Rattle.stored.proofs.Codecs.{then_there, then_refused, check_there, between_true, field_back}

module _ (f : List ℕ) (at w : ℕ) where
  pub length_from : length (drop at (bits_of f)) ≡ 8 * length f - at
  length_from = length-drop at (bits_of f) ∙ ap (λ (n : ℕ). n - at) (length_bits_of f)

  -- a field that the form has
  pub field_value : (v : ℕ) → field_at f at w ≡ Some v → Took f (take_field w (drop at (bits_of f))) v (at + w)
  unfolding field_at take_field
  field_value v h = by (leb (at + w) (8 * length f)) refl h
    where
      by : (t : Bool) → leb (at + w) (8 * length f) ≡ t → cond t (Some (number (take w (drop at (bits_of f))))) None ≡ Some v
          → Took f (take_field w (drop at (bits_of f))) v (at + w)
      by true e h =
          let has : at + w ≤ 8 * length f = leb-true _ _ e in
          let long : w ≤ length (drop at (bits_of f)) = rw length_from (omega arith) in
          let n : number (take w (drop at (bits_of f))) ≡ v = cc in
          record { taken = check_there 1 _ (le-leb w _ long) ∙ ap₂ got n (drop-drop w at (bits_of f)); inside = has }
      by false e h = let z : ◌≡◌ {A = ℕ} 0 1 = cc in absurd (omega arith)

  -- a field in which the form ends
  pub field_ended : 0 < w → field_at f at w ≡ None → take_field w (drop at (bits_of f)) ≡ refused 1
  unfolding field_at take_field check
  field_ended p h = by (leb (at + w) (8 * length f)) refl h
    where
      by : (t : Bool) → leb (at + w) (8 * length f) ≡ t → cond t (Some (number (take w (drop at (bits_of f))))) None ≡ None
          → take_field w (drop at (bits_of f)) ≡ refused 1
      by true e h = let z : ◌≡◌ {A = ℕ} 0 1 = cc in absurd (omega arith)
      by false e h =
          let less : 8 * length f < at + w = leb-false _ _ e in
          let short : length (drop at (bits_of f)) < w = rw length_from (omega arith) in
          rw (lt-leb w _ short)

  -- what the reader's answer says
  module _ (near : at ≤ 65536) (long : 0 < w) (narrow : w ≤ 32) where
    pub step_took : (p : Field) → step_at f at w ≡ Some p → Took f (take_field w (drop at (bits_of f))) p.value (at + w)
    step_took p h = field_value p.value (step_got f at w near long narrow p h).0

    pub step_small : (p : Field) → step_at f at w ≡ Some p → p.value < 2 ^ w
    step_small p h = (field_back w (drop at (bits_of f)) p.value _ (step_took p h).taken).1

    pub step_ended : step_at f at w ≡ None → take_field w (drop at (bits_of f)) ≡ refused 1
    step_ended h = field_ended long (step_end f at w near long narrow h)

-- whatever the place and the width
pub field_small : (f : List ℕ) (at w v : ℕ) → field_at f at w ≡ Some v → v < 2 ^ w
field_small f at w v h = (field_back w (drop at (bits_of f)) v _ (field_value f at w v h).taken).1

-- a field that has to meet a test
module _ (f : List ℕ) (w : ℕ) (ok : ℕ → Bool) (e : ℕ) (l : List Bool) where
  pub tested_good : (v end : ℕ) → Took f (take_field w l) v end → ok v ≡ true → Took f (take_tested w ok e l) v end
  unfolding take_tested
  tested_good v end t p = record { taken = then_there _ t.taken (check_there e _ p); inside = t.inside }

  pub tested_bad : (v end : ℕ) → Took f (take_field w l) v end → ok v ≡ false → take_tested w ok e l ≡ refused e
  unfolding take_tested check
  tested_bad v end t p = then_there _ t.taken (rw p refl)

  pub tested_ended : (d : ℕ) → take_field w l ≡ refused d → take_tested w ok e l ≡ refused d
  unfolding take_tested
  tested_ended d t = then_refused _ t

pub below_false : (low high v : ℕ) → v < low → between low high v ≡ false
unfolding between
below_false low high v h = rw (lt-leb low v h)

pub above_false : (low high v : ℕ) → high < v → between low high v ≡ false
unfolding between
above_false low high v h = rw (lt-leb v high h) (and-false (leb low v))

-- a port's test, as the code makes it
same_test : (c p : ℕ) → 1 ≤ c → ltb p c ≡ between 0 (c - 1) p
same_test c p h = ⊎_elim in_range out (lt_or_le p c)
  where
    in_range : p < c → ltb p c ≡ between 0 (c - 1) p
    in_range s = lt-ltb p c s ∙ sym (between_true 0 (c - 1) p (omega arith) (omega arith))

    out : c ≤ p → ltb p c ≡ between 0 (c - 1) p
    out s = le-ltb p c s ∙ sym (above_false 0 (c - 1) p (omega arith))

pub port-between : (c : ℕ) (l : List Bool) → 1 ≤ c → take_port c l ≡ take_tested 7 (between 0 (c - 1)) 6 l
port-between c l h = ap (λ (ok : ℕ → Bool). take_tested 7 ok 6 l) (fun_ext λ p. same_test c p h)

-- a block's value
module _ (f : List ℕ) (has : Bool) (l : List Bool) where
  pub value_took : (v end : ℕ) → has ≡ true → Took f (take_field 32 l) v end → Took f (take_value has l) v end
  unfolding take_value
  value_took v end t h = rw t h

  pub value_refused : (e : ℕ) → has ≡ true → take_field 32 l ≡ refused e → take_value has l ≡ refused e
  unfolding take_value
  value_refused e t h = rw t h

  pub value_none : (at : ℕ) → has ≡ false → l ≡ drop at (bits_of f) → at ≤ 8 * length f → Took f (take_value has l) 0 at
  unfolding take_value
  value_none at t e h = rw t (record { taken = ap (λ (s : List Bool). got 0 s) e; inside = h })

-- the ports that were read, and a block's
module _ (f : List ℕ) (t : Taken (List ℕ)) where
  pub ports_took : (xs : List ℕ) (end : ℕ) → t ≡ got xs (drop end (bits_of f)) → end ≤ 8 * length f → Took f (padded_ports t) (padded 0 10 xs) end
  unfolding padded_ports
  ports_took xs end e h = record { taken = then_there _ e refl; inside = h }

pub ports_refused : (t : Taken (List ℕ)) (e : ℕ) → t ≡ refused e → padded_ports t ≡ refused e
unfolding padded_ports
ports_refused t e h = then_refused _ h

abbrev with_ports : ℕ → ℕ → ℕ → List ℕ → List Bool → Taken Block
with_ports kind m value ps r = got (record { kind = kind; m = m; value = value; ports = ps }) r

-- two fields of 4 bits are a byte
pub eight : {A : Type 0} {f : List ℕ} {t : Taken A} {a : A} (at : ℕ) → Took f t a (at + 4 + 4) → Took f t a (at + 8)
eight at k = let e : at + 4 + 4 ≡ at + 8 = omega arith in rw e at k

rest_took : (t : Taken (List ℕ)) (kind m value : ℕ) (ps : List ℕ) (r : List Bool) → padded_ports t ≡ got ps r
    → and_then t (λ xs s. got (block kind m value xs) s) ≡ got (record { kind = kind; m = m; value = value; ports = ps }) r
unfolding padded_ports and_then
rest_took (got xs s) kind m value ps r h =
    let e : padded 0 10 xs ≡ ps = cc in
    let q : s ≡ r = cc in
    ap₂ (with_ports kind m value) e q
rest_took (refused e) kind m value ps r h = let z : ◌≡◌ {A = ℕ} 0 1 = cc in absurd (omega arith)

rest_refused : (t : Taken (List ℕ)) (k : List ℕ → List Bool → Taken Block) (e : ℕ) → padded_ports t ≡ refused e → and_then t k ≡ refused e
unfolding padded_ports and_then
rest_refused (got xs s) k e h = let z : ◌≡◌ {A = ℕ} 0 1 = cc in absurd (omega arith)
rest_refused (refused d) k e h = ap (λ (n : ℕ). refused n) cc

-- a block, part after part
module _ (f : List ℕ) (c : ℕ) (l : List Bool) where
  pub no_kind : (e : ℕ) → take_tested 4 (between 0 10) 4 l ≡ refused e → take_block c l ≡ refused e
  unfolding take_block
  no_kind e h = then_refused _ h

  module _ (kind at : ℕ) (k : Took f (take_tested 4 (between 0 10) 4 l) kind at) where
    pub no_m : (e : ℕ) → take_tested 4 (m_ok kind) 5 (drop at (bits_of f)) ≡ refused e → take_block c l ≡ refused e
    unfolding take_block
    no_m e h = then_there _ k.taken (then_refused _ h)

    module _ (m next : ℕ) (o : Took f (take_tested 4 (m_ok kind) 5 (drop at (bits_of f))) m next) where
      pub no_value : (e : ℕ) → take_value (has_value kind) (drop next (bits_of f)) ≡ refused e → take_block c l ≡ refused e
      unfolding take_block take_valued
      no_value e h = then_there _ k.taken (then_there _ o.taken (then_refused _ h))

      module _ (value from : ℕ) (v : Took f (take_value (has_value kind) (drop next (bits_of f))) value from) where
        pub no_ports : (n e : ℕ) → n ≡ port_count kind m → padded_ports (take_many (take_port c) n (drop from (bits_of f))) ≡ refused e → take_block c l ≡ refused e
        unfolding take_block take_valued take_rest
        no_ports n e p h = then_there _ k.taken (then_there _ o.taken (then_there _ v.taken (rest_refused _ _ e (rw p at h))))

        pub block_took : (n : ℕ) (ps : List ℕ) (end : ℕ) → n ≡ port_count kind m → Took f (padded_ports (take_many (take_port c) n (drop from (bits_of f)))) ps end
            → Took f (take_block c l) (record { kind = kind; m = m; value = value; ports = ps }) end
        unfolding take_block take_valued take_rest
        block_took n ps end p h =
            record {
              taken = then_there _ k.taken (then_there _ o.taken (then_there _ v.taken (rest_took _ kind m value ps _ (rw p at h.taken))));
              inside = h.inside;
            }
