-- Sources and sinks in a cycle: what a source's word is, that no two of them share a channel, and their equations.
-- Assumes nothing.
use mathlib.Core.Path.{◌≡◌, refl, sym, ap, subst, ◌∙◌}
use mathlib.Core.Bool.{Bool, true, false, cond, ◌||◌}
use mathlib.Core.List.{List}
use Prim.Native.Nat.{ℕ, ◌+◌, ◌-◌, ◌≤◌, ◌<◌}
use native.Mathlib.Numerals.{add-one}
use native.Mathlib.Omega.{arith}
use borrow.Author.Tests.{ltb-true, eq-eqb, ne_eqb}
use lib.Dec.{ltb}
use lib.ListN.{length, get_or, take}
use lib.Seq.{slice, length-slice, get_or-drop, get_or-take}
use Rattle.blocks.specs.Kinds.{kind_of}
use Rattle.blocks.specs.Ports.{inputs_of, outputs_of}
use Rattle.blocks.specs.Signals.{shown, full}
use Rattle.blocks.specs.Equations.{offers, source_out, out_of, ready_of}
use Rattle.blocks.specs.declared.Net.{Net}
use Rattle.blocks.specs.declared.Sig.{Sig}
use Rattle.blocks.specs.declared.Reg.{Reg}
use Rattle.blocks.proofs.Folds.{and_1}
use Rattle.cycles.specs.Streams.{end_before}
use Rattle.ports.specs.Places.{port_at}
use Rattle.passes.specs.Rows.{block_no, kind_no, m_no, ins_no, outs_no, in_no, Rowed}
use Rattle.passes.specs.Pass.{Holds}
use Rattle.blocks.specs.Folds.{bit}
use Rattle.rows.specs.Ends.{number_no, mask_at}
use Rattle.passes.specs.Passed.{ahead, back}

-- the word of a port that is not valid does not matter
pub shown_when : (v : Bool) (w x : ℕ) → (v ≡ true → w ≡ x) → shown v w ≡ shown v x
shown_when true w x h = ap (shown true) (h refl)
shown_when false w x h = refl

-- a source that offers is below its stream's length, and offers the word there
pub source-word : (stream : List ℕ) (start end : ℕ) (r : Reg) (offer v : Bool) (w : ℕ) → start ≤ end → end ≤ length stream → v ≡ offers (end - start) r offer
    → (r.word < end - start → w ≡ get_or stream (start + r.word) 0) → shown v w ≡ source_out (slice start end stream) r offer
source-word stream start end r offer v w se el ev ew =
    let len : length (slice start end stream) ≡ end - start = length-slice start end stream el in
    let off : offers (end - start) r offer ≡ offers (length (slice start end stream)) r offer = ap (λ (n : ℕ). offers n r offer) (sym len) in
    shown_when v w (get_or (slice start end stream) r.word 0) (λ t. there (below (sym ev ∙ t)))
    ∙ ap (λ (x : Bool). shown x (get_or (slice start end stream) r.word 0)) (ev ∙ off)
  where
    below : offers (end - start) r offer ≡ true → r.word < end - start
    below t = ltb-true r.word (end - start) (and_1 (ltb r.word (end - start)) (full r || offer) t)

    there : r.word < end - start → w ≡ get_or (slice start end stream) r.word 0
    there l = ew l ∙ sym (get_or-drop start (take end stream) r.word 0 ∙ get_or-take end stream (start + r.word) 0 (omega arith))

module _ (net : Net) (w : Rowed net) where
  -- the first port of a source is its output, of a sink its input
  source-port : (b : ℕ) → kind_no net b ≡ 0 → (ins_no net b ≡ 0) × (outs_no net b ≡ 1)
  source-port b e = (ap (λ (k : ℕ). inputs_of k (m_no net b)) e, ap (λ (k : ℕ). outputs_of k (m_no net b)) e)

  pub sources_apart : (a b : ℕ) → a < net.size → b < net.size → kind_no net a ≡ 0 → kind_no net b ≡ 0 → port_at (block_no net a) 0 ≡ port_at (block_no net b) 0 → a ≡ b
  sources_apart a b la lb ea eb e =
      let pa = source-port a ea in
      let pb = source-port b eb in
      let za : ins_no net a + 0 ≡ 0 = omega (arith, pa.0) in
      let zb : ins_no net b + 0 ≡ 0 = omega (arith, pb.0) in
      (w.outs_apart a b 0 0 la lb (omega (arith, pa.1)) (omega (arith, pb.1)) (ap (port_at (block_no net a)) za ∙ e ∙ ap (port_at (block_no net b)) (sym zb))).0

  pub sinks_apart : (a b : ℕ) → a < net.size → b < net.size → kind_no net a ≡ 1 → kind_no net b ≡ 1 → port_at (block_no net a) 0 ≡ port_at (block_no net b) 0 → a ≡ b
  sinks_apart a b la lb ea eb e =
      let pa : ins_no net a ≡ 1 = ap (λ (k : ℕ). inputs_of k (m_no net a)) ea in
      let pb : ins_no net b ≡ 1 = ap (λ (k : ℕ). inputs_of k (m_no net b)) eb in
      (w.ins_apart a b 0 0 la lb (omega arith) (omega arith) e).0

module _ (net : Net) (xs : ℕ → List ℕ) (mask : ℕ → Bool) (r : ℕ → Reg) (b : ℕ) where
  -- a source that shows what it offers has its equation
  pub source-holds : kind_no net b ≡ 0 → (f : ℕ → Sig) → f (port_at (block_no net b) 0) ≡ source_out (xs b) (r b) (mask b) → Holds (ahead net xs mask r b) f
  source-holds e f h = subst At (sym e) at_zero
    where
      At : ℕ → Type 0
      At k = (o : ℕ) → o < outputs_of k (m_no net b) → f (port_at (block_no net b) (inputs_of k (m_no net b) + o)) ≡ out_of (kind_of k (m_no net b) (block_no net b).value (xs b)) (mask b) (r b) (λ i. f (in_no net b i)) o

      at_zero : (o : ℕ) → o < 1 → f (port_at (block_no net b) (0 + o)) ≡ source_out (xs b) (r b) (mask b)
      at_zero o l = let z : 0 + o ≡ 0 = omega arith in ap (λ (x : ℕ). f (port_at (block_no net b) x)) z ∙ h

  -- a sink whose channel is ready as its bit says has its equation, and a source has none backward
  pub sink-holds : kind_no net b ≡ 1 → (X : ℕ → Sig) (g : ℕ → Bool) → g (port_at (block_no net b) 0) ≡ mask b → Holds (back net xs mask r X b) g
  sink-holds e X g h = subst At (sym e) at_one
    where
      At : ℕ → Type 0
      At k =
          (o : ℕ) → o < inputs_of k (m_no net b)
          → g (port_at (block_no net b) o)
          ≡ ready_of (kind_of k (m_no net b) (block_no net b).value (xs b)) (mask b) (r b) (λ i. X (port_at (block_no net b) i)) (λ j. (X (port_at (block_no net b) (inputs_of k (m_no net b) + j))).valid)
          (λ j. g (port_at (block_no net b) (inputs_of k (m_no net b) + j))) o

      at_one : (o : ℕ) → o < 1 → g (port_at (block_no net b) o) ≡ mask b
      at_one o l = let z : o ≡ 0 = omega arith in ap (λ (x : ℕ). g (port_at (block_no net b) x)) z ∙ h

  pub source_free : kind_no net b ≡ 0 → (X : ℕ → Sig) (g : ℕ → Bool) → Holds (back net xs mask r X b) g
  source_free e X g o l = let z : ins_no net b ≡ 0 = ap (λ (k : ℕ). inputs_of k (m_no net b)) e in absurd (never z)
    where
      never : ins_no net b ≡ 0 → ⊥
      never z = omega arith

-- the mask bit of a source and of a sink, by its number
pub source-bit : (net : Net) (offer ready b k : ℕ) → kind_no net b ≡ 0 → number_no net 0 b ≡ k → mask_at net offer ready b ≡ bit k offer
source-bit net offer ready b k e h =
    ap (λ (t : Bool). cond t (bit (number_no net 0 b) offer) (bit (number_no net 1 b) ready)) (eq-eqb (kind_no net b) 0 e) ∙ ap (λ (x : ℕ). bit x offer) h

pub sink-bit : (net : Net) (offer ready b k : ℕ) → kind_no net b ≡ 1 → number_no net 1 b ≡ k → mask_at net offer ready b ≡ bit k ready
sink-bit net offer ready b k e h =
    ap (λ (t : Bool). cond t (bit (number_no net 0 b) offer) (bit (number_no net 1 b) ready)) (ne_eqb (kind_no net b) 0 (λ z. omega arith)) ∙ ap (λ (x : ℕ). bit x ready) h

-- the end before the next source is the source's own
pub end_next : (ends : List ℕ) (k : ℕ) → get_or ends k 0 ≡ end_before ends (k + 1)
end_next ends k = rw (add-one k)
