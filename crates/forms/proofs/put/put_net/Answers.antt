-- `forms::put::put_net` meets its contract: header, blocks and padding, written one behind the other, are the form's bits, and so its bytes.
-- Assumes nothing.
use Prim.Native.Nat.{ℕ, ◌+◌, ◌-◌, ◌*◌, ◌/◌, ◌≤◌}
use native.Mathlib.Omega.{arith}
use mathlib.Core.Path.{◌∙◌, ap}
use mathlib.Core.List.{List}
use mathlib.Core.Bool.{Bool}
use lib.ListN.{length}
use Rattle.reader.specs.Bits.{bits, bits_of}
use Rattle.stored.specs.Form.{encode, form_of}
use Rattle.forms.specs.Over.{over}
use Rattle.std.proofs.Common.{Ok}
use Rattle.forms.proofs.Writes.{up_to, encode-bits}
use Rattle.forms.proofs.Packs.{form_most, too_short, fits, written, length-pack, all_by_index, header}
use Rattle.forms.proofs.put.put_net.Goals as goal

pub overflow_add-bytes : goal.overflow_add-bytes
overflow_add-bytes c = omega (arith, c.form_bits-bits.ensures, form_most c.args.net c.requires)

pub returns-then-buf-bytes : goal.returns-then-buf-bytes
returns-then-buf-bytes c =
    let all = too_short c.args.net c.args.buf.now (omega (arith, c.form_bits-bits.ensures)) in
    record { answer = all.0; buffer = all.1 }

pub put_header-requires : goal.put_header-requires
put_header-requires c = omega (arith, c.form_bits-bits.ensures, encode-bits c.args.net)

pub overflow_mul-bytes : goal.overflow_mul-bytes
overflow_mul-bytes c = omega (arith, c.form_bits-bits.ensures, form_most c.args.net c.requires)

pub put_field-requires : goal.put_field-requires
put_field-requires c =
    let e = c.form_bits-bits.ensures in (
      omega (arith, e, c.if-buf-bytes.false, c.put_header.auto.buf, c.put_blocks.auto.buf),
      omega (arith, e, form_most c.args.net c.requires),
      omega (arith, e),
    )

pub returns : goal.returns
returns c =
    let n = c.args.net in
    let f = c.args.buf.now in
    let w = c.put_field in
    let r = c.form_bits-bits.result in
    let e = c.form_bits-bits.ensures in
    let z = 8 * ((r + 7) / 8) - r in
    let x = up_to n.blocks n.size in
    let room : (length (encode n) + 7) / 8 ≤ length f = omega (arith, e, c.if-buf-bytes.false) in
    let fit : length (form_of n) ≤ length f = rw length-pack room in
    let two = c.put_blocks.ensures ∙ ap (λ (l : List Bool). over l 32 x) c.put_header.ensures in
    let g = written n f w.new.buf (all_by_index f (λ i. (c.slice_known-1.given i).fits)) (all_by_index w.new.buf (λ i. (c.slice_known-4-1.given i).fits))
    fit z (ap (λ (k : ℕ). 8 * ((k + 7) / 8) - k) e)
    (w.ensures ∙ ap (λ (l : List Bool). over l r (bits z 0)) two ∙ ap (λ (k : ℕ). over (over (over (bits_of f) 0 (header n)) 32 x) k (bits z 0)) e) in
    let d = fits n f w.new.buf room g in
    record {
      answer = ap (λ (k : ℕ). Ok ((k + 7) / 8)) e ∙ d.0;
      buffer = d.1;
    }
