-- `forms::put::block_bits` meets its contract: 8 bits for kind and m, 32 for a value, and 7 for each port.
-- Assumes nothing.
use Rattle.std.proofs.Common.{◌≡◌, arith, rules, sym, ◌∙◌, length}
use Rattle.stored.proofs.Codecs.{port_count_le}
use Rattle.forms.proofs.Writes.{bits_valued, bits_plain, bits-block}
use Rattle.forms.proofs.put.block_bits.Goals as goal
use Rattle.forms.proofs.put.block_bits.Goals.{then-has_value, else-has_value}

pub overflow_mul-result : goal.overflow_mul-result
overflow_mul-result c = omega (arith, c.port_count.ensures, port_count_le c.args.b.kind c.args.b.m)

pub overflow_add-result-2 : goal.overflow_add-result-2
overflow_add-result-2 c =
    elim c.if-has_value.branch [
      | then-has_value w ↦ omega (arith, w.value-is, c.port_count.ensures, port_count_le c.args.b.kind c.args.b.m)
      | else-has_value w ↦ omega (arith, w.value-is, c.port_count.ensures, port_count_le c.args.b.kind c.args.b.m)
    ]

pub returns : goal.returns
returns c =
    let b = c.args.b in
    let ten : length b.ports ≡ 10 = search rules in
    elim c.if-has_value.branch [
      | then-has_value w ↦
          omega (arith, w.value-is, c.port_count.ensures, bits_valued b ten (sym c.has_value.ensures ∙ w.if-has_value.true), bits-block b)
      | else-has_value w ↦
          omega (arith, w.value-is, c.port_count.ensures, bits_plain b ten (sym c.has_value.ensures ∙ w.if-has_value.false), bits-block b)
    ]
