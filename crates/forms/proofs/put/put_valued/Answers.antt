-- `forms::put::put_valued` meets its contract: the value's bits exactly where the kind has one, and the ports' bits behind them.
-- Assumes nothing.
use Rattle.std.proofs.Common.{◌≡◌, ℕ, ◌+◌, ◌≤◌, Bool, List, [], length, take, arith, rules, sym, ap, ◌∙◌}
use lib.Seq.{length-take-le}
use Rattle.reader.specs.Bits.{bits_of}
use Rattle.reader.proofs.Bits.{length_bits_of}
use Rattle.blocks.specs.declared.Block.{Block}
use Rattle.stored.specs.Form.{port_count, put_field, put_many}
use Rattle.forms.specs.Over.{over}
use Rattle.stored.proofs.Codecs.{port_count_le}
use Rattle.forms.proofs.Writes.{bits_valued, bits_plain, over_plain, over_valued}
use Rattle.forms.proofs.put.put_valued.Goals as goal

-- a block has as many ports in its array as its kind and m say
all_ports : (b : Block) (n : ℕ) → length b.ports ≡ 10 → n ≡ port_count b.kind b.m → length (take n b.ports) ≡ port_count b.kind b.m
all_ports b n ten e = length-take-le n b.ports (omega (arith, e, port_count_le b.kind b.m)) ∙ e

pub shared_ref_as_front-ports : goal.shared_ref_as_front-ports
shared_ref_as_front-ports c = omega (arith, c.port_count.ensures, port_count_le c.args.b.kind c.args.b.m)

pub put_field-requires : goal.put_field-requires
put_field-requires c =
    let ten : length c.args.b.ports ≡ 10 = search rules in
    let n = bits_valued c.args.b ten (sym c.has_value.ensures ∙ c.if-has_value.true) in
    (omega (arith, n), search rules, search rules)

pub put_ports-requires : goal.put_ports-requires
put_ports-requires c =
    let b = c.args.b in
    let ten : length b.ports ≡ 10 = search rules in
    let n = bits_valued b ten (sym c.has_value.ensures ∙ c.if-has_value.true) in
    let p = all_ports b c.port_count.result ten c.port_count.ensures in
    (omega (arith, n, p, c.put_field.auto.buf), search rules, omega (arith, p, port_count_le b.kind b.m))

pub returns-then-has_value : goal.returns-then-has_value
returns-then-has_value c =
    let a = c.args in
    let b = c.args.b in
    let ten : length b.ports ≡ 10 = search rules in
    let t = sym c.has_value.ensures ∙ c.if-has_value.true in
    let room : a.at + 32 ≤ length (bits_of a.buf.now) = rw length_bits_of (omega (arith, bits_valued b ten t, c.requires)) in
    c.put_ports.ensures
    ∙ ap (λ (k : ℕ). over (bits_of c.put_field.new.buf) (a.at + 32) (put_many (put_field 7) (take k b.ports) [])) c.port_count.ensures
    ∙ ap (λ (x : List Bool). over x (a.at + 32) (put_many (put_field 7) (take (port_count b.kind b.m) b.ports) [])) c.put_field.ensures
    ∙ over_valued (bits_of a.buf.now) a.at b room t

pub put_ports-requires-else-has_value : goal.put_ports-requires-else-has_value
put_ports-requires-else-has_value c =
    let b = c.args.b in
    let ten : length b.ports ≡ 10 = search rules in
    let n = bits_plain b ten (sym c.has_value.ensures ∙ c.if-has_value.false) in
    let p = all_ports b c.port_count.result ten c.port_count.ensures in
    (omega (arith, n, p), search rules, omega (arith, p, port_count_le b.kind b.m))

pub returns-else-has_value : goal.returns-else-has_value
returns-else-has_value c =
    let a = c.args in
    let b = c.args.b in
    c.put_ports-else-has_value.ensures
    ∙ ap (λ (k : ℕ). over (bits_of a.buf.now) a.at (put_many (put_field 7) (take k b.ports) [])) c.port_count.ensures
    ∙ over_plain (bits_of a.buf.now) a.at b (sym c.has_value.ensures ∙ c.if-has_value.false)
