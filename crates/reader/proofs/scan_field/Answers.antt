-- `reader::scan_field` meets its contract. The loop's invariant: the value is the number of the bits passed, which the form has.
-- Assumes nothing.
use Prim.Native.Nat.{ℕ, ◌+◌, ◌-◌, ◌*◌, ◌/◌, ◌%◌, ◌^◌, ◌<◌, ◌≤◌}
use native.Mathlib.Omega.{arith}
use mathlib.Core.Path.{◌≡◌, ap, ◌∙◌}
use lib.ListN.{length, get_or, take, drop}
use lib.Pow.{pow_mono}
use borrow.Author.Tests.{le-leb, lt-leb}
use Rattle.std.proofs.Common.{List, Some}
use Rattle.reader.specs.Bits.{number, bits_of, field_at}
use Rattle.reader.proofs.Bits.{number-take_lt, field_more, bit_at_le}
use Rattle.reader.proofs.scan_field.Goals as goal

-- the number of at most 31 bits
passed_lt : (k : ℕ) (f : List ℕ) (at : ℕ) → k ≤ 31 → number (take k (drop at (bits_of f))) < 2 ^ 31
passed_lt k f at small = omega (arith, number-take_lt k (drop at (bits_of f)), pow_mono small)

pub returns-then-form-byte : goal.returns-then-form-byte
unfolding field_at
returns-then-form-byte c =
    let a = c.args in
    let short : 8 * length a.form.now < a.at + a.width = omega arith in
    simp (lt-leb _ _ short)

pub overflow_mul-value : goal.overflow_mul-value
overflow_mul-value c =
    let a = c.args in
    omega (arith, passed_lt (c.loop-i.i - a.at) a.form.now a.at (omega arith))

pub overflow_add-value : goal.overflow_add-value
overflow_add-value c =
    let a = c.args in
    let i = c.loop-i.i in
    omega (arith, passed_lt (i - a.at) a.form.now a.at (omega arith), c.bit.ensures, bit_at_le (get_or a.form.now (i / 8) 0) (i % 8))

pub loop-i-preserved : goal.loop-i-preserved
loop-i-preserved c =
    let a = c.args in
    let l = c.loop-i in
    let k = l.i - a.at in
    let e : a.at + k ≡ l.i = omega arith in
    let n : l.i + 1 - a.at ≡ k + 1 = omega arith in
    let h : a.at + k < 8 * length a.form.now = omega arith in
    let more = field_more a.form.now a.at k h in
    (omega arith, rw n (omega (arith, c.bit.ensures, rw e at more)))

pub returns : goal.returns
unfolding field_at
returns c =
    let a = c.args in
    let l = c.loop-i in
    let all : l.i - a.at ≡ a.width = omega arith in
    let has : a.at + a.width ≤ 8 * length a.form.now = omega (arith, l.invariant.0 (omega arith)) in
    simp (le-leb _ _ has) (ap (λ (v : ℕ). Some (record { value = v; end = a.at + a.width })) (l.invariant.1 ∙ ap (λ (n : ℕ). number (take n (drop a.at (bits_of a.form.now)))) all))
