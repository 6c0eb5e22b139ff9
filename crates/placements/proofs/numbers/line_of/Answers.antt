-- `placements::numbers::line_of` meets its contract: digit after digit; the loop's invariant is that the line has the digits of the first i codes, and zeros beyond.
-- Assumes nothing.
use mathlib.Core.Path.{◌≡◌, refl, sym, ap, ◌∙◌}
use mathlib.Core.List.{List}
use Prim.Native.Nat.{ℕ, ◌+◌, ◌≤◌, ◌<◌}
use native.Mathlib.Numerals.{add-one}
use native.Mathlib.Omega.{arith}
use lib.ListN.{length, get_or, set, take}
use lib.Seq.{take_all}
use Rattle.stored.specs.Form.{padded}
use Rattle.stored.proofs.Many.{set-padded}
use Rattle.placements.specs.Listing.{codes_of, digits_of}
use Rattle.placements.proofs.Digits.{codes_length, digit-small}
use Rattle.placements.proofs.Padding.{padded_at}
use Rattle.placements.proofs.Lines.{digits_more, digits_long}
use Rattle.placements.proofs.numbers.line_of.Goals as goal

-- code i as the array has it
module _ (n k : ℕ) (few : n ≤ 6) (codes : List ℕ) (are : codes ≡ padded 0 6 (codes_of n k)) (i : ℕ) (h : i < n) where
  code_is : get_or codes i 0 ≡ get_or (codes_of n k) i 0
  code_is =
      ap (λ (l : List ℕ). get_or l i 0) are
      ∙ padded_at 6 (codes_of n k) (omega (arith, codes_length n k)) i (omega (arith, codes_length n k))

  code_small : get_or codes i 0 ≤ 3
  code_small = omega (arith, code_is, digit-small n k i h)

  one_digit : (line : List ℕ) → line ≡ padded 0 7 (digits_of (take i (codes_of n k))) → set line i (48 + get_or codes i 0) ≡ padded 0 7 (digits_of (take (i + 1) (codes_of n k)))
  one_digit line e =
      let long = codes_length n k in
      let digits : List ℕ = digits_of (take i (codes_of n k)) in
      ap (λ (l : List ℕ). set l i (48 + get_or codes i 0)) e
      ∙ ap (λ (d : ℕ). set (padded 0 7 digits) i (48 + d)) code_is
      ∙ set-padded 0 7 digits i (48 + get_or (codes_of n k) i 0) (digits_long (codes_of n k) i (omega (arith, long))) (omega arith)
      ∙ ap (padded 0 7) (sym (digits_more (codes_of n k) i (omega (arith, long))))
      ∙ ap (λ (j : ℕ). padded 0 7 (digits_of (take j (codes_of n k)))) (sym (add-one i))

pub loop-i-init : goal.loop-i-init
unfolding padded
loop-i-init c = refl

pub overflow_add-line : goal.overflow_add-line
overflow_add-line c =
    let a = c.args in
    omega (arith, code_small a.n a.k c.requires c.codes_of-codes.result c.codes_of-codes.ensures c.loop-i.i (omega arith))

pub loop-i-preserved : goal.loop-i-preserved
loop-i-preserved c =
    let a = c.args in
    let l = c.loop-i in
    one_digit a.n a.k c.requires c.codes_of-codes.result c.codes_of-codes.ensures l.i (omega arith) l.line l.invariant

pub returns : goal.returns
returns c =
    let a = c.args in
    let l = c.loop-i in
    let codes : List ℕ = codes_of a.n a.k in
    let long = codes_length a.n a.k in
    let whole : take l.i codes ≡ codes = take_all l.i codes (omega (arith, long)) in
    let digits : length (digits_of codes) ≡ a.n = ap (λ (x : List ℕ). length (digits_of x)) (sym whole) ∙ digits_long codes l.i (omega (arith, long)) ∙ omega arith in
    ap (λ (x : List ℕ). set x a.n 10) (l.invariant ∙ ap (λ (x : List ℕ). padded 0 7 (digits_of x)) whole)
    ∙ set-padded 0 7 (digits_of codes) a.n 10 digits (omega (arith, c.requires))
