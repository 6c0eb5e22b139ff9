-- `placements::numbers::codes_of` meets its contract: digit after digit from the last; the loop's invariant is that the codes from j on are written, those beyond are 0, and rest is
-- what is above them.
-- Assumes nothing.
use mathlib.Core.Path.{◌≡◌, refl, ap, sym, ◌∙◌}
use mathlib.Core.List.{List}
use Prim.Native.Nat.{ℕ, ◌+◌, ◌-◌, ◌/◌, ◌%◌, ◌^◌, ◌≤◌, ◌<◌}
use native.Mathlib.Nat.{div-one}
use native.Mathlib.Omega.{arith}
use native.Mathlib.Decide.{ℕ_discrete}
use lib.ListN.{get_or, set, length-set, get_or-replicate}
use lib.Seq.{get_or-set_same, get_or-set_other}
use Rattle.placements.specs.Listing.{codes_of}
use Rattle.placements.proofs.Digits.{codes_length, digit_at, rest_more}
use Rattle.placements.proofs.Padding.{padded_is}
use Rattle.placements.proofs.numbers.codes_of.Invariants.{Written}
use Rattle.placements.proofs.numbers.codes_of.Goals as goal

module _ (n k j rest : ℕ) (few : n ≤ 6) (some : 0 < j) (hj : j ≤ n) (is : rest ≡ k / 4 ^ (n - j)) (codes : List ℕ) (w : Written n k j codes) where
  abbrev more : List ℕ
  more = set codes (j - 1) (rest % 4)

  digit : (i : ℕ) → j - 1 ≤ i → i < n → Dec (i ≡ j - 1) → get_or more i 0 ≡ (k / 4 ^ (n - 1 - i)) % 4
  digit i h q (yes z) =
      let back : n - j ≡ n - 1 - i = omega arith in
      ap (λ (x : ℕ). get_or more x 0) z
      ∙ get_or-set_same codes (j - 1) (rest % 4) 0 (omega (arith, w.long))
      ∙ ap (λ (x : ℕ). x % 4) (is ∙ ap (λ (x : ℕ). k / 4 ^ x) back)
  digit i h q (no z) = get_or-set_other codes (j - 1) i (rest % 4) 0 z ∙ w.last i (omega arith) q

  one_more : Written n k (j - 1) more
  one_more =
      record {
        long = length-set codes (j - 1) (rest % 4) ∙ w.long;
        last = λ i h q. digit i h q (ℕ_discrete i (j - 1));
        beyond = λ i h q. get_or-set_other codes (j - 1) i (rest % 4) 0 (λ z. omega arith) ∙ w.beyond i h q;
      }

  less : rest / 4 ≡ k / 4 ^ (n - (j - 1))
  less =
      let up : n - j + 1 ≡ n - (j - 1) = omega arith in
      ap (λ (x : ℕ). x / 4) is ∙ rest_more k (n - j) ∙ ap (λ (x : ℕ). k / 4 ^ x) up

pub loop-j-init : goal.loop-j-init
loop-j-init c =
    let none : c.args.n - c.args.n ≡ 0 = omega arith in
    (rw none (sym (div-one c.args.k)), record { long = refl; last = λ i h l. absurd (omega arith); beyond = λ i h q. get_or-replicate {A = ℕ} 6 i 0 0 q })

pub loop-j-preserved : goal.loop-j-preserved
loop-j-preserved c =
    let a = c.args in
    let l = c.loop-j in (
      less a.n a.k l.j l.rest c.requires c.loop-j-test.true l.auto.j l.invariant.0 l.codes l.invariant.1,
      one_more a.n a.k l.j l.rest c.requires c.loop-j-test.true l.auto.j l.invariant.0 l.codes l.invariant.1,
    )

pub returns : goal.returns
returns c =
    let a = c.args in
    let l = c.loop-j in
    let w = l.invariant.1 in
    let long = codes_length a.n a.k in
    padded_is 6 (codes_of a.n a.k) (omega (arith, long, c.requires)) l.codes w.long
    (λ i h. let q : i < a.n = omega (arith, long) in w.last i (omega arith) q ∙ sym (digit_at a.n a.k i q))
    (λ i h q. w.beyond i (omega (arith, long)) q)
