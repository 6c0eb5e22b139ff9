-- In the sample run of a net with at most 32 sources every source gets 1, 2, 3.
-- Assumes nothing.
use mathlib.Core.Path.{◌≡◌, refl, ◌∙◌}
use mathlib.Core.Bool.{Bool, true, false, ◌&&◌}
use mathlib.Core.List.{List, [], ◌∷◌}
use Prim.Native.Nat.{ℕ, zero, suc, ◌+◌, ◌*◌, ◌<◌}
use native.Mathlib.Omega.{arith}
use borrow.Author.Tests.{eq-eqb, eqb-true}
use lib.Dec.{eqb}
use lib.ListN.{length, get_or}
use lib.Seq.{slice}
use Rattle.blocks.specs.Folds.{all_below}
use Rattle.blocks.proofs.Folds.{and_both, and_1, and_2, clash, all_at, count_step}
use Rattle.nets.specs.Net.{is_kind, kind_count, number_among}
use Rattle.nets.specs.Verdict.{Joined}
use Rattle.blocks.specs.declared.Net.{Net}
use Rattle.cycles.specs.State.{tab}
use Rattle.cycles.specs.Streams.{ascend, ends_fit, end_before, stream_of}
use Rattle.cycles.proofs.States.{get_d_tab}
use Rattle.sample.specs.Sample.{sample_words, ends_for}
use Rattle.sample.proofs.Giving.{few_sources, length-ends}

abbrev one_two_three_lem : List ℕ
one_two_three_lem = 1 ∷ 2 ∷ 3 ∷ []

-- tests that are computed for every number of sources and every source
rising : ℕ → Bool
rising n = ascend 0 (length sample_words) (ends_for n)

is_three : List ℕ → Bool
is_three [] = false
is_three (a ∷ []) = false
is_three (a ∷ b ∷ []) = false
is_three (a ∷ b ∷ c ∷ []) = eqb a 1 && (eqb b 2 && eqb c 3)
is_three (a ∷ b ∷ c ∷ d ∷ l) = false

three : (l : List ℕ) → is_three l ≡ true → l ≡ one_two_three_lem
unfolding is_three
three [] e = clash e refl
three (a ∷ []) e = clash e refl
three (a ∷ b ∷ []) e = clash e refl
three (a ∷ b ∷ c ∷ []) e =
    let x : a ≡ 1 = eqb-true a 1 (and_1 _ _ e) in
    let y : b ≡ 2 = eqb-true b 2 (and_1 _ _ (and_2 (eqb a 1) _ e)) in
    let z : c ≡ 3 = eqb-true c 3 (and_2 (eqb b 2) _ (and_2 (eqb a 1) _ e)) in
    rw (x, y, z)
three (a ∷ b ∷ c ∷ d ∷ l) e = clash e refl

part : ℕ → List ℕ
part k = slice (3 * k) (3 * k + 3) sample_words

parts_are : (k : ℕ) → k < 32 → part k ≡ one_two_three_lem
unfolding part is_three sample_words tab all_below
parts_are k h = three (part k) (all_at (λ j. is_three (part j)) 32 refl k h)

all_rise : (n : ℕ) → n < 33 → rising n ≡ true
unfolding rising sample_words ends_for tab all_below
all_rise n h = all_at rising 33 refl n h

end_before_lem : (n k : ℕ) → k < n → end_before (ends_for n) k ≡ 3 * k
unfolding ends_for
end_before_lem n zero h = refl
end_before_lem n (suc k) h = get_d_tab n (λ k. 3 * k + 3) 0 k (omega arith) ∙ omega arith

end_of : (n k : ℕ) → k < n → get_or (ends_for n) k 0 ≡ 3 * k + 3
unfolding ends_for
end_of n k h = get_d_tab n (λ k. 3 * k + 3) 0 k h

module _ (net : Net) where
  -- a source's number is below the number of sources
  number-low : (b : ℕ) → b < net.size → is_kind net 0 b ≡ true → number_among net 0 b < kind_count net 0
  unfolding kind_count
  number-low b h e = omega (arith, count_step (is_kind net 0) net.size b h e)

module _ (net : Net) (j : Joined net) where
  -- the ends are not refused
  pub ends_fit_lem : ends_fit net sample_words (ends_for (kind_count net 0)) ≡ true
  unfolding ends_fit ends_for rising
  ends_fit_lem =
      and_both _ _ (eq-eqb _ _ (length-ends (kind_count net 0))) (all_rise (kind_count net 0) (omega (arith, few_sources net j)))

  -- the words of every source
  pub each_source : (b : ℕ) → b < net.size → is_kind net 0 b ≡ true → stream_of net sample_words (ends_for (kind_count net 0)) b ≡ one_two_three_lem
  unfolding part
  each_source b h e =
      let k : ℕ = number_among net 0 b in
      let low : k < kind_count net 0 = number-low net b h e in
      rw (ends_fit_lem, end_before_lem (kind_count net 0) k low, end_of (kind_count net 0) k low) (parts_are k (omega (arith, few_sources net j)))
