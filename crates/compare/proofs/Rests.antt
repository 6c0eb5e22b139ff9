-- `compared_of` and `rest_by` by where the shared words end.
-- Assumes nothing.
use mathlib.Core.Path.{◌≡◌, refl, sym, ap, ◌∙◌}
use mathlib.Core.List.{List}
use Prim.Native.Nat.{ℕ, ◌+◌, ◌-◌, ◌*◌, ◌<◌, ◌≤◌}
use native.Mathlib.Omega.{arith}
use lib.Dec.{ltb}
use lib.ListN.{length, take, drop, length-drop, drop_of_length-le}
use lib.Seq.{drop-cons, take_all}
use denote.Ref.{Bor}
use borrow.Author.Tests.{ltb-true, ltb-false}
use Rattle.blocks.proofs.Options.{test}
use Rattle.compare.specs.declared.Compared.{Compared}
use Rattle.compare.specs.declared.Compared.TheVariants.{Equal, FirstBegins, SecondBegins, Differ}
use Rattle.compare.specs.Compare.{shared, compared_of, Rest, rest_by, IsRest}
use Rattle.compare.proofs.Shared.{within_first, within_second}

module _ (xs ys : List ℕ) (n : ℕ) (e : n ≡ shared xs ys) where
  pub differ : n < length xs → n < length ys → Differ n ≡ compared_of xs ys
  unfolding compared_of
  differ hx hy = rw (← e, drop-cons xs n 0 hx, drop-cons ys n 0 hy)

  pub second_begins : n < length xs → length ys ≤ n → SecondBegins ≡ compared_of xs ys
  unfolding compared_of
  second_begins hx hy = rw (← e, drop-cons xs n 0 hx, drop_of_length-le ys hy)

  pub first_begins : length xs ≤ n → n < length ys → FirstBegins ≡ compared_of xs ys
  unfolding compared_of
  first_begins hx hy = rw (← e, drop_of_length-le xs hx, drop-cons ys n 0 hy)

  pub equal : length xs ≤ n → length ys ≤ n → Equal ≡ compared_of xs ys
  unfolding compared_of
  equal hx hy = rw (← e, drop_of_length-le xs hx, drop_of_length-le ys hy)

-- ## The rest

-- the list s from place n on
abbrev pub part : Bor (List ℕ) → ℕ → Rest
part s n = record { list = s; from = n }

module _ (a b : Bor (List ℕ)) (n : ℕ) (e : n ≡ shared a.now b.now) where
  abbrev answer : Compared
  answer = compared_of a.now b.now

  -- which part the answer names, where the answer is v and its part begins at m
  by_answer : (s : Bor (List ℕ)) (v : Compared) (m : ℕ) → v ≡ answer → n ≡ m → rest_by v a b ≡ part s m → part s n ≡ rest_by answer a b
  by_answer s v m is place named = ap (part s) place ∙ sym named ∙ ap (λ (v : Compared). rest_by v a b) is

  pub first_left : n < length a.now → part a n ≡ rest_by answer a b
  first_left h =
      test (ltb n (length b.now)) (λ q. by_answer a (Differ n) n (differ a.now b.now n e h (ltb-true n (length b.now) q)) refl refl)
      (λ q. let l : length b.now ≤ n = ltb-false n (length b.now) q in
      by_answer a SecondBegins (length b.now) (second_begins a.now b.now n e h l) (omega (arith, within_second a.now b.now)) refl)

  pub second_left : length a.now ≤ n → n < length b.now → part b n ≡ rest_by answer a b
  second_left ha hb = by_answer b FirstBegins (length a.now) (first_begins a.now b.now n e ha hb) (omega (arith, within_first a.now b.now)) refl

  pub none_left : length a.now ≤ n → length b.now ≤ n → part a n ≡ rest_by answer a b
  none_left ha hb = by_answer a Equal (length a.now) (equal a.now b.now n e ha hb) (omega (arith, within_first a.now b.now)) refl

-- a part to the end is all from its start on
to_end : (n : ℕ) (xs : List ℕ) → take (length xs - n) (drop n xs) ≡ drop n xs
to_end n xs = take_all (length xs - n) (drop n xs) (omega (arith, length-drop n xs))

-- what the rule for a part tells of r, as `IsRest` says it
pub is_rest : (s : Bor (List ℕ)) (n : ℕ) (p : Rest) (r : Bor (List ℕ)) → part s n ≡ p → r.ref_ptr.0 ≡ s.ref_ptr.0 → r.ref_ptr.1 ≡ n * 4 + s.ref_ptr.1
    → r.now ≡ take (length s.now - n) (drop n s.now) → IsRest p r
is_rest s n p r named block offset words = rw (← named) (record { block = block; offset = omega arith; words = words ∙ to_end n s.now })
