-- The list has the numbers of the placements that load, each once, ascending; number after number, and the answer by its tests.
-- Assumes nothing.
use Prim.Native.Nat.{ℕ, zero, suc, ◌+◌, ◌^◌, ◌≤◌, ◌<◌}
use mathlib.Core.Path.{◌≡◌, refl, sym, ap, ◌∙◌, subst}
use mathlib.Core.Bool.{Bool, true, false}
use mathlib.Core.Logic.{◌≢◌, ⊎_elim}
use mathlib.Core.List.{
  List,
  [],
  ◌∷◌,
  ◌++◌,
  append-nil,
  Memᴰ,
}
use native.Mathlib.Nat.{mod-eq_of_lt}
use native.Mathlib.Numerals.{add-one}
use native.Mathlib.Omega.{arith}
use borrow.Author.Tests.{eqb-true, eqb-false, eq-eqb, leb-true, le-leb, lt-leb}
use lib.Dec.{eqb, leb}
use lib.ListN.{length, get_or, set, replicate, length-append, length-replicate, get_or-append}
use lib.Seq.{get_or-append-add}
use Rattle.blocks.specs.Folds.{all_below}
use Rattle.blocks.proofs.Folds.{and_2, all_at}
use Rattle.blocks.proofs.Options.{test}
use Rattle.blocks.specs.declared.Net.{Net}
use Rattle.nets.proofs.Decided.{verdict_of}
use Rattle.stored.specs.Form.{padded, Outcome, loaded, denied, parse}
use Rattle.stored.proofs.Many.{set-padded}
use Rattle.placements.specs.Calls.{form_number, code_ok, codes_ok, place_number, place_of}
use Rattle.placements.specs.Listing.{value_of, codes_of, kept, loads, listing, listed, unlisted, list_by, list_read}
use Rattle.placements.specs.Claims.{ListedExactly, ListedOnly, Ascends, ListedAscending, Small, ListSmall}
use Rattle.placements.proofs.Answering.{codes_long, by_codes}
use Rattle.placements.proofs.Padding.{length-padded}
use Rattle.placements.proofs.Digits.{value-back, Digits, no_digit, one_digit, value_low, codes_back, power_small}

module _ (f : ℕ → Bool) where
  kept_yes : (n : ℕ) → f n ≡ true → kept f (suc n) ≡ kept f n ++ n ∷ []
  unfolding kept
  kept_yes n e = rw e

  kept_no : (n : ℕ) → f n ≡ false → kept f (suc n) ≡ kept f n
  unfolding kept
  kept_no n e = rw e (append-nil (kept f n))

  pub kept_in : (n k : ℕ) → k < n → f k ≡ true → Memᴰ k (kept f n)
  kept_in zero k h e = absurd (omega arith)
  kept_in (suc n) k h e =
      test (eqb k n)
      (λ t. let z : k ≡ n = eqb-true k n t in rw (kept_yes n (subst (λ (x : ℕ). f x ≡ true) z e)) (mathlib.Core.List.Memᴰ.append_right (kept f n) (mathlib.Core.List.Memᴰ.head z)))
      (λ t.
      let ne : k ≢ n = eqb-false k n t in
      let m = kept_in n k (omega arith) e in
      test (f n) (λ q. rw (kept_yes n q) (mathlib.Core.List.Memᴰ.append_left (n ∷ []) m)) (λ q. rw (kept_no n q) m))

  kept_none : (k : ℕ) → Memᴰ k (kept f 0) → ⊥
  unfolding kept
  kept_none k m = mathlib.Core.List.Memᴰ.not-nil m

  pub kept_only : (n k : ℕ) → Memᴰ k (kept f n) → (k < n) × (f k ≡ true)
  kept_only zero k m = absurd (kept_none k m)
  kept_only (suc n) k m =
      test (f n)
      (λ q.
      ⊎_elim
      (λ (o : Memᴰ k (kept f n)). let r = kept_only n k o in (omega (arith, r.0), r.1))
      (λ (o : Memᴰ k (n ∷ [])). let z : k ≡ n = mathlib.Core.List.Memᴰ.eq_of_singleton o in (omega arith, subst (λ (x : ℕ). f x ≡ true) (sym z) q))
      (mathlib.Core.List.Memᴰ.append_cases (kept f n) (subst (Memᴰ k) (kept_yes n q) m)))
      (λ q. let r = kept_only n k (subst (Memᴰ k) (kept_no n q) m) in (omega (arith, r.0), r.1))

  -- by place: each number is below n, and the next is higher
  abbrev Rises : ℕ → List ℕ → Type 0
  Rises n xs = ((i : ℕ) → i < length xs → get_or xs i 0 < n) × Ascends xs

  rises_more : (n : ℕ) (xs : List ℕ) → Rises n xs → Rises (suc n) (xs ++ n ∷ [])
  rises_more n xs p = (low, up)
    where
      long : length (xs ++ n ∷ []) ≡ length xs + 1
      long = length-append xs (n ∷ [])

      last : (i : ℕ) → i ≡ length xs → get_or (xs ++ n ∷ []) i 0 ≡ n
      last i z = let e : i ≡ length xs + 0 = omega arith in ap (λ (k : ℕ). get_or (xs ++ n ∷ []) k 0) e ∙ get_or-append-add xs (n ∷ []) 0 0

      low : (i : ℕ) → i < length (xs ++ n ∷ []) → get_or (xs ++ n ∷ []) i 0 < suc n
      low i h =
          test (eqb i (length xs)) (λ t. omega (arith, last i (eqb-true i (length xs) t)))
          (λ t.
          let ne : i ≢ length xs = eqb-false i (length xs) t in
          let l : i < length xs = omega (arith, long) in
          omega (arith, p.0 i l, get_or-append xs (n ∷ []) 0 i l))

      up : (i : ℕ) → i + 1 < length (xs ++ n ∷ []) → get_or (xs ++ n ∷ []) i 0 < get_or (xs ++ n ∷ []) (i + 1) 0
      up i h =
          let here : i < length xs = omega (arith, long) in
          test (eqb (i + 1) (length xs)) (λ t. omega (arith, last (i + 1) (eqb-true (i + 1) (length xs) t), p.0 i here, get_or-append xs (n ∷ []) 0 i here))
          (λ t.
          let ne : i + 1 ≢ length xs = eqb-false (i + 1) (length xs) t in
          let l : i + 1 < length xs = omega (arith, long) in
          omega (arith, p.1 i l, get_or-append xs (n ∷ []) 0 i here, get_or-append xs (n ∷ []) 0 (i + 1) l))

  rises_none : Rises 0 (kept f 0)
  unfolding kept
  rises_none = ((λ i h. absurd (omega arith)), λ i h. absurd (omega arith))

  kept_rises : (n : ℕ) → Rises n (kept f n)
  kept_rises zero = rises_none
  kept_rises (suc n) =
      test (f n) (λ q. subst (Rises (suc n)) (sym (kept_yes n q)) (rises_more n (kept f n) (kept_rises n)))
      (λ q. let r = kept_rises n in subst (Rises (suc n)) (sym (kept_no n q)) ((λ i h. omega (arith, r.0 i h)), r.1))

-- ## How many

kept_few : (f : ℕ → Bool) (n : ℕ) → length (kept f n) ≤ n
unfolding kept
kept_few f zero = omega arith
kept_few f (suc n) =
    test (f n) (λ q. omega (arith, kept_few f n, ap length (kept_yes f n q), length-append (kept f n) (n ∷ []))) (λ q. omega (arith, kept_few f n, ap length (kept_no f n q)))

unlisted-small : (e : ℕ) → Small (unlisted e)
unlisted-small e = record { digits = omega arith; few = omega arith; room = length-replicate {A = ℕ} 4096 0 }

by_small : (base : ℕ) (net : Net) → Small (list_by base net)
unfolding list_by listing
by_small base net =
    test (eqb base 0)
    (λ e.
    test (leb net.channels 6)
    (λ n.
    let narrow : net.channels ≤ 6 = leb-true net.channels 6 n in
    let few : length (kept (loads net) (4 ^ net.channels)) ≤ 4096 = omega (arith, kept_few (loads net) (4 ^ net.channels), power_small net.channels narrow) in
    rw (e, n) (record { digits = narrow; few = few; room = length-padded 4096 (kept (loads net) (4 ^ net.channels)) few }))
    (λ n. rw (e, n) (unlisted-small 20)))
    (λ e. rw e (unlisted-small base))

pub list-small : ListSmall
list-small f = go (parse f)
  where
    go : (o : Outcome) → Small (list_read o)
    go (denied e) = unlisted-small e
    go (loaded net) = by_small (form_number (verdict_of net)) net

-- ## The listing

small-from : (ks : List ℕ) → ((i : ℕ) → i < length ks → get_or ks i 0 ≤ 3) → Digits ks
small-from [] h = no_digit
small-from (k ∷ ks) h = one_digit (h 0 (omega arith)) (small-from ks (λ i l. h (suc i) (omega arith)))

small : (channels : ℕ) (codes : List ℕ) → codes_ok channels codes ≡ true → Digits codes
unfolding codes_ok
small channels codes e =
    let each = and_2 (eqb (length codes) channels) (all_below (code_ok codes) (length codes)) e in
    small-from codes (λ i h. leb-true (get_or codes i 0) 3 (all_at (code_ok codes) (length codes) each i h))

pub listed-only : ListedOnly
unfolding listing
listed-only net k j m =
    let r = kept_only (loads net) (4 ^ net.channels) k m in
    let codes : List ℕ = codes_of net.channels k in
    (value-back net.channels k ∙ mod-eq_of_lt r.0, by_codes net j codes ∙ eqb-true (place_number net codes) 0 r.1)

pub listed_exactly : ListedExactly
unfolding listing
listed_exactly net codes j good =
    let s : Digits codes = small net.channels codes good in
    let each : length codes ≡ net.channels = codes_long net.channels codes good in
    let back : codes_of net.channels (value_of codes) ≡ codes = ap (λ (n : ℕ). codes_of n (value_of codes)) (sym each) ∙ codes_back s in
    let low : value_of codes < 4 ^ net.channels = subst (λ (n : ℕ). value_of codes < 4 ^ n) each (value_low s) in
    let same : place_number net (codes_of net.channels (value_of codes)) ≡ (place_of net codes).refusal = ap (place_number net) back ∙ sym (by_codes net j codes) in (
      λ e. kept_in (loads net) (4 ^ net.channels) (value_of codes) low (eq-eqb (place_number net (codes_of net.channels (value_of codes))) 0 (same ∙ e)),
      λ m. sym same ∙ eqb-true (place_number net (codes_of net.channels (value_of codes))) 0 (kept_only (loads net) (4 ^ net.channels) (value_of codes) m).1,
    )

pub listed_ascending : ListedAscending
unfolding listing
listed_ascending net = (kept_rises (loads net) (4 ^ net.channels)).1

-- ## Number after number

-- the numbers below k that pass stand at the front of 4,096, with zeros beyond
pub record Kept (f : ℕ → Bool) (k count : ℕ) (numbers : List ℕ) : Type 0 where
  pub count_is : count ≡ length (kept f k)
  pub few : count ≤ k
  pub numbers_are : numbers ≡ padded 0 4096 (kept f k)

module _ (f : ℕ → Bool) where
  pub keeps_none : Kept f 0 0 (replicate 4096 0)
  unfolding kept padded
  keeps_none = record { count_is = refl; few = omega arith; numbers_are = refl }

  module _ (k count : ℕ) (numbers : List ℕ) (is : Kept f k count numbers) where
    pub keeps-one : k < 4096 → f k ≡ true → Kept f (k + 1) (count + 1) (set numbers count k)
    keeps-one h e =
        let next : kept f (k + 1) ≡ kept f k ++ k ∷ [] = ap (kept f) (add-one k) ∙ kept_yes f k e in
        record {
          count_is = omega (arith, is.count_is, ap length next, length-append (kept f k) (k ∷ []));
          few = omega (arith, is.few);
          numbers_are =
              ap (λ (l : List ℕ). set l count k) is.numbers_are
              ∙ set-padded 0 4096 (kept f k) count k (sym is.count_is) (omega (arith, is.few))
              ∙ ap (padded 0 4096) (sym next);
        }

    pub keeps_same : f k ≡ false → Kept f (k + 1) count numbers
    keeps_same e =
        let next : kept f (k + 1) ≡ kept f k = ap (kept f) (add-one k) ∙ kept_no f k e in
        record { count_is = is.count_is ∙ ap length (sym next); few = omega (arith, is.few); numbers_are = is.numbers_are ∙ ap (padded 0 4096) (sym next) }

-- ## The answer

module _ (net : Net) where
  pub list_wide : 6 < net.channels → unlisted 20 ≡ list_by 0 net
  unfolding list_by
  list_wide h = rw (lt-leb net.channels 6 h)

  pub list-narrow : net.channels ≤ 6 → listed net.channels (listing net) ≡ list_by 0 net
  unfolding list_by
  list-narrow h = rw (le-leb net.channels 6 h)

  pub list_done : (count : ℕ) (numbers : List ℕ) → Kept (loads net) (4 ^ net.channels) count numbers
      → record { refusal = 0; channels = net.channels; count = count; numbers = numbers } ≡ listed net.channels (listing net)
  unfolding listing
  list_done count numbers is = λ i. record { refusal = 0; channels = net.channels; count = is.count_is i; numbers = is.numbers_are i }
