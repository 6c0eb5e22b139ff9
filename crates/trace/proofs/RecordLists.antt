-- Laws of a cycle's records: how many there are, what they depend on, and what one channel more does.
-- Assumes nothing.
use Prim.Native.Nat.{ℕ, zero, suc, ◌+◌, ◌<◌, ◌≤◌}
use native.Mathlib.Omega.{arith}
use mathlib.Core.Path.{◌≡◌, refl, sym, ◌∙◌, ap, ap₂}
use mathlib.Core.Bool.{Bool, true, false, cond}
use mathlib.Core.List.{List, [], ◌∷◌, ◌++◌, append-nil}
use lib.ListN.{length, take, set, length-append, length-set}
use lib.Seq.{take-suc-set, take-set-le}
use mir.Val.{bool_byte}
use native.Mathlib.Numerals.{add-one}
use Rattle.trace.specs.Records.{record_of, records_below, Listed}

-- a test as a number, as the code adds it
one_record : (t : Bool) (r : ℕ) → length (cond t (r ∷ []) []) ≡ bool_byte t
one_record true r = refl
one_record false r = refl

pub one_small : (t : Bool) → bool_byte t ≤ 1
one_small true = omega arith
one_small false = omega arith

one_same : (t u : Bool) (r s : ℕ) → t ≡ u → (t ≡ true → r ≡ s) → cond t (r ∷ []) [] ≡ cond u (s ∷ []) []
one_same true u r s e f = rw (← e) (ap (λ (x : ℕ). x ∷ []) (f refl))
one_same false u r s e f = rw (← e)

module _ (count : ℕ) (moves : ℕ → Bool) (word : ℕ → ℕ) where
  pub records_more : (c : ℕ) → records_below count moves word (c + 1) ≡ records_below count moves word c ++ cond (moves c) (record_of count c (word c) ∷ []) []
  unfolding records_below
  records_more c = rw add-one

  pub records-yes : (c : ℕ) → moves c ≡ true → records_below count moves word (c + 1) ≡ records_below count moves word c ++ (record_of count c (word c) ∷ [])
  records-yes c t = rw (records_more, t)

  pub records_no : (c : ℕ) → moves c ≡ false → records_below count moves word (c + 1) ≡ records_below count moves word c
  records_no c t = rw (records_more, t) (append-nil (records_below count moves word c))

  pub records-few : (n : ℕ) → length (records_below count moves word n) ≤ n
  unfolding records_below
  records-few zero = omega arith
  records-few (suc n) =
      omega (arith, length-append (records_below count moves word n) (cond (moves n) (record_of count n (word n) ∷ []) []), one_record (moves n) (record_of count n (word n)), one_small (moves n), records-few n)

  pub listed-none : (list : List ℕ) → length list ≡ 128 → Listed (records_below count moves word 0) 0 0 list
  unfolding records_below
  listed-none list e = record { number = refl; front = refl; few = omega arith; sized = e }

  -- one channel more: its record stands after the others, and counts where it delivers
  pub listed_more : (c k : ℕ) (list : List ℕ) (t : Bool) (r : ℕ) → t ≡ moves c → r ≡ record_of count c (word c) → c < 128
      → Listed (records_below count moves word c) c k list → Listed (records_below count moves word (c + 1)) (c + 1) (k + bool_byte t) (set list k r)
  listed_more c k list true r e f h l =
      let L = records_below count moves word c in
      let s : records_below count moves word (c + 1) ≡ L ++ (r ∷ []) = records-yes c (sym e) ∙ ap (λ (x : ℕ). L ++ (x ∷ [])) (sym f) in
      let w : take (k + 1) (set list k r) ≡ take k list ++ (r ∷ []) = rw add-one (take-suc-set list k r (omega arith)) in
      record {
        number = rw (s, length-append) (omega arith);
        front = w ∙ ap (λ (z : List ℕ). z ++ (r ∷ [])) l.front ∙ sym s;
        few = omega arith;
        sized = length-set list k r ∙ l.sized;
      }
  listed_more c k list false r e f h l =
      let s : records_below count moves word (c + 1) ≡ records_below count moves word c = records_no c (sym e) in
      let z : k + 0 ≡ k = omega arith in
      record {
        number = rw s (omega arith);
        front = rw z (take-set-le k list k r (omega arith) ∙ l.front ∙ sym s);
        few = omega arith;
        sized = length-set list k r ∙ l.sized;
      }

-- the records depend on which of the channels below n deliver and on the words that they deliver: the word of another channel does not matter
pub records_same : (count : ℕ) (f g : ℕ → Bool) (v w : ℕ → ℕ) (n : ℕ)
    → ((c : ℕ) → c < n → f c ≡ g c)
    → ((c : ℕ) → c < n → f c ≡ true → v c ≡ w c)
    → records_below count f v n ≡ records_below count g w n
unfolding records_below
records_same count f g v w zero p q = refl
records_same count f g v w (suc n) p q =
    ap₂ (λ (a b : List ℕ). a ++ b) (records_same count f g v w n (λ c h. p c (omega arith)) (λ c h. q c (omega arith)))
    (one_same (f n) (g n) (record_of count n (v n)) (record_of count n (w n)) (p n (omega arith)) (λ t. ap (record_of count n) (q n (omega arith) t)))
