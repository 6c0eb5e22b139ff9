-- Laws of the bytes of records: how many there are, that they stand one record after another, and what writing one record more into their part does.
-- Assumes nothing.
use Prim.Native.Nat.{ℕ, ◌+◌, ◌-◌, ◌*◌, ◌<◌, ◌≤◌}
use native.Mathlib.Omega.{arith}
use mathlib.Core.Path.{◌≡◌, refl, sym, ◌∙◌, ap, ap₂}
use mathlib.Core.List.{List, [], ◌∷◌, ◌++◌, append_assoc, append-nil}
use native.Mathlib.Numerals.{add-one}
use lib.ListN.{length, get_or, take, drop, length-append, length-drop, drop_of_length-le}
use lib.Seq.{take_all, length-take-le, take-suc, take_at, drop_at, drop-drop}
use borrow.Rule.Slice.PartMut.{mid_of, put_mid}
use Rattle.std.specs.Int.{w64, to_be_bytes}
use Rattle.trace.specs.Records.{bytes_of, trace_of}

pub length_bytes : (r : ℕ) → length (bytes_of r) ≡ 8
unfolding bytes_of
length_bytes r = refl

pub length-trace : (rs : List ℕ) → length (trace_of rs) ≡ 8 * length rs
unfolding trace_of
length-trace [] = refl
length-trace (r ∷ rs) = omega (arith, length-append (bytes_of r) (trace_of rs), length_bytes r, length-trace rs)

trace_one : (r : ℕ) → trace_of (r ∷ []) ≡ bytes_of r
unfolding trace_of
trace_one r = append-nil (bytes_of r)

pub trace-append : (a b : List ℕ) → trace_of (a ++ b) ≡ trace_of a ++ trace_of b
unfolding trace_of
trace-append [] b = refl
trace-append (r ∷ a) b = ap (λ (l : List ℕ). bytes_of r ++ l) (trace-append a b) ∙ sym (append_assoc (bytes_of r) (trace_of a) (trace_of b))

-- the bytes that std makes of a record, most significant first
pub eight_first : (r : ℕ) → to_be_bytes w64 r ≡ bytes_of r
unfolding bytes_of
eight_first r = refl

-- the tail of a list, as it is lent from element a on
pub tail_lent : (a : ℕ) (l : List ℕ) → mid_of a (length l - a) l ≡ drop a l
tail_lent a l = take_all (length l - a) (drop a l) (rw length-drop (omega arith))

-- the list with the tail that came back
tail_back : (a : ℕ) (l t : List ℕ) → put_mid a (length l - a) l t ≡ take a l ++ t
tail_back a l t =
    ap (λ (z : List ℕ). take a l ++ (t ++ z)) (drop_of_length-le (drop a l) {i = length l - a} (rw length-drop (omega arith))) ∙ ap (λ (z : List ℕ). take a l ++ z) (append-nil t)

-- a tail at whose beginning n elements were written over: what stands before it and what follows are as they were
pub tail_written : (a n : ℕ) (l b t : List ℕ) → t ≡ b ++ drop n (mid_of a (length l - a) l) → put_mid a (length l - a) l t ≡ take a l ++ (b ++ drop (a + n) l)
tail_written a n l b t e =
    let rest : drop n (mid_of a (length l - a) l) ≡ drop (a + n) l = ap (drop n) (tail_lent a l) ∙ drop-drop n a l in
    tail_back a l t ∙ ap (λ (z : List ℕ). take a l ++ z) (e ∙ ap (λ (z : List ℕ). b ++ z) rest)

-- the first j records of a list are written over the beginning of a part d of the trace
abbrev pub written : List ℕ → List ℕ → ℕ → List ℕ
written list d j = trace_of (take j list) ++ drop (8 * j) d

pub written_none : (list d : List ℕ) → d ≡ written list d 0
unfolding trace_of
written_none list d = refl

module _ (list d : List ℕ) (j : ℕ) (s : j < length list) (h : 8 * j + 8 ≤ length d) (l : List ℕ) (w : l ≡ written list d j) where
  trace-taken : length (trace_of (take j list)) ≡ 8 * j
  trace-taken = length-trace (take j list) ∙ ap (λ (n : ℕ). 8 * n) (length-take-le j list (omega arith))

  trace_more : trace_of (take (j + 1) list) ≡ trace_of (take j list) ++ bytes_of (get_or list j 0)
  trace_more =
      rw add-one
      (ap trace_of (take-suc list j 0 s) ∙ trace-append (take j list) (get_or list j 0 ∷ []) ∙ ap (λ (z : List ℕ). trace_of (take j list) ++ z) (trace_one (get_or list j 0)))

  -- one record more, written at the beginning of the tail after the last one
  pub written_more : (t : List ℕ) → t ≡ bytes_of (get_or list j 0) ++ drop 8 (mid_of (8 * j) (length l - 8 * j) l) → put_mid (8 * j) (length l - 8 * j) l t ≡ written list d (j + 1)
  written_more t e =
      let T = trace_of (take j list) in
      let r = get_or list j 0 in
      let front : take (8 * j) l ≡ T = ap (take (8 * j)) w ∙ take_at T (drop (8 * j) d) (8 * j) trace-taken in
      let tail : drop (8 * j) l ≡ drop (8 * j) d = ap (drop (8 * j)) w ∙ drop_at T (drop (8 * j) d) (8 * j) trace-taken in
      let next : 8 * j + 8 ≡ 8 * (j + 1) = omega arith in
      let rest : drop (8 * j + 8) l ≡ drop (8 * (j + 1)) d = sym (drop-drop 8 (8 * j) l) ∙ ap (drop 8) tail ∙ drop-drop 8 (8 * j) d ∙ ap (λ (n : ℕ). drop n d) next in
      tail_written (8 * j) 8 l (bytes_of r) t e ∙ ap₂ (λ (y z : List ℕ). y ++ (bytes_of r ++ z)) front rest
      ∙ sym (append_assoc T (bytes_of r) (drop (8 * (j + 1)) d)) ∙ ap (λ (z : List ℕ). z ++ drop (8 * (j + 1)) d) (sym trace_more)
