-- Lists of words: the word at an index, if there is one, and one list as the beginning of another (`IsPrefix xs ys` of the library is a list zs with
-- xs ++ zs ≡ ys).
-- Assumes nothing.
use Prim.Native.Nat.{ℕ, zero, suc, ◌≤◌, ◌<◌}
use mathlib.Core.Path.{◌≡◌, refl, sym, ap, ◌∙◌, subst}
use mathlib.Core.Bool.{cond}
use mathlib.Core.Logic.{◌⊎◌, inl, inr}
use mathlib.Core.List.{List, [], ◌∷◌, ◌++◌, append-nil, append_assoc, cons-ne-nil, IsPrefix, Memᴰ}
use mathlib.Core.Option.{some}
use native.Mathlib.Omega.{arith}
use borrow.Author.Tests.{ltb-true, ltb-false}
use lib.Dec.{ltb}
use lib.ListN.{length, get_elem?, get_or}
use Rattle.blocks.proofs.Options.{none-some, test, Below}

pub prefix_refl : (xs : List ℕ) → IsPrefix xs xs
prefix_refl xs = ([], append-nil xs)

pub prefix_more : (xs ys : List ℕ) → IsPrefix xs (xs ++ ys)
prefix_more xs ys = (ys, refl)

pub prefix_trans : (xs ys zs : List ℕ) → IsPrefix xs ys → IsPrefix ys zs → IsPrefix xs zs
prefix_trans xs ys zs p q = (p.0 ++ q.0, sym (append_assoc xs p.0 q.0) ∙ ap (λ (l : List ℕ). l ++ q.0) p.1 ∙ q.1)

pub prefix_under : (zs xs ys : List ℕ) → IsPrefix xs ys → IsPrefix (zs ++ xs) (zs ++ ys)
prefix_under zs xs ys p = (p.0, append_assoc zs xs p.0 ∙ ap (λ (l : List ℕ). zs ++ l) p.1)

pub prefix_nil : (xs : List ℕ) → IsPrefix xs [] → xs ≡ []
prefix_nil [] p = refl
prefix_nil (x ∷ xs) p = absurd (cons-ne-nil x (xs ++ p.0) p.1)

pub prefix_in : (xs ys : List ℕ) → IsPrefix xs ys → (t : ℕ) → Memᴰ t xs → Memᴰ t ys
prefix_in xs ys p t i = subst (λ (l : List ℕ). Memᴰ t l) p.1 (more xs i)
  where
    more : (l : List ℕ) → Memᴰ t l → Memᴰ t (l ++ p.0)
    more [] i = elim i [ ]
    more (x ∷ l) (Memᴰ.head e) = Memᴰ.head e
    more (x ∷ l) (Memᴰ.tail i) = Memᴰ.tail (more l i)

-- Of two beginnings of one list the shorter begins the longer.
pub prefix_shorter : (xs ys zs : List ℕ) → IsPrefix xs zs → IsPrefix ys zs → length xs ≤ length ys → IsPrefix xs ys
prefix_shorter [] ys zs p q h = (ys, refl)
prefix_shorter (x ∷ xs) [] zs p q h = absurd (omega arith)
prefix_shorter (x ∷ xs) (y ∷ ys) [] p q h = absurd (cons-ne-nil x (xs ++ p.0) p.1)
prefix_shorter (x ∷ xs) (y ∷ ys) (z ∷ zs) p q h =
    let r = prefix_shorter xs ys zs (p.0, cc p.1) (q.0, cc q.1) (omega arith) in
    (r.0, cc (p.1, q.1, r.1))

-- So of two beginnings of one list one begins the other.
pub prefix_compare : (xs ys zs : List ℕ) → IsPrefix xs zs → IsPrefix ys zs → IsPrefix xs ys ⊎ IsPrefix ys xs
prefix_compare xs ys zs p q =
    test (ltb (length ys) (length xs))
    (λ e. inr (prefix_shorter ys xs zs q p (omega (arith, ltb-true (length ys) (length xs) e))))
    (λ e. inl (prefix_shorter xs ys zs p q (ltb-false (length ys) (length xs) e)))

-- Where one of two lists begins the other, both begin the longer.
abbrev pub longer : List ℕ → List ℕ → List ℕ
longer xs ys = cond (ltb (length xs) (length ys)) ys xs

common : (xs ys : List ℕ) → IsPrefix xs ys ⊎ IsPrefix ys xs → (zs : List ℕ) × IsPrefix xs zs × IsPrefix ys zs
common xs ys (inl p) = (ys, p, prefix_refl ys)
common xs ys (inr p) = (xs, prefix_refl xs, p)

pub begins_longer : (xs ys : List ℕ) → IsPrefix xs ys ⊎ IsPrefix ys xs → IsPrefix xs (longer xs ys) × IsPrefix ys (longer xs ys)
begins_longer xs ys h =
    let z = common xs ys h in
    test (ltb (length xs) (length ys))
    (λ e. rw e (prefix_shorter xs ys z.0 z.1 z.2 (omega (arith, ltb-true (length xs) (length ys) e)), prefix_refl ys))
    (λ e. rw e (prefix_refl xs, prefix_shorter ys xs z.0 z.2 z.1 (ltb-false (length xs) (length ys) e)))

-- What a list holds at an index, every list that begins with it holds there.
look_append : (xs ys : List ℕ) (i : ℕ) → Below (get_elem? xs i) (get_elem? (xs ++ ys) i)
look_append [] ys i w e = none-some e
look_append (x ∷ xs) ys zero w e = e
look_append (x ∷ xs) ys (suc i) w e = look_append xs ys i w e

pub look_prefix : (xs ys : List ℕ) → IsPrefix xs ys → (i : ℕ) → Below (get_elem? xs i) (get_elem? ys i)
look_prefix xs ys p i w e = rw (← p.1) (look_append xs p.0 i w e)

-- The word after a list.
pub look_at : (xs : List ℕ) (w : ℕ) (ys : List ℕ) → get_elem? (xs ++ w ∷ ys) (length xs) ≡ some w
look_at [] w ys = refl
look_at (x ∷ xs) w ys = look_at xs w ys

-- A beginning grows by the word that stands after it.
append_grow : (xs rest : List ℕ) (w : ℕ) → get_elem? (xs ++ rest) (length xs) ≡ some w → IsPrefix (xs ++ (w ∷ [])) (xs ++ rest)
append_grow [] [] w e = none-some e
append_grow [] (y ∷ rest) w e = (rest, cc)
append_grow (x ∷ xs) rest w e = let p = append_grow xs rest w e in (p.0, ap {B = List ℕ} (λ l. x ∷ l) p.1)

pub prefix_grow : (xs ys : List ℕ) → IsPrefix xs ys → (w : ℕ) → get_elem? ys (length xs) ≡ some w → IsPrefix (xs ++ (w ∷ [])) ys
prefix_grow xs ys p w e = rw p.1 at (append_grow xs p.0 w (rw p.1 e))

-- An index below the length holds a word, and an index that holds a word is below the length.
pub look_below : (xs : List ℕ) (i : ℕ) → i < length xs → get_elem? xs i ≡ some (get_or xs i 0)
look_below [] i h = absurd (omega arith)
look_below (x ∷ xs) zero h = refl
look_below (x ∷ xs) (suc i) h = look_below xs i (omega arith)

pub look_inside : (xs : List ℕ) (i w : ℕ) → get_elem? xs i ≡ some w → i < length xs
look_inside [] i w e = none-some e
look_inside (x ∷ xs) zero w e = omega arith
look_inside (x ∷ xs) (suc i) w e = omega (arith, look_inside xs i w e)

-- What a list holds at an index below the length of a beginning of it, the beginning holds there.
pub look_short : (xs ys : List ℕ) → IsPrefix xs ys → (i : ℕ) → i < length xs → Below (get_elem? ys i) (get_elem? xs i)
look_short xs ys p i h w e = look_below xs i h ∙ sym (look_prefix xs ys p i (get_or xs i 0) (look_below xs i h)) ∙ e
