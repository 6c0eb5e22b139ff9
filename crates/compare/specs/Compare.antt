-- How two lists of words compare, and the rest that is not matched (request 7). Places count from 0.
-- Assumes nothing.
use Rattle.std.specs.Prelude.{ℕ, suc, ◌+◌, ◌*◌, ◌<◌, ◌≡◌, ◌≢◌, Bool, true, false, eqb, length, get_or, take, drop}
use mathlib.Core.List.{List, [], ◌∷◌, IsPrefix}
use Rattle.std.specs.Borrow.{Bor}
use Rattle.compare.specs.declared.Compared.{Compared}
use Rattle.compare.specs.declared.Compared.TheVariants.{Equal, FirstBegins, SecondBegins, Differ}

-- What each answer says: "equal, the first begins the second, the second begins the first, or the place of the first difference". No two of them hold of one pair of
-- lists (`one_answer`, proofs/Meaning.antt).
abbrev pub Says : List ℕ → List ℕ → Compared → Type 0
Says xs ys Equal = xs ≡ ys
Says xs ys FirstBegins = IsPrefix xs ys × (length xs < length ys)
Says xs ys SecondBegins = IsPrefix ys xs × (length ys < length xs)
Says xs ys (Differ n) = (n < length xs) × (n < length ys) × (take n xs ≡ take n ys) × (get_or xs n 0 ≢ get_or ys n 0)

-- ## The answer, worked out

-- one more where the heads agree
abbrev pub more : Bool → ℕ → ℕ
more true n = suc n
more false n = 0

-- how many words two lists share from the front
unfoldable pub shared : List ℕ → List ℕ → ℕ
shared [] ys = 0
shared (x ∷ xs) [] = 0
shared (x ∷ xs) (y ∷ ys) = more (eqb x y) (shared xs ys)

-- by what is left of each list past the shared words
abbrev pub verdict : ℕ → List ℕ → List ℕ → Compared
verdict n [] [] = Equal
verdict n [] (y ∷ ys) = FirstBegins
verdict n (x ∷ xs) [] = SecondBegins
verdict n (x ∷ xs) (y ∷ ys) = Differ n

unfoldable pub compared_of : List ℕ → List ℕ → Compared
compared_of xs ys = verdict (shared xs ys) (drop (shared xs ys) xs) (drop (shared xs ys) ys)

-- ## The rest

-- a part of a lent list: the list, and the place from which on it is the part
pub record Rest : Type 0 where
  pub list : Bor (List ℕ)
  pub from : ℕ

-- "the unmatched rest of the longer list as a part of that list; equal lists give the empty end of the first, and a difference gives the first list from there on"
abbrev pub rest_by : Compared → Bor (List ℕ) → Bor (List ℕ) → Rest
rest_by Equal a b = record { list = a; from = length a.now }
rest_by FirstBegins a b = record { list = b; from = length a.now }
rest_by SecondBegins a b = record { list = a; from = length b.now }
rest_by (Differ n) a b = record { list = a; from = n }

-- r is that part: it lies in the list's block of memory, so many words of four bytes further, and has the words from there on
pub record IsRest (p : Rest) (r : Bor (List ℕ)) : Type 0 where
  pub block : r.ref_ptr.0 ≡ p.list.ref_ptr.0
  pub offset : r.ref_ptr.1 ≡ p.list.ref_ptr.1 + p.from * 4
  pub words : r.now ≡ drop p.from p.list.now
