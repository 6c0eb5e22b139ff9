-- Laws of a channel's words: those of records one after another, of one record more, and how many there are at most. Then what a loop over the records has done.
-- Assumes nothing.
use Prim.Native.Nat.{ℕ, suc, ◌+◌, ◌%◌, ◌<◌, ◌≤◌}
use native.Mathlib.Omega.{arith}
use native.Mathlib.Numerals.{add-one}
use mathlib.Core.Path.{◌≡◌, refl, sym, ap, ap₂, ◌∙◌}
use mathlib.Core.Bool.{Bool, true, false, cond}
use mathlib.Core.List.{List, [], ◌∷◌, ◌++◌, append-nil, append_assoc}
use borrow.Author.Tests.{eq-eqb, ne_eqb}
use lib.ListN.{length, get_or, take, drop, set, length-append, length-set, take-append-drop}
use lib.Seq.{take_all, take-suc, drop-cons, set_at}
use Rattle.recorded.specs.Recorded.{records_read, on, channel_of, word_of}
use Rattle.recorded.proofs.Reading.{read_append}
use Rattle.compare.specs.Gather.{words_on, words_in, put_front}

both : (t : Bool) (w : ℕ) (ab a b : List ℕ) → ab ≡ a ++ b → cond t (w ∷ ab) ab ≡ cond t (w ∷ a) a ++ b
both true w ab a b e = ap (λ (l : List ℕ). w ∷ l) e
both false w ab a b e = e

pub words_append : (c : ℕ) (a b : List ℕ) → words_on c (a ++ b) ≡ words_on c a ++ words_on c b
unfolding words_on
words_append c [] b = refl
words_append c (r ∷ a) b = both (on c r) (word_of r) (words_on c (a ++ b)) (words_on c a) (words_on c b) (words_append c a b)

-- so a trace can be gathered in blocks of whole records
pub words-blocks : (c : ℕ) (block rest : List ℕ) → length block % 8 ≡ 0 → words_in (block ++ rest) c ≡ words_in block c ++ words_in rest c
words-blocks c block rest h = ap (words_on c) (read_append block rest h) ∙ words_append c (records_read block) (records_read rest)

pub words-yes : (c r : ℕ) → channel_of r ≡ c → words_on c (r ∷ []) ≡ word_of r ∷ []
unfolding words_on
words-yes c r e = rw (eq-eqb (channel_of r) c e)

pub words_no : (c r : ℕ) → (channel_of r ≡ c → ⊥) → words_on c (r ∷ []) ≡ []
unfolding words_on
words_no c r n = rw (ne_eqb (channel_of r) c n)

pub words-none : (c : ℕ) → words_on c [] ≡ []
unfolding words_on
words-none c = refl

-- no more words than records
pub words-few : (c : ℕ) (rs : List ℕ) → length (words_on c rs) ≤ length rs
unfolding words_on
words-few c [] = omega arith
words-few c (r ∷ rs) = by (on c r) (words_on c rs) (words-few c rs)
  where
    by : (t : Bool) (l : List ℕ) → length l ≤ length rs → length (cond t (word_of r ∷ l) l) ≤ suc (length rs)
    by true l h = omega arith
    by false l h = omega arith

module _ (c : ℕ) (rs : List ℕ) where
  -- the words of the first i records
  abbrev pub first : ℕ → List ℕ
  first i = words_on c (take i rs)

  -- no more than all
  pub first_few : (i : ℕ) → length (first i) ≤ length (words_on c rs)
  first_few i =
      omega (
        arith,
        length-append (first i) (words_on c (drop i rs)),
        ap length (words_append c (take i rs) (drop i rs)),
        ap (λ (l : List ℕ). length (words_on c l)) (take-append-drop i rs),
      )

  module _ (i : ℕ) (h : i < length rs) where
    first_more : first (i + 1) ≡ first i ++ words_on c (get_or rs i 0 ∷ [])
    first_more = ap first (add-one i) ∙ ap (words_on c) (take-suc rs i 0 h) ∙ words_append c (take i rs) (get_or rs i 0 ∷ [])

    pub first-yes : channel_of (get_or rs i 0) ≡ c → first (i + 1) ≡ first i ++ (word_of (get_or rs i 0) ∷ [])
    first-yes e = first_more ∙ ap (λ (l : List ℕ). first i ++ l) (words-yes c (get_or rs i 0) e)

    pub first-no : (channel_of (get_or rs i 0) ≡ c → ⊥) → first (i + 1) ≡ first i
    first-no n = first_more ∙ ap (λ (l : List ℕ). first i ++ l) (words_no c (get_or rs i 0) n) ∙ append-nil (first i)

    pub count_yes : channel_of (get_or rs i 0) ≡ c → length (first (i + 1)) ≡ length (first i) + 1
    count_yes e = ap length (first-yes e) ∙ length-append (first i) (word_of (get_or rs i 0) ∷ [])

    -- so another word has its place among all
    pub has-place : channel_of (get_or rs i 0) ≡ c → length (first i) < length (words_on c rs)
    has-place e = omega (arith, count_yes e, first_few (i + 1))

-- one word more after those at the front
pub put_more : (words list : List ℕ) (k w : ℕ) → length words ≡ k → k < length list → set (put_front words list) k w ≡ put_front (words ++ (w ∷ [])) list
put_more words list k w e h =
    let n : length (words ++ (w ∷ [])) ≡ suc k = length-append words (w ∷ []) ∙ omega arith in
    ap (λ (j : ℕ). set (words ++ drop j list) k w) e ∙ ap (λ (l : List ℕ). set (words ++ l) k w) (drop-cons list k 0 h)
    ∙ set_at words (get_or list k 0) (drop (suc k) list) w k e ∙ sym (append_assoc words (w ∷ []) (drop (suc k) list))
    ∙ ap (λ (j : ℕ). (words ++ (w ∷ [])) ++ drop j list) (sym n)

-- ## Loops over the records

-- the first i records have k words of the channel, which stand at the front of the list; what follows is as it was
pub record Filled (c : ℕ) (rs list₀ list : List ℕ) (k i : ℕ) : Type 0 where
  pub number : k ≡ length (first c rs i)
  pub front : list ≡ put_front (first c rs i) list₀
  pub sized : length list ≡ length list₀
  pub few : k ≤ i

pub filled_none : (c : ℕ) (rs list : List ℕ) → Filled c rs list list 0 0
unfolding words_on
filled_none c rs list = record { number = refl; front = refl; sized = refl; few = omega arith }

-- record i is r, and ch its channel
module _ (c : ℕ) (rs : List ℕ) (i : ℕ) (h : i < length rs) (r ch : ℕ) (r-is : r ≡ get_or rs i 0) (ch-is : ch ≡ channel_of r) where
  at_yes : ch ≡ c → channel_of (get_or rs i 0) ≡ c
  at_yes e = ap channel_of (sym r-is) ∙ sym ch-is ∙ e

  at_no : (ch ≡ c → ⊥) → channel_of (get_or rs i 0) ≡ c → ⊥
  at_no n e = n (ch-is ∙ ap channel_of r-is ∙ e)

  pub counted-yes : (k : ℕ) → k ≡ length (first c rs i) → ch ≡ c → k + 1 ≡ length (first c rs (i + 1))
  counted-yes k n e = omega (arith, count_yes c rs i h (at_yes e))

  pub counted_no : (k : ℕ) → k ≡ length (first c rs i) → (ch ≡ c → ⊥) → k ≡ length (first c rs (i + 1))
  counted_no k n e = n ∙ sym (ap length (first-no c rs i h (at_no e)))

  module _ (list₀ list : List ℕ) (k : ℕ) (f : Filled c rs list₀ list k i) where
    pub filled-place : length (words_on c rs) ≤ length list₀ → ch ≡ c → k < length list
    filled-place room e = omega (arith, has-place c rs i h (at_yes e), f.number, f.sized)

    pub filled-yes : length (words_on c rs) ≤ length list₀ → ch ≡ c → (w : ℕ) → w ≡ word_of r → Filled c rs list₀ (set list k w) (k + 1) (i + 1)
    filled-yes room e w w-is =
        record {
          number = counted-yes k f.number e;
          front =
              ap₂ (λ (l : List ℕ) (x : ℕ). set l k x) f.front (w-is ∙ ap word_of r-is)
              ∙ put_more (first c rs i) list₀ k (word_of (get_or rs i 0)) (sym f.number) (omega (arith, filled-place room e, f.sized))
              ∙ ap (λ (l : List ℕ). put_front l list₀) (sym (first-yes c rs i h (at_yes e)));
          sized = length-set list k w ∙ f.sized;
          few = omega (arith, f.few);
        }

    pub filled-no : (ch ≡ c → ⊥) → Filled c rs list₀ list k (i + 1)
    filled-no e =
        record {
          number = counted_no k f.number e;
          front = f.front ∙ ap (λ (l : List ℕ). put_front l list₀) (sym (first-no c rs i h (at_no e)));
          sized = f.sized;
          few = omega (arith, f.few);
        }

-- all of them
pub first_all : (c : ℕ) (rs : List ℕ) (i : ℕ) → length rs ≤ i → first c rs i ≡ words_on c rs
first_all c rs i h = ap (words_on c) (take_all i rs h)
