-- A file that is split part by part is parted.
-- Assumes nothing.
use Prim.Native.Nat.{ℕ, ◌*◌, ◌≤◌}
use mathlib.Core.Path.{◌≡◌, sym, ap, ap₂, ◌∙◌}
use mathlib.Core.List.{List, ◌++◌}
use lib.ListN.{get_or, take-append-drop}
use Rattle.std.specs.List.{IsSplitAt}
use Rattle.trace.specs.Numbers.{numbers_of}
use Rattle.cases.specs.declared.Case.{Case}
use Rattle.cases.specs.Parts.{number, IsParted}

-- the two parts make the list
joined : (l front back : List ℕ) (n : ℕ) → IsSplitAt l n front back → l ≡ front ++ back
joined l front back n s = sym (take-append-drop n l) ∙ ap₂ (λ (x y : List ℕ). x ++ y) (sym s.1) (sym s.2)

module _ (file head parts more last : List ℕ) (c : Case) (form words ends : ℕ) (s : IsSplitAt file 12 head parts) where
  of_head : (i : ℕ) → get_or (numbers_of head) i 0 ≡ number file i
  of_head i = ap (λ (l : List ℕ). get_or (numbers_of l) i 0) s.1

  pub parted : form ≡ get_or (numbers_of head) 0 0 → words ≡ get_or (numbers_of head) 1 0 → ends ≡ get_or (numbers_of head) 2 0
      → words ≤ 256 → ends ≤ 64 → IsSplitAt parts form c.form.now more → IsSplitAt more (4 * words) c.words.now last
      → IsSplitAt last (4 * ends) c.ends.now c.rest.now → IsParted file c
  parted f w e few_words few-ends p q r =
      let words-is = w ∙ of_head 1 in
      let ends-is = e ∙ of_head 2 in
      record {
        form_long = p.3 ∙ f ∙ of_head 0;
        words_long = q.3 ∙ ap (λ (n : ℕ). 4 * n) words-is;
        ends-long = r.3 ∙ ap (λ (n : ℕ). 4 * n) ends-is;
        few_words = rw words-is at few_words;
        few-ends = rw ends-is at few-ends;
        behind =
            sym s.2 ∙ joined _ _ _ _ p
            ∙ ap (λ (l : List ℕ). c.form.now ++ l) (joined _ _ _ _ q ∙ ap (λ (l : List ℕ). c.words.now ++ l) (joined _ _ _ _ r));
      }
