-- A text passes just where it is a numeral: each byte that the test passes is a decimal digit, and each decimal digit passes it.
-- Assumes nothing.
use Rattle.std.proofs.Common.{◌≡◌, ◌∙◌, refl, sym, ℕ, ◌<◌, Bool, true, List, length, ◌&&◌, Decides, rules, tests, arith}
use Rattle.std.specs.Char.{is_ascii_digit}
use Rattle.std.specs.List.{list_all}
use Rattle.std.specs.Str.{all_ascii_digits}
use Rattle.std.specs.Str.Parse.{IsNumeral}
use Rattle.std.proofs.lemmas.Iterator.{YieldsList-from_slice}
use Rattle.std.proofs.lemmas.Iterator.Search.{all_from_yields_List}
use Rattle.std.proofs.lemmas.List.Recursion.{same_from_clauses}
use Rattle.std.proofs.lemmas.Str.Parse.{numerals_by_value, tells_all_ascii_digits}
use Rattle.std.proofs.lemmas.Bool.Decides.{nat_tests}
use Rattle.typed.proofs.is_number.Goals as goal

-- the test, as one that recurses over the text
same_test : (bs : List ℕ) → list_all is_ascii_digit bs ≡ all_ascii_digits bs
same_test = same_from_clauses (list_all is_ascii_digit) all_ascii_digits (λ c b. is_ascii_digit c && b) refl (λ _ _. refl) (λ _ _. refl)

-- it tells the texts of digits alone
told : (bs : List ℕ) (b : Bool) → 0 < length bs → b ≡ list_all is_ascii_digit bs → Decides b (IsNumeral 10 bs)
told bs b some e =
    let own = numerals_by_value (λ ds. all_ascii_digits ds ≡ true) tells_all_ascii_digits in
    ((λ t. (some, own.to bs (sym (e ∙ same_test bs) ∙ t))), λ n. e ∙ same_test bs ∙ own.from bs n.1)

pub returns-then-not-is_empty : goal.returns-then-not-is_empty
returns-then-not-is_empty c =
    let some : 0 < length c.args.text.now = grind (arith, nat_tests) in
    told c.args.text.now c.all.result some (all_from_yields_List is_ascii_digit _ _ _ c.all.ensures.ran (YieldsList-from_slice c.args.text.now cc) (λ x b q k. search (rules, tests)))
