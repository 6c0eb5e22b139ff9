-- What is no numeral is no number. A numeral is ASCII, so it can be read as UTF-8, and as it has no leading plus, `parse` gives its value where that has 32 bits, and an error where it has more.
-- Assumes nothing.
use Rattle.std.proofs.Common.{rules, ◌≡◌, sym, subst, ℕ, ◌<◌, ◌≤◌, ◌^◌, List, length, Result, Ok, Err, arith}
use Rattle.std.specs.Result.{MatchResult, IsErrAnd, OkIff}
use Rattle.std.specs.Str.Parse.{IsNumeral, ParsesUnsigned, AllDigits, digits_value}
use Rattle.std.proofs.lemmas.Str.Parse.{numerals_by_value, tells_digits, parse_digits}
use Rattle.std.proofs.lemmas.Str.{IsUtf8-from_ascii}
use Rattle.std.proofs.lemmas.Fmt.{IsAscii-from_digits}
use Rattle.typed.specs.Typed.{NumberOf}
use Rattle.typed.specs.declared.NumberFault.{NumberFault}
use Rattle.typed.specs.declared.NumberFault.TheVariants.{TooGreat}
use Rattle.typed.proofs.number_in.Goals as goal

-- what `parse` gives for digits alone
plain : {E : Type 0} (bs : List ℕ) (r : Result ℕ E) → AllDigits 10 bs → ParsesUnsigned 32 10 bs r → OkIff r ((0 < length bs) × (digits_value 10 bs < 2 ^ 32)) (digits_value 10 bs)
plain bs r d p = parse_digits (numerals_by_value (AllDigits 10) tells_digits) 32 bs r p d

-- the same, with each error as one that the number is too great
numeral : {E : Type 0} (bs : List ℕ) (r : Result ℕ E) (s : Result ℕ NumberFault) → IsNumeral 10 bs → ParsesUnsigned 32 10 bs r → MatchResult r (λ n. s ≡ Ok n) (λ _. IsErrAnd s (λ f. f ≡ TooGreat)) → NumberOf bs s
numeral {E} bs (Ok n) s d p h =
    let q = plain {E = E} bs (Ok n) d.1 p in
    let fits : n < 2 ^ 32 = omega (arith, q.0.1, q.1) in
    subst (NumberOf bs) (sym h) (d, q.1, fits)
numeral bs (Err e) (Ok m) d p h = absurd h
numeral {E} bs (Err e) (Err f) d p h =
    let q = plain {E = E} bs (Err e) d.1 p in
    let great : 2 ^ 32 ≤ digits_value 10 bs = by (λ l. q (d.0, l)) in
    subst (λ g. NumberOf bs (Err g)) (sym h) (d, great)
  where
    by : {n : ℕ} → (n < 2 ^ 32 → ⊥) → 2 ^ 32 ≤ n
    by n = omega arith

pub returns-in-Ok : goal.returns-in-Ok
returns-in-Ok c =
    let d = c.is_number.ensures.0 c.if-not-is_number.false in
    let p : ParsesUnsigned 32 10 c.args.text.now c.parse.result = subst (λ bs. ParsesUnsigned 32 10 bs c.parse.result) c.in-Ok.ensures.cases.0 c.parse.ensures.value.0 in
    let t : MatchResult c.parse.result (λ n. c.map_err.result ≡ Ok n) (λ _. IsErrAnd c.map_err.result (λ f. f ≡ TooGreat)) = search rules in
    numeral c.args.text.now c.parse.result c.map_err.result d p t

pub returns-in-Err : goal.returns-in-Err
returns-in-Err c d = c.in-Err.ensures.cases.0 (IsUtf8-from_ascii c.args.text.now (IsAscii-from_digits c.args.text.now d.1))
