-- What a person types as a number. Decimal digits and nothing else, at least one, are a number; one of more than 32 bits is too great, and is never taken for its last bits.
-- Assumes nothing.
use Rattle.std.specs.Prelude.{ℕ, ◌<◌, ◌≤◌, ◌≡◌, ◌^◌, List, Result, Ok, Err, Some, None}
use Rattle.std.specs.Prelude.{Option as Answer}
use Rattle.std.specs.Str.Parse.{IsNumeral, digits_value}
use Rattle.typed.specs.declared.NumberFault.{NumberFault}
use Rattle.typed.specs.declared.NumberFault.TheVariants.{NoNumber, TooGreat}

-- What reading a text as a number answers: the number; that it is too great; that the text is none.
abbrev pub NumberOf : List ℕ → Result ℕ NumberFault → Type 0
NumberOf text (Ok n) = IsNumeral 10 text × (n ≡ digits_value 10 text) × (n < 2 ^ 32)
NumberOf text (Err TooGreat) = IsNumeral 10 text × (2 ^ 32 ≤ digits_value 10 text)
NumberOf text (Err NoNumber) = IsNumeral 10 text → ⊥

-- The number in 32 bits: the greatest for one that has more; none, where the text is no number.
abbrev pub narrowed : Result ℕ NumberFault → Answer ℕ
narrowed (Ok n) = Some n
narrowed (Err TooGreat) = Some 4294967295
narrowed (Err NoNumber) = None
