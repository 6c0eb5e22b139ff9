-- What a reader yields at a bit position of a form.
-- Assumes nothing.
use Rattle.std.specs.Prelude.{ℕ, ◌+◌, List, Bool, cond, ◌&&◌, leb, ltb, Option, Some, None}
use Rattle.reader.specs.Bits.{field_at}
use Rattle.reader.specs.declared.Field.{Field}

-- a field's value, if it has one, with the position after it
abbrev pub step_of : Option ℕ → ℕ → Option Field
step_of (Some v) next = Some (record { value = v; end = next })
step_of None next = None

-- a position and a width that a reader serves
abbrev pub served : ℕ → ℕ → Bool
served at w = leb at 65536 && (ltb 0 w && leb w 32)

-- the value of the w bits from bit at on and the position after them; none where the bytes end within them, or they are not served
unfoldable pub step_at : List ℕ → ℕ → ℕ → Option Field
step_at f at w = cond (served at w) (step_of (field_at f at w) (at + w)) None
