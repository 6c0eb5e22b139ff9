-- Tests over the numbers below a limit: whether all pass, how many pass, the lowest that passes, and the number that has the tests as its bits.
-- Assumes nothing.
use Rattle.std.specs.Prelude.{ℕ, zero, suc, ◌+◌, ◌*◌, ◌/◌, ◌%◌, ◌^◌, Bool, true, cond, ◌&&◌, ◌==◌}
use Rattle.std.proofs.Math.Option.{Option, none, some}

-- 1 for a test that passes
abbrev pub one : Bool → ℕ
one t = cond t 1 0

-- the test passes at every number below n
unfoldable pub all_below : (ℕ → Bool) → ℕ → Bool
all_below f zero = true
all_below f (suc n) = all_below f n && f n

-- at how many numbers below n the test passes
unfoldable pub count_below : (ℕ → Bool) → ℕ → ℕ
count_below f zero = 0
count_below f (suc n) = count_below f n + one (f n)

-- what the first holds, else the second
abbrev pub or_else : Option ℕ → Option ℕ → Option ℕ
or_else (some t) o = some t
or_else none o = o

-- the lowest number below n at which the test passes
unfoldable pub lowest : (ℕ → Bool) → ℕ → Option ℕ
lowest f zero = none
lowest f (suc n) = or_else (lowest f n) (cond (f n) (some n) none)

-- bit i of a number, counted from the least significant
unfoldable pub bit : ℕ → ℕ → Bool
bit i x = x / 2 ^ i % 2 == 1

-- the number whose bits below n are the tests, and whose other bits are 0
unfoldable pub bits : (ℕ → Bool) → ℕ → ℕ
bits f zero = 0
bits f (suc n) = one (f 0) + bits (λ i. f (suc i)) n * 2
