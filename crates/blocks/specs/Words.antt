-- The operations on words of 32 bits, the port that a select word names, and the input that a merge's number names (document 01, "Blocks and ports" and "One cycle").
-- Assumes nothing.
use Rattle.std.specs.Prelude.{ℕ, zero, suc, ◌+◌, ◌-◌, ◌%◌, ◌^◌, cond, ◌==◌, nat_lt}
use Rattle.std.proofs.Math.Option.{Option, none, some}
use Rattle.blocks.specs.Folds.{one}

-- 0 add, 1 subtract the second from the first, 2 equal, 3 first less than second; sums and differences go round at 2^32
unfoldable pub operate : ℕ → ℕ → ℕ → ℕ
operate zero a b = (a + b) % 2 ^ 32
operate (suc zero) a b = (a + (2 ^ 32 - b)) % 2 ^ 32
operate (suc (suc zero)) a b = one (a == b)
operate (suc (suc (suc o))) a b = one (nat_lt a b)

-- the last of m ports; only where there is no port is there no last one
abbrev pub last_of : ℕ → Option ℕ
last_of zero = none
last_of (suc k) = some k

-- The port, of m, that a select word names: below m the port of its own number, at or above m the last one. The equations and the queue machine both read it here.
unfoldable pub reach : ℕ → ℕ → Option ℕ
reach m s = cond (nat_lt s m) (some s) (last_of m)

-- The input, of m, of a merge that a number names: in a cycle the recorded winner less 1, in the queue machine a choice. At or above m there is none.
abbrev pub merge_input : ℕ → ℕ → Option ℕ
merge_input m t = cond (nat_lt t m) (some t) none
