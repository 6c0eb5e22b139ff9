-- Words that wait lie within their list.
-- Assumes nothing.
use Rattle.std.specs.Prelude.{ℕ, ◌≤◌}
use Rattle.netdiff.specs.declared.Waiting.{Waiting}

-- entries `from` to `to` of a list of n
pub record Within (n : ℕ) (w : Waiting) : Type 0 where
  pub ordered : w.from ≤ w.to
  pub ends : w.to ≤ n
