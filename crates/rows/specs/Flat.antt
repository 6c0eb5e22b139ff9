-- Which blocks rest in a pass, and the orders of a net that is laid out.
-- Assumes nothing.
use Rattle.std.specs.Prelude.{ℕ, Bool, cond}
use Rattle.passes.specs.Rows.{rests_ahead, rests_back, blocks_in, Along}
use Rattle.rows.specs.declared.Laid.{Laid}

-- blocks that rest in the pass backward, or forward
abbrev pub rests_by : Bool → ℕ → Bool
rests_by control = cond control rests_back rests_ahead

-- Those that do not rest stand along the orders of the passes. (No invariant of the type, since such an order carries its places: it is no mere proposition.)
pub record Ordered (laid : Laid) : Type 0 where
  pub forth : Along laid.net.now rests_ahead (blocks_in laid.ahead)
  pub rear : Along laid.net.now rests_back (blocks_in laid.behind)
