-- `recorded::record_at` meets its contract: numbers 2 i and 2 i + 1 of the bytes make record i.
-- Assumes nothing.
use Prim.Native.Nat.{ℕ, ◌+◌, ◌*◌, ◌^◌}
use mathlib.Core.Path.{sym, ap₂, ◌∙◌}
use Rattle.recorded.proofs.Reading.{record_is}
use Rattle.recorded.proofs.record_at.Goals as goal

pub returns : goal.returns
returns c = ap₂ (λ (x y : ℕ). x * 2 ^ 32 + y) c.number_at-head.ensures c.number_at-word.ensures ∙ sym (record_is c.args.bytes.now c.args.i c.requires)
