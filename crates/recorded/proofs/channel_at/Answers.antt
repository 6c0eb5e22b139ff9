-- `recorded::channel_at` meets its contract: the channel is in the upper number.
-- Assumes nothing.
use Prim.Native.Nat.{ℕ, ◌%◌}
use mathlib.Core.Path.{ap, ◌∙◌}
use Rattle.recorded.proofs.Reading.{upper_channel}
use Rattle.recorded.proofs.channel_at.Goals as goal

pub returns : goal.returns
returns c = ap (λ (n : ℕ). n % 128) c.number_at.ensures ∙ upper_channel c.args.bytes.now (λ k. (c.type_inv.bytes k).fits) c.args.i c.requires
