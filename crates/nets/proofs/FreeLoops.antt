-- A loop without a buffer, said of both ends of each channel instead of the blocks on it.
-- Assumes nothing.
use mathlib.Core.Path.{◌≡◌}
use mathlib.Core.Bool.{Bool, false}
use Prim.Native.Nat.{ℕ}
use Rattle.loops.specs.Walk.{Loop}
use Rattle.loops.proofs.Free.{to_blocks, to_ends}
use Rattle.nets.specs.Net.{block_at}
use Rattle.nets.specs.Loops.{Leads, is_buffer, FreeLoop}
use Rattle.blocks.specs.declared.Net.{Net}

-- channel c leads from block a to block b, and neither is such a buffer
pub record LeadsFree (net : Net) (control : Bool) (c a b : ℕ) : Type 0 where
  pub leads : Leads net c a b
  pub from_free : is_buffer control (block_at net a).kind ≡ false
  pub to_free : is_buffer control (block_at net b).kind ≡ false

module _ (net : Net) (control : Bool) where
  pub by_ends : FreeLoop net control → Loop (LeadsFree net control)
  by_ends =
      to_ends (Leads net) (LeadsFree net control) (λ x. is_buffer control (block_at net x).kind ≡ false) (λ c a b f. f.leads) (λ c a b f. f.from_free)
      (λ c a b l f t. record { leads = l; from_free = f; to_free = t })

  pub by_blocks : Loop (LeadsFree net control) → FreeLoop net control
  by_blocks =
      to_blocks (Leads net) (LeadsFree net control) (λ x. is_buffer control (block_at net x).kind ≡ false) (λ c a b f. f.leads) (λ c a b f. f.from_free)
      (λ c a b l f t. record { leads = l; from_free = f; to_free = t })
