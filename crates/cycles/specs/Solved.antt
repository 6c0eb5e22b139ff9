-- Signals that satisfy every block's equations (document 01, "One cycle"): every channel shows what the block that it leaves says, and is ready as the block
-- that it enters says. The code of a step is proved against this, and `unique` (proofs/Solution.antt) makes of it the function `signals_of`.
-- Assumes nothing.
use Rattle.std.specs.Prelude.{ℕ, ◌<◌, ◌≡◌, Bool, List}
use Rattle.blocks.specs.Ports.{n_in, n_out}
use Rattle.blocks.specs.Equations.{out_of, ready_of}
use Rattle.blocks.specs.declared.Sig.{Sig}
use Rattle.blocks.specs.declared.Reg.{Reg}
use Rattle.blocks.specs.declared.Net.{Net}
use Rattle.cycles.specs.Streams.{mask_of}
use Rattle.cycles.specs.Wires.{View, view_of}

-- by channel, X is what it shows and Y whether it is ready; by block, mask has the mask bits and r the registers
pub record Solves (v : View) (mask : ℕ → Bool) (r : ℕ → Reg) (X : ℕ → Sig) (Y : ℕ → Bool) : Type 0 where
  -- at output j of block b
  pub showing : (b j : ℕ) → b < v.blocks → j < n_out (v.kind b) → X (v.out b j) ≡ out_of (v.kind b) (mask b) (r b) (λ i. X (v.inp b i)) j
  -- at input i of block b
  pub taking : (b i : ℕ) → b < v.blocks → i < n_in (v.kind b)
      → Y (v.inp b i) ≡ ready_of (v.kind b) (mask b) (r b) (λ k. X (v.inp b k)) (λ j. (X (v.out b j)).valid) (λ j. Y (v.out b j)) i

-- of a net over its streams and masks
abbrev pub Solved : Net → List ℕ → List ℕ → ℕ → ℕ → (ℕ → Reg) → (ℕ → Sig) → (ℕ → Bool) → Type 0
Solved net words ends offer ready r X Y = Solves (view_of net words ends) (mask_of net offer ready) r X Y
