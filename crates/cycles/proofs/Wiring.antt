-- What it is for every channel to leave one port and to enter one port, with the four tables of ends.
-- Assumes nothing.
use Prim.Native.Nat.{ℕ, ◌<◌}
use mathlib.Core.Path.{◌≡◌}
use Rattle.blocks.specs.Ports.{n_in, n_out}
use Rattle.cycles.specs.Wires.{View}

pub record Wired (v : View) : Type 0 where
  -- the block and the output port that a channel leaves, the block and the input port that it enters
  pub producer : ℕ → ℕ
  pub out_port : ℕ → ℕ
  pub consumer : ℕ → ℕ
  pub in_port : ℕ → ℕ
  pub out_range : (b j : ℕ) → b < v.blocks → j < n_out (v.kind b) → v.out b j < v.channels
  pub inp_range : (b i : ℕ) → b < v.blocks → i < n_in (v.kind b) → v.inp b i < v.channels
  pub leaves : (c : ℕ) → c < v.channels → (producer c < v.blocks) × (out_port c < n_out (v.kind (producer c))) × (v.out (producer c) (out_port c) ≡ c)
  pub enters : (c : ℕ) → c < v.channels → (consumer c < v.blocks) × (in_port c < n_in (v.kind (consumer c))) × (v.inp (consumer c) (in_port c) ≡ c)
  pub leaves-only : (b j : ℕ) → b < v.blocks → j < n_out (v.kind b) → (producer (v.out b j) ≡ b) × (out_port (v.out b j) ≡ j)
  pub enters-only : (b i : ℕ) → b < v.blocks → i < n_in (v.kind b) → (consumer (v.inp b i) ≡ b) × (in_port (v.inp b i) ≡ i)
