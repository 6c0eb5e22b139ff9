-- How the channels of a net join its blocks, as far as a walk along them needs it.
-- Assumes nothing.
use Rattle.std.specs.Prelude.{ℕ, ◌≤◌, ◌<◌, List, get_or}
use Rattle.blocks.specs.declared.Net.{Net}
use Rattle.blocks.specs.declared.State.{State}
use Rattle.passes.specs.Rows.{ins_no, outs_no, in_no, out_no}
use Rattle.asking.specs.Rows.{Row}

-- every channel of the net joins two blocks, and every port names one
pub record Wired (net : Net) (state : State) (producer consumer : List ℕ) : Type 0 where
  pub row : (b : ℕ) → b < net.size → Row net state b
  pub few : net.channels ≤ 128
  pub leaves : (c : ℕ) → c < net.channels → get_or producer c 0 < net.size
  pub enters : (c : ℕ) → c < net.channels → get_or consumer c 0 < net.size
  pub inputs : (b i : ℕ) → b < net.size → i < ins_no net b → in_no net b i < net.channels
  pub outputs : (b j : ℕ) → b < net.size → j < outs_no net b → out_no net b j < net.channels
