-- The blocks of a net in the two passes, and their registers after the cycle.
-- Assumes nothing.
use Rattle.std.specs.Prelude.{ℕ, ◌+◌, ◌<◌, ◌≡◌, Bool, true, cond, List}
use Rattle.blocks.specs.Equations.{control_out, out_of, ready_of, next_of}
use Rattle.blocks.specs.Kinds.{Kind}
use Rattle.blocks.specs.Ports.{inputs_of, outputs_of}
use Rattle.blocks.specs.States.{reg_in}
use Rattle.blocks.specs.declared.Block.{Block}
use Rattle.blocks.specs.declared.Net.{Net}
use Rattle.blocks.specs.declared.Reg.{Reg}
use Rattle.blocks.specs.declared.Sig.{Sig}
use Rattle.blocks.specs.declared.State.{State}
use Rattle.passes.specs.Rows.{block_no, kind_in, in_no, out_no, rests_ahead, rests_back, FitReg}
use Rattle.passes.specs.Pass.{Site}
use Rattle.ports.specs.Places.{sig_at, port_at}
use Rattle.ports.specs.Worked.{GoneQuiet, Copied}

-- A block, with its kind, its mask bit and its registers.
module _ (block : Block) (K : Kind) (mask : Bool) (r : Reg) where
  -- forward it puts its outputs; they depend on its inputs, unless it rests
  abbrev pub ahead_at : Site Sig
  ahead_at =
      record {
        puts = outputs_of block.kind block.m;
        to = λ j. port_at block (inputs_of block.kind block.m + j);
        asks = cond (rests_ahead block.kind) 0 (inputs_of block.kind block.m);
        from = port_at block;
        says = out_of K mask r;
      }

  -- backward it puts whether it is ready at its inputs; that depends on its outputs, unless it rests
  abbrev pub back_at : (ℕ → Sig) → Site Bool
  back_at X =
      record {
        puts = inputs_of block.kind block.m;
        to = port_at block;
        asks = cond (rests_back block.kind) 0 (outputs_of block.kind block.m);
        from = λ j. port_at block (inputs_of block.kind block.m + j);
        says = ready_of K mask r (λ i. X (port_at block i)) (λ j. (X (port_at block (inputs_of block.kind block.m + j))).valid);
      }

-- What shows at a block's ports once the forward pass is over, as far as the backward pass and the registers build on it: a fork's copies that have not gone show its input, a merge's side that has gone is not valid, a source that
-- offers a word can go one position on, and a control buffer's output shows what it holds or passes.
pub record Settled (block : Block) (r : Reg) (signals : List Sig) : Type 0 where
  pub fork : block.kind ≡ 4 → Copied block.m r.marks block signals
  pub merge : block.kind ≡ 7 → GoneQuiet 2 block.m r.marks block signals
  pub position : block.kind ≡ 0 → (sig_at signals (port_at block 0)).valid ≡ true → r.word < 4294967295
  pub passed : block.kind ≡ 10 → sig_at signals (port_at block 1) ≡ control_out r (sig_at signals (port_at block 0))

-- The net, its streams, mask bits and registers.
module _ (net : Net) (xs : ℕ → List ℕ) (mask : ℕ → Bool) (r : ℕ → Reg) where
  abbrev pub ahead : ℕ → Site Sig
  ahead b = ahead_at (block_no net b) (kind_in net xs b) (mask b) (r b)

  abbrev pub back : (ℕ → Sig) → ℕ → Site Bool
  back X b = back_at (block_no net b) (kind_in net xs b) (mask b) (r b) X

  -- the registers of block b after the cycle
  abbrev pub next_no : (ℕ → Sig) → (ℕ → Bool) → ℕ → Reg
  next_no X Y b =
      next_of (kind_in net xs b) (r b) (λ i. X (in_no net b i)) (λ i. Y (in_no net b i)) (λ j. (X (out_no net b j)).valid) (λ j. Y (out_no net b j))

-- every block of the net is settled
abbrev pub AllSettled : Net → (ℕ → Reg) → List Sig → Type 0
AllSettled net r signals = (b : ℕ) → b < net.size → Settled (block_no net b) (r b) signals

-- what the step of block b's registers needs of them
pub record Stepping (net : Net) (b : ℕ) (state : State) (signals : List Sig) : Type 0 where
  pub shape : FitReg (block_no net b) (reg_in state b)
  pub settled : Settled (block_no net b) (reg_in state b) signals
