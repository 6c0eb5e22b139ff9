-- Document 01's starred trial runs that concern one block, as the change requests leave them, over the definitions, by computing.
-- Assumes nothing.
use Rattle.std.proofs.Common.{◌≡◌, ℕ, zero, suc, ◌+◌, Bool, true, false, eqb, refl}
use mathlib.Core.Option.{Option, none, some}
use Rattle.blocks.specs.Folds.{all_below, bit, bits}
use Rattle.blocks.specs.Kinds.{fork, mux, demux, buffer, control}
use Rattle.blocks.specs.Words.{operate, reach}
use Rattle.blocks.specs.Equations.{out_of, ready_of, next_of}
use Rattle.blocks.specs.Firing.{choose, send, turn}
use Rattle.blocks.specs.declared.Sig.{Sig}
use Rattle.blocks.specs.declared.Reg.{Reg}

abbrev at : Bool → ℕ → Sig
at v w = record { valid = v; word = w }

abbrev reg : ℕ → ℕ → Reg
reg w k = record { word = w; marks = k }

-- select word s and the data words 5, 6 and so on, all valid
abbrev selecting : ℕ → ℕ → Sig
selecting s zero = at true s
selecting s (suc i) = at true (5 + i)

-- the same as the first words of the queues
abbrev waiting : ℕ → ℕ → Option ℕ
waiting s i = some (selecting s i).word

pub record BlockTrials : Type 0 where
  -- 4294967295 + 1 = 0
  pub add-goes_round : operate 0 4294967295 1 ≡ 0
  -- 0 - 1 = 4294967295
  pub subtract_goes_round : operate 1 0 1 ≡ 4294967295
  -- less 3, 3 = 0
  pub less : operate 3 3 3 ≡ 0
  -- demux of 2, select 1: output 1 V
  pub select_one : (out_of (demux 2) false (reg 0 0) (selecting 1) 1).valid ≡ true
  -- select 2: output 1 V, and no other; a mux of 2 passes the word of its data input 1
  pub select_two : ((out_of (demux 2) false (reg 0 0) (selecting 2) 0).valid ≡ false) × ((out_of (demux 2) false (reg 0 0) (selecting 2) 1).valid ≡ true)
  pub mux_two : out_of (mux 2) false (reg 0 0) (selecting 2) 0 ≡ at true 6
  -- and so in the queue machine
  pub demux_fires : turn (demux 2) 0 (waiting 2) ≡ some (send 1 5)
  pub mux_fires : turn (mux 2) 0 (waiting 2) ≡ some (choose 1 6)
  -- full data buffer, output R: R in
  pub full_data : ready_of (buffer none) false (reg 4 1) (λ i. at false 0) (λ j. true) (λ j. true) 0 ≡ true
  -- empty control buffer, word 7, output not R: R in, holds 7
  pub empty-control : ready_of control false (reg 0 0) (λ i. at true 7) (λ j. true) (λ j. false) 0 ≡ true
  pub control-holds : next_of control (reg 0 0) (λ i. at true 7) (λ i. true) (λ j. true) (λ j. false) ≡ reg 7 1
  -- two-way fork, marks 1, output 1 delivers: R in, marks 0
  pub fork-ready : ready_of (fork 2) false (reg 0 1) (λ i. at true 7) (λ j. eqb j 1) (λ j. true) 0 ≡ true
  pub fork_clears : next_of (fork 2) (reg 0 1) (λ i. at true 7) (λ i. true) (λ j. eqb j 1) (λ j. true) ≡ reg 0 0

pub block_trials : BlockTrials
unfolding operate reach bit bits all_below
block_trials =
    record {
      add-goes_round = refl;
      subtract_goes_round = refl;
      less = refl;
      select_one = refl;
      select_two = (refl, refl);
      mux_two = refl;
      demux_fires = refl;
      mux_fires = refl;
      full_data = refl;
      empty-control = refl;
      control-holds = refl;
      fork-ready = refl;
      fork_clears = refl;
    }
