-- The registers in a state of blocks.
-- Assumes nothing.
use Rattle.std.specs.Prelude.{ℕ, ◌≡◌, length, get_or}
use Rattle.blocks.specs.declared.Reg.{Reg}
use Rattle.blocks.specs.declared.State.{State}

-- the registers of block b
abbrev pub reg_in : State → ℕ → Reg
reg_in s b = record { word = get_or s.words b 0; marks = get_or s.marks b 0 }

-- what stays as it was where registers are set: the count, and how many entries there are
pub record Kept (before after : State) : Type 0 where
  pub same_count : after.count ≡ before.count
  pub words_long : length after.words ≡ length before.words
  pub marks-long : length after.marks ≡ length before.marks
