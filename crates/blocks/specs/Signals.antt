-- What a port shows and what a block's registers hold (document 01, "One cycle"): V is `valid`; R is a Bool of its own, by port.
-- Assumes nothing.
use Rattle.std.specs.Prelude.{ℕ, Bool, false, cond, ◌==◌}
use Rattle.std.proofs.Math.Option.{Option, none, some}
use Rattle.blocks.specs.Folds.{one}
use Rattle.blocks.specs.declared.Sig.{Sig}
use Rattle.blocks.specs.declared.Reg.{Reg}

-- the word w where v holds; the word of a port that is not valid is 0 here, and nobody reads it
abbrev pub shown : Bool → ℕ → Sig
shown v w = record { valid = v; word = cond v w 0 }

abbrev pub nothing : Sig
nothing = record { valid = false; word = 0 }

-- the port that is named, or nothing
abbrev pub chosen : Option ℕ → (ℕ → Sig) → Sig
chosen none x = nothing
chosen (some t) x = x t

-- a test of the port that is named; false where there is none
abbrev pub named : {A : Type 0} → Option A → (A → Bool) → Bool
named none g = false
named (some t) g = g t

abbrev pub valid_at : (ℕ → Sig) → ℕ → Bool
valid_at x i = (x i).valid

-- registers that are zero
abbrev pub empty : Reg
empty = record { word = 0; marks = 0 }

-- what a port showed, as a buffer's registers
abbrev pub kept : Sig → Reg
kept s = record { word = s.word; marks = one s.valid }

-- marks 1: a source is held, a buffer is full
abbrev pub full : Reg → Bool
full r = r.marks == 1
