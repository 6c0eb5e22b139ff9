-- The check of a net value: which refusal it earns, in document 01's order of checking. A value that is no form earns 12 for its fields (3 to 6 and the rest).
-- Assumes nothing.
use Rattle.std.specs.Prelude.{◌≡◌, true, false, ℕ}
use Rattle.nets.specs.Net.{fields_ok, connected, few_ends}
use Rattle.nets.specs.Loops.{FreeLoop}
use Rattle.blocks.specs.declared.Net.{Net}

-- what the check of a net finds
pub data Verdict : Type 0 where
  Accepted : Verdict
  Field : Verdict
  Connection : Verdict
  Ends : Verdict
  DataLoop : Verdict
  ControlLoop : Verdict

-- the document's number of each refusal
abbrev pub number_of : Verdict → ℕ
number_of Accepted = 0
number_of Field = 12
number_of Connection = 8
number_of Ends = 9
number_of DataLoop = 10
number_of ControlLoop = 11

-- a net that passes the checks up to the loops
pub record Joined (net : Net) : Type 0 where
  pub fields : fields_ok net ≡ true
  pub joins : connected net ≡ true
  pub ends : few_ends net ≡ true

-- the verdict is the net's: the first check in the document's order that the net fails, or that it fails none
abbrev pub VerdictIs : Net → Verdict → Type 0
VerdictIs net Field = fields_ok net ≡ false
VerdictIs net Connection = (fields_ok net ≡ true) × (connected net ≡ false)
VerdictIs net Ends = (fields_ok net ≡ true) × ((connected net ≡ true) × (few_ends net ≡ false))
VerdictIs net DataLoop = Joined net × FreeLoop net false
VerdictIs net ControlLoop = Joined net × ((FreeLoop net false → ⊥) × FreeLoop net true)
VerdictIs net Accepted = Joined net × ((FreeLoop net false → ⊥) × (FreeLoop net true → ⊥))
