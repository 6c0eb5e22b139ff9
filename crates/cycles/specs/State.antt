-- States as values: 64 entries of registers and a count; the fresh state, the state after a cycle, and when a state is in shape (document 01, "A fresh state
-- has" and "A state is in shape when"; refusal 13).
-- Assumes nothing.
use Rattle.std.specs.Prelude.{ℕ, zero, suc, Bool, cond, ◌&&◌, List, [], ◌∷◌, leb, ltb, get_or}
use Rattle.blocks.specs.Folds.{all_below}
use Rattle.blocks.specs.Kinds.{Kind, kind_of}
use Rattle.blocks.specs.Signals.{empty}
use Rattle.blocks.specs.Equations.{fresh_reg}
use Rattle.blocks.specs.Shape.{zero_reg, in_shape}
use Rattle.blocks.specs.declared.Reg.{Reg}
use Rattle.nets.specs.Net.{block_at}
use Rattle.blocks.specs.declared.Net.{Net}
use Rattle.blocks.specs.declared.State.{State}

-- the list of f 0 to f (n - 1)
unfoldable pub tab : {A : Type 0} → ℕ → (ℕ → A) → List A
tab zero f = []
tab (suc n) f = f 0 ∷ tab n (λ i. f (suc i))

abbrev pub regs_of : State → ℕ → Reg
regs_of s b = record { word = get_or s.words b 0; marks = get_or s.marks b 0 }

-- the registers of the net's blocks; entries beyond are 0
abbrev pub on_net : Net → (ℕ → Reg) → ℕ → Reg
on_net net r b = cond (ltb b net.size) (r b) empty

abbrev pub state_of : Net → ℕ → (ℕ → Reg) → State
state_of net count r = record { count = count; words = tab 64 (λ b. (on_net net r b).word); marks = tab 64 (λ b. (on_net net r b).marks) }

-- a block's kind without its stream: its registers' shape and start do not depend on that
abbrev pub plain_kind : Net → ℕ → Kind
plain_kind net b = kind_of (block_at net b).kind (block_at net b).m (block_at net b).value []

-- cycle count 0 and zero registers, but kind 9 is full
abbrev pub fresh_state : Net → State
fresh_state net = state_of net 0 (λ b. fresh_reg (plain_kind net b))

abbrev pub entry_shape : Net → State → ℕ → Bool
entry_shape net s b = cond (ltb b net.size) (in_shape (plain_kind net b) (regs_of s b)) (zero_reg (regs_of s b))

-- every block's registers are in shape, entries beyond the net's blocks are 0, and the count is 0 to 1,048,576
unfoldable pub shape_ok : Net → State → Bool
shape_ok net s = leb s.count 1048576 && all_below (entry_shape net s) 64
