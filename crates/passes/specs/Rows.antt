-- The blocks of a net by their numbers. What the passes over all blocks read of it, and what they need of it.
-- Assumes nothing.
use Rattle.std.specs.Prelude.{ℕ, ◌+◌, ◌≤◌, ◌<◌, ◌≡◌, Bool, true, false, ◌||◌, List, [], eqb, leb, length, take, get_or}
use Rattle.blocks.specs.Folds.{count_below}
use Rattle.blocks.specs.Kinds.{Kind, kind_of}
use Rattle.blocks.specs.Ports.{m_ok, inputs_of, outputs_of}
use Rattle.blocks.specs.Shape.{in_shape}
use Rattle.blocks.specs.States.{reg_in}
use Rattle.blocks.specs.declared.Block.{Block}
use Rattle.blocks.specs.declared.Net.{Net}
use Rattle.blocks.specs.declared.Reg.{Reg}
use Rattle.blocks.specs.declared.State.{State}
use Rattle.ports.specs.Places.{port_at, Ported}
use Rattle.passes.specs.declared.Blocks.{Blocks}
use Rattle.passes.specs.declared.Sorted.{Sorted}

abbrev pub block_no : Net → ℕ → Block
block_no net b = get_or net.blocks b (record { kind = 0; m = 0; value = 0; ports = [] })

abbrev pub kind_no : Net → ℕ → ℕ
kind_no net b = (block_no net b).kind

abbrev pub m_no : Net → ℕ → ℕ
m_no net b = (block_no net b).m

abbrev pub ins_no : Net → ℕ → ℕ
ins_no net b = inputs_of (kind_no net b) (m_no net b)

abbrev pub outs_no : Net → ℕ → ℕ
outs_no net b = outputs_of (kind_no net b) (m_no net b)

-- the channels at input i and at output j of block b
abbrev pub in_no : Net → ℕ → ℕ → ℕ
in_no net b i = port_at (block_no net b) i

abbrev pub out_no : Net → ℕ → ℕ → ℕ
out_no net b j = port_at (block_no net b) (ins_no net b + j)

-- a block with its stream
abbrev pub kind_with : Block → List ℕ → Kind
kind_with block xs = kind_of block.kind block.m block.value xs

-- block b with its stream
abbrev pub kind_in : Net → (ℕ → List ℕ) → ℕ → Kind
kind_in net xs b = kind_with (block_no net b) (xs b)

-- the blocks of a net: fields in range, and every port at a channel of its own side alone
pub record Rowed (net : Net) : Type 0 where
  pub few : net.size ≤ 64
  pub sound : (b : ℕ) → b < net.size → m_ok (kind_no net b) (m_no net b) ≡ true
  pub ported : (b : ℕ) → b < net.size → Ported (block_no net b)
  pub outs_apart : (a b i j : ℕ) → a < net.size → b < net.size → i < outs_no net a → j < outs_no net b → out_no net a i ≡ out_no net b j → (a ≡ b) × (i ≡ j)
  pub ins_apart : (a b i j : ℕ) → a < net.size → b < net.size → i < ins_no net a → j < ins_no net b → in_no net a i ≡ in_no net b j → (a ≡ b) × (i ≡ j)

-- a block's registers are in shape
abbrev pub FitReg : Block → Reg → Type 0
FitReg block r = in_shape (kind_with block []) r ≡ true

-- the registers of a net's blocks are in shape
abbrev pub Shaped : Net → State → Type 0
Shaped net state = (b : ℕ) → b < net.size → FitReg (block_no net b) (reg_in state b)

-- every block of n has one place in the list
pub record Order (n : ℕ) (order : List ℕ) : Type 0 where
  pub place : ℕ → ℕ
  pub listed : (k : ℕ) → k < n → (get_or order k 0 < n) × (place (get_or order k 0) ≡ k)
  pub stands : (b : ℕ) → b < n → (place b < n) × (get_or order (place b) 0 ≡ b)

-- A block rests in a pass where what it puts depends on no channel; it is worked out before the others. Forward these are sources and data buffers, and sinks, which put
-- nothing; backward sinks and control buffers, and sources, which put nothing.
abbrev pub rests_ahead : ℕ → Bool
rests_ahead k = leb k 1 || (eqb k 8 || eqb k 9)

abbrev pub rests_back : ℕ → Bool
rests_back k = leb k 1 || eqb k 10

-- along a channel between blocks that do not rest the places grow
abbrev pub Grows : Net → (ℕ → Bool) → (ℕ → ℕ) → Type 0
Grows net rests place =
    (a b i j : ℕ) → a < net.size → b < net.size → rests (kind_no net a) ≡ false → rests (kind_no net b) ≡ false → i < outs_no net a → j < ins_no net b → out_no net a i ≡ in_no net b j
    → place a < place b

-- an order of all blocks of a net
pub record Whole (net : Net) (rests : ℕ → Bool) (order : List ℕ) : Type 0 where
  pub list : Order net.size order
  pub grows : Grows net rests list.place

-- an order of those that do not rest
pub record Along (net : Net) (rests : ℕ → Bool) (list : List ℕ) : Type 0 where
  pub place : ℕ → ℕ
  pub listed : (k : ℕ) → k < length list → (get_or list k 0 < net.size) × (rests (kind_no net (get_or list k 0)) ≡ false) × (place (get_or list k 0) ≡ k)
  pub stands : (b : ℕ) → b < net.size → rests (kind_no net b) ≡ false → (place b < length list) × (get_or list (place b) 0 ≡ b)
  pub grows : Grows net rests place

-- block b is of this kind
abbrev pub is_kind_no : Net → ℕ → ℕ → Bool
is_kind_no net kind b = eqb (kind_no net b) kind

-- the blocks of a kind by their numbers, in block order
pub record Listed (net : Net) (kind : ℕ) (list : List ℕ) : Type 0 where
  pub count_is : length list ≡ count_below (is_kind_no net kind) net.size
  pub each : (k : ℕ) → k < length list → (get_or list k 0 < net.size) × (is_kind_no net kind (get_or list k 0) ≡ true) × (count_below (is_kind_no net kind) (get_or list k 0) ≡ k)

-- the blocks that stand in an order
abbrev pub blocks_in : Blocks → List ℕ
blocks_in order = take order.count order.blocks

-- those of a kind
abbrev pub kept_no : Sorted → ℕ → Blocks
kept_no sorted kind = get_or sorted.by_kind kind (record { count = 0; blocks = [] })

abbrev pub in_kind : Sorted → ℕ → List ℕ
in_kind sorted kind = blocks_in (kept_no sorted kind)

-- the blocks of every kind of a net
pub record Kinds (net : Net) (sorted : Sorted) : Type 0 where
  pub few : (kind : ℕ) → kind < 11 → (kept_no sorted kind).count ≤ 64
  pub listed : (kind : ℕ) → kind < 11 → Listed net kind (in_kind sorted kind)
