-- Placing the blocks of a net one by one, each after the producers of its inputs, except where a buffer cuts the channel.
-- Assumes nothing.
use Rattle.std.specs.Prelude.{◌≡◌, Bool, true, false, not, ◌&&◌, ◌||◌, List, ◌⊎◌, Option, Some, None, ℕ, ◌+◌, ◌-◌, ◌≤◌, ◌<◌, eqb, length, get_or}
use Rattle.blocks.specs.Folds.{all_below, count_below}
use Rattle.nets.specs.Block.{ins}
use Rattle.nets.specs.Net.{block_at, fields_ok}
use Rattle.nets.specs.Loops.{FreeLoop}
use Rattle.nets.specs.Promises.{Table, cuts, InOrder}
use Rattle.blocks.specs.declared.Net.{Net}
use Rattle.nets.specs.declared.placing.Order.{Order}

-- the block that feeds input j of block b
abbrev pub feeder : Net → List ℕ → ℕ → ℕ → ℕ
feeder net producer b j = get_or producer (get_or (block_at net b).ports j 0) 0

-- places has one more than the place of each block that is placed, and 0 for the others
abbrev pub unplaced : List ℕ → ℕ → Bool
unplaced places i = eqb (get_or places i 0) 0

-- nothing passes at input j of block b
abbrev pub cut_at : Bool → Net → List ℕ → ℕ → ℕ → Bool
cut_at control net producer b j = cuts control ((block_at net (feeder net producer b j)).kind) ((block_at net b).kind)

-- nothing passes there, or the input is fed by a block that is placed
abbrev pub fed_at : Bool → Net → List ℕ → List ℕ → ℕ → ℕ → Bool
fed_at control net producer places b j = cut_at control net producer b j || not (unplaced places (feeder net producer b j))

-- block b may be placed next: every input is fed so
unfoldable pub may_place : Bool → Net → List ℕ → List ℕ → ℕ → Bool
may_place control net producer places b = all_below (fed_at control net producer places b) (ins (block_at net b))

abbrev pub next_at : Bool → Net → List ℕ → List ℕ → ℕ → Bool
next_at control net producer places b = unplaced places b && may_place control net producer places b

abbrev pub passed_at : Bool → Net → List ℕ → List ℕ → ℕ → Bool
passed_at control net producer places b = not (next_at control net producer places b)

-- what the check knows of a net whose blocks it orders: its fields pass, and the table has the one block that each channel leaves
pub record Feeds (net : Net) (producer : List ℕ) : Type 0 where
  pub fields : fields_ok net ≡ true
  pub producers : Table net true producer

-- each input of block b is fed by a block placed before it, or nothing passes there
abbrev pub After : Bool → Net → List ℕ → List ℕ → ℕ → Type 0
After control net producer places b =
    (j : ℕ) → j < ins (block_at net b) → (cut_at control net producer b j ≡ true)
    ⊎ ((0 < get_or places (feeder net producer b j) 0) × (get_or places (feeder net producer b j) 0 < get_or places b 0))

-- blocks has the first count blocks of the order, and places their places
pub record Progress (control : Bool) (net : Net) (producer : List ℕ) (count : ℕ) (blocks places : List ℕ) : Type 0 where
  pub total : count + count_below (unplaced places) net.size ≡ net.size
  pub blocks-long : length blocks ≡ 64
  pub places-long : length places ≡ 64
  pub bounded : (i : ℕ) → i < net.size → get_or places i 0 ≤ count
  pub after : (i : ℕ) → i < net.size → (get_or places i 0 ≡ 0 → ⊥) → After control net producer places i
  pub listed : (k : ℕ) → k < count → (get_or blocks k 0 < net.size) × (get_or places (get_or blocks k 0) 0 ≡ k + 1)
  pub stands : (i : ℕ) → i < net.size → (get_or places i 0 ≡ 0 → ⊥) → get_or blocks (get_or places i 0 - 1) 0 ≡ i

-- the answer whether block b may be placed: a yes is right, and a no is right where no producer has a place beyond the limit
pub record Judged (control : Bool) (net : Net) (producer : List ℕ) (limit b : ℕ) (places : List ℕ) (may : Bool) : Type 0 where
  pub yes : may ≡ true → may_place control net producer places b ≡ true
  pub no : may ≡ false → ((j : ℕ) → j < ins (block_at net b) → get_or places (feeder net producer b j) 0 ≤ limit) → may_place control net producer places b ≡ false

-- the order so far
abbrev pub Placed : Bool → Net → List ℕ → Order → Type 0
Placed control net producer o = Progress control net producer o.count o.blocks o.places

-- block b is placed, or it is passed, where no place is beyond the limit: it has a place already, or it has an input that is not fed
pub record Stepped (control : Bool) (net : Net) (producer : List ℕ) (limit b : ℕ) (old new : Order) : Type 0 where
  pub progress : Placed control net producer new
  pub either : (new.count ≡ old.count + 1)
      ⊎ ((new.count ≡ old.count) × (new.places ≡ old.places) × (old.count ≤ limit → passed_at control net producer old.places b ≡ true))

-- no block that is left can be placed
abbrev pub Stuck : Bool → Net → List ℕ → List ℕ → Type 0
Stuck control net producer places = all_below (passed_at control net producer places) net.size ≡ true

-- a sweep over all blocks
pub record Swept (control : Bool) (net : Net) (producer : List ℕ) (count : ℕ) (new : Order) : Type 0 where
  pub progress : Placed control net producer new
  pub grown : count ≤ new.count
  pub stuck : new.count ≡ count → Stuck control net producer new.places

-- every block is placed
pub record Whole (control : Bool) (net : Net) (producer : List ℕ) (blocks : List ℕ) : Type 0 where
  pub places : List ℕ
  pub progress : Progress control net producer net.size blocks places

-- blocks are left, and none of them can be placed
pub record Halted (control : Bool) (net : Net) (producer : List ℕ) : Type 0 where
  pub count : ℕ
  pub blocks : List ℕ
  pub places : List ℕ
  pub progress : Progress control net producer count blocks places
  pub left : count < net.size
  pub stuck : Stuck control net producer places

-- the answer: an order, or a loop without a buffer
abbrev pub Ordered : Bool → Net → Option (List ℕ) → Type 0
Ordered control net (Some blocks) = InOrder net control blocks
Ordered control net None = FreeLoop net control
