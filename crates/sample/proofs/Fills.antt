-- Lists that a loop fills from the front, and the beginning of a list of a function's values.
-- Assumes nothing.
use mathlib.Core.Path.{◌≡◌, ◌∙◌}
use mathlib.Core.List.{List}
use Prim.Native.Nat.{ℕ, ◌+◌, ◌≤◌, ◌<◌}
use native.Mathlib.Omega.{arith}
use borrow.Author.Count.{below_more}
use lib.ListN.{length, get_or, set, take}
use lib.Seq.{get_or-set_same, get_or-set_other, get_or-take, length-take-le}
use Rattle.cycles.specs.State.{tab}
use Rattle.cycles.proofs.States.{length-tab, get_d_tab, tab_is}

-- the beginning of a list of a function's values
pub tab-front : (m n : ℕ) (f : ℕ → ℕ) → m ≤ n → take m (tab n f) ≡ tab m f
tab-front m n f h =
    tab_is m f (take m (tab n f)) (length-take-le m (tab n f) (omega (arith, length-tab n f)))
    (λ i k. get_or-take m (tab n f) i 0 k ∙ get_d_tab n f 0 i (omega arith))

-- one value more
pub fill_one : (f : ℕ → ℕ) (l : List ℕ) (i v : ℕ) → i < length l → v ≡ f i → ((k : ℕ) → k < i → get_or l k 0 ≡ f k)
    → (k : ℕ) → k < i + 1 → get_or (set l i v) k 0 ≡ f k
fill_one f l i v low e h =
    below_more (λ k. get_or (set l i v) k 0 ≡ f k) i (λ k q. get_or-set_other l i k v 0 (λ z. omega arith) ∙ h k q) (get_or-set_same l i v 0 low ∙ e)
