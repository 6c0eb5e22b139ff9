-- An order of the blocks exists for every net that has no loop without a buffer: the blocks are placed one by one, by the laws of placing that the check
-- rests on, with no code.
-- Assumes nothing.
use mathlib.Core.Path.{◌≡◌, refl, ap}
use mathlib.Core.Bool.{Bool, true, false}
use mathlib.Core.List.{List, [], ◌∷◌}
use mathlib.Core.Logic.{◌⊎◌, inl, inr}
use Prim.Native.Nat.{ℕ, zero, suc, ◌+◌, ◌/◌, ◌<◌}
use native.Mathlib.Decide.{ℕ_discrete}
use native.Mathlib.Omega.{arith}
use borrow.Author.Tests.{not-false}
use lib.ListN.{length, get_or, set, replicate}
use Rattle.blocks.specs.Folds.{all_below}
use Rattle.blocks.proofs.Folds.{which, fails_at}
use Rattle.nets.specs.Net.{fields_ok, connected, place_of}
use Rattle.nets.specs.Loops.{FreeLoop}
use Rattle.nets.specs.Promises.{Table, InOrder}
use Rattle.nets.specs.Order.{next_at, passed_at, Progress}
use Rattle.blocks.specs.declared.Net.{Net}
use Rattle.nets.proofs.Nets.{size-high}
use Rattle.nets.proofs.Places.{the_end}
use Rattle.nets.proofs.Orders.{reads_of, progress_start, progress_step, in_order, free-loop}

-- f 0, .., f (n - 1)
abbrev pub list_of : (ℕ → ℕ) → ℕ → List ℕ
list_of f zero = []
list_of f (suc n) = f 0 ∷ list_of (λ i. f (suc i)) n

pub listed_at : (f : ℕ → ℕ) (n i : ℕ) → i < n → get_or (list_of f n) i 0 ≡ f i
listed_at f zero i h = absurd (omega arith)
listed_at f (suc n) zero h = refl
listed_at f (suc n) (suc i) h = listed_at (λ i. f (suc i)) n i (omega arith)

pub listed-long : (f : ℕ → ℕ) (n : ℕ) → length (list_of f n) ≡ n
listed-long f zero = refl
listed-long f (suc n) = ap suc (listed-long (λ i. f (suc i)) n)

-- ## The table of producers

module _ (net : Net) (ok : fields_ok net ≡ true) (joins : connected net ≡ true) where
  abbrev producers : List ℕ
  producers = list_of (λ c. place_of net true c / 10) net.channels

  table : Table net true producers
  table c h = rw (listed_at (λ c. place_of net true c / 10) net.channels c h) (the_end net ok joins true c h)

  -- ## The order

  module _ (control : Bool) where
    -- a whole order, or a loop without such a buffer
    abbrev Found : Type 0
    Found = ((order : List ℕ) × InOrder net control order) ⊎ FreeLoop net control

    abbrev Placed : ℕ → List ℕ → List ℕ → Type 0
    Placed count blocks places = Progress control net producers count blocks places

    whole : (count : ℕ) (blocks places : List ℕ) → Placed count blocks places → count ≡ net.size → Found
    whole count blocks places p e =
        inl (blocks, in_order net control producers ok table blocks (record { places = places; progress = rw e at p }))

    -- one more block is placed, or none can be
    place-next : (count : ℕ) (blocks places : List ℕ) → Placed count blocks places → ((blocks places : List ℕ) → Placed (count + 1) blocks places → Found)
        → (all_below (passed_at control net producers places) net.size ≡ true)
        ⊎ (all_below (passed_at control net producers places) net.size ≡ false) → Found
    place-next count blocks places p rec (inl stuck) = stop (ℕ_discrete count net.size)
      where
        stop : Dec (count ≡ net.size) → Found
        stop (yes e) = whole count blocks places p e
        stop (no e) =
            inr
            (free-loop net control producers ok table
            (record { count = count; blocks = blocks; places = places; progress = p; left = omega (arith, p.total); stuck = stuck }))
    place-next count blocks places p rec (inr more) =
        let r : (i : ℕ) × (i < net.size) × (passed_at control net producers places i ≡ false) =
        fails_at (passed_at control net producers places) net.size more in
        let next : next_at control net producers places r.0 ≡ true = not-false (next_at control net producers places r.0) r.2 in
        rec (set blocks count r.0) (set places r.0 (count + 1))
        (progress_step control net producers count blocks places p (size-high net ok) r.0 r.1 next
        (reads_of net control producers ok table r.0 r.1))

    place : (fuel count : ℕ) (blocks places : List ℕ) → net.size < count + fuel → Placed count blocks places → Found
    place zero count blocks places f p = absurd (omega (arith, p.total))
    place (suc fuel) count blocks places f p =
        place-next count blocks places p (λ bs ps q. place fuel (count + 1) bs ps (omega arith) q)
        (which (all_below (passed_at control net producers places) net.size))

    pub order-or-loop : Found
    order-or-loop = place (net.size + 1) 0 (replicate 64 0) (replicate 64 0) (omega arith) (progress_start control net producers (size-high net ok))

pub order_exists : (net : Net) → fields_ok net ≡ true → connected net ≡ true → (control : Bool) → (FreeLoop net control → ⊥) → (order : List ℕ) × InOrder net control order
order_exists net ok joins control none = go (order-or-loop net ok joins control)
  where
    go : ((order : List ℕ) × InOrder net control order) ⊎ FreeLoop net control → (order : List ℕ) × InOrder net control order
    go (inl o) = o
    go (inr l) = absurd (none l)
