-- The claims of specs/Claims.antt, proved.
-- Assumes nothing.
use Prim.Native.Nat.{ℕ, zero, suc}
use mathlib.Core.Path.{◌≡◌, refl}
use mathlib.Core.Logic.{◌⊎◌, inl, inr}
use native.Mathlib.Omega.{arith}
use lib.ListN.{replicate}
use Rattle.blocks.proofs.Folds.{clash}
use Rattle.nets.specs.Verdict.{number_of, Joined, VerdictIs, Verdict, Accepted, Field, Connection, Ends, DataLoop, ControlLoop}
use Rattle.blocks.specs.declared.Net.{Net}
use Rattle.nets.proofs.Decided.{verdict_of, verdict_is}
use Rattle.placed.specs.Placed.{placed, placed_from}
use Rattle.placed.specs.Claims.{SizesAre, StaysJoined, OnlyLoopsLeft, NonePlaced}
use Rattle.placed.proofs.Placing.{sizes, codes_joined}

pub sizes_are : SizesAre
sizes_are net codes = sizes net 0 codes

pub stays-joined : StaysJoined
stays-joined net codes j fit = codes_joined net codes j (omega arith) fit.blocks_fit fit.channels_fit

-- a net that passes up to its loops has one of three verdicts
pub by_joined : (P : Verdict → Type 0) → P Accepted → P DataLoop → P ControlLoop → (net : Net) → Joined net → P (verdict_of net)
by_joined P a d c net j = go (verdict_of net) (verdict_is net)
  where
    go : (v : Verdict) → VerdictIs net v → P v
    go Accepted h = a
    go Field h = clash j.fields h
    go Connection h = clash j.joins h.1
    go Ends h = clash j.ends h.1.1
    go DataLoop h = d
    go ControlLoop h = c

pub only_loops_left : OnlyLoopsLeft
only_loops_left net codes j fit =
    by_joined (λ v. (number_of v ≡ 0) ⊎ ((number_of v ≡ 10) ⊎ (number_of v ≡ 11))) (inl refl) (inr (inl refl)) (inr (inr refl)) (placed net codes) (stays-joined net codes j fit)

none_from : (net : Net) (c n : ℕ) → placed_from net c (replicate n 0) ≡ net
none_from net c zero = refl
none_from net c (suc n) = none_from net (suc c) n

pub none-placed : NonePlaced
none-placed net n = none_from net 0 n
