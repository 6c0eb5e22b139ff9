-- The claims of specs/Claims.antt, proved.
-- Assumes nothing.
use Prim.Native.Nat.{ℕ, ◌<◌}
use mathlib.Core.Path.{◌≡◌, subst}
use mathlib.Core.Bool.{Bool}
use mathlib.Core.List.{List, [], IsPrefix}
use native.Mathlib.Omega.{arith}
use lib.ListN.{length}
use Rattle.nets.specs.Verdict.{Joined}
use Rattle.blocks.specs.declared.Net.{Net}
use Rattle.nets.proofs.Nets.{size-high, channels-high}
use Rattle.cycles.specs.Wires.{View}
use Rattle.queue.specs.Machine.{start, machine_of, put}
use Rattle.queue.specs.Delivered.{delivered}
use Rattle.queue.specs.Claims.{IsAccepted, MergeFree}
use Rattle.queue.proofs.Confluence.{beginnings_comparable}
use Rattle.queue.proofs.Machines.{machine_wired}
use Rattle.queue.proofs.Guarantee.{guaranteed}
use Rattle.placed.specs.Placed.{placed}
use Rattle.placed.specs.Claims.{Fitting}
use Rattle.placed.proofs.Theorems.{sizes_are}
use Rattle.lockstep.specs.Claims.{FiringsFollowed, PlacementsComparable}
use Rattle.lockstep.proofs.Following.{Extends, extends}

pub firings_followed : FiringsFollowed
firings_followed net codes j fit = (extends net codes j fit).follow

-- a placed net that is accepted is not too large
fitting : (net : Net) (codes : List ℕ) → length codes ≡ net.channels → IsAccepted (placed net codes) → Fitting net codes
fitting net codes e acc =
    let s = sizes_are net codes in
    record {
      each = e;
      blocks_fit = omega (arith, size-high (placed net codes) acc.0.fields);
      channels_fit = omega (arith, channels-high (placed net codes) acc.0.fields);
    }

-- what a placement delivers begins what some firings of the base net put
base_puts : (net : Net) (codes : List ℕ) → Joined net → MergeFree net → length codes ≡ net.channels → IsAccepted (placed net codes)
    → (ok : Bool) (words ends : List ℕ) (masks : List (ℕ × ℕ))
    → (G : List ℕ) × ((c : ℕ) → c < net.channels → IsPrefix (delivered ok (placed net codes) words ends masks c) (put net words ends G c))
base_puts net codes j free e acc ok words ends masks =
    let x : Extends net (placed net codes) = extends net codes j (fitting net codes e acc) in
    let F = guaranteed ok (placed net codes) words ends acc (x.free free) masks in
    let G = x.follow words ends (λ b. []) F.0 in
    (G.0, λ c h. subst (IsPrefix (delivered ok (placed net codes) words ends masks c)) (G.1 c h) (F.2 c (omega (arith, h, x.wider))))

pub placements_comparable : PlacementsComparable
placements_comparable net codes others j free e e' acc acc' ok ok' words ends masks masks' c h =
    let v : View = machine_of net words ends (λ b. []) in
    let G = base_puts net codes j free e acc ok words ends masks in
    let E = base_puts net others j free e' acc' ok' words ends masks' in
    beginnings_comparable v (machine_wired net words ends (λ b. []) j.fields j.joins) G.0 E.0 (start v) c
    (delivered ok (placed net codes) words ends masks c) (delivered ok' (placed net others) words ends masks' c) (G.1 c h) (E.1 c h)
