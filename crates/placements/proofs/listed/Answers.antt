-- `placements::listed` meets its contract: number after number; the loop's invariant is that the numbers below k that load are kept.
-- Assumes nothing.
use mathlib.Core.Path.{◌≡◌, sym, ◌∙◌, subst, subst₂}
use mathlib.Core.List.{List}
use Prim.Native.Nat.{ℕ, ◌+◌, ◌^◌, ◌<◌}
use native.Mathlib.Omega.{arith}
use Rattle.placements.specs.Listing.{loads}
use Rattle.placements.proofs.Digits.{power_small}
use Rattle.placements.proofs.Listings.{Kept, keeps_none, keeps-one, keeps_same, list_done}
use Rattle.placements.proofs.listed.Goals as goal
use Rattle.placements.proofs.listed.Goals.{then-loads_at, else-loads_at}

pub loop-k-init : goal.loop-k-init
loop-k-init c = keeps_none (loads c.args.net)

pub overflow_cast-numbers : goal.overflow_cast-numbers
overflow_cast-numbers c = omega (arith, c.power-k-end.ensures, power_small c.args.net.channels c.requires.channels_bound)

pub offset_bounds-numbers-count : goal.offset_bounds-numbers-count
offset_bounds-numbers-count c = omega (arith, c.power-k-end.ensures, power_small c.args.net.channels c.requires.channels_bound, c.loop-k.invariant.few)

pub bounds-numbers-count : goal.bounds-numbers-count
bounds-numbers-count c = omega (arith, c.power-k-end.ensures, power_small c.args.net.channels c.requires.channels_bound, c.loop-k.invariant.few)

pub loop-k-preserved : goal.loop-k-preserved
loop-k-preserved c =
    let l = c.loop-k in
    let net = c.args.net in
    let low : l.k < 4096 = omega (arith, c.power-k-end.ensures, power_small net.channels c.requires.channels_bound) in
    let after : List ℕ → ℕ → Type 0 = λ numbers count. Kept (loads net) (l.k + 1) count numbers in
    elim c.if-loads_at.branch [
      | then-loads_at w ↦
          subst₂ after (sym w.numbers-is) (sym w.count-is)
          (keeps-one (loads net) l.k l.count l.numbers l.invariant low (sym c.loads_at.ensures ∙ w.if-loads_at.true))
      | else-loads_at w ↦
          subst₂ after (sym w.numbers-is) (sym w.count-is)
          (keeps_same (loads net) l.k l.count l.numbers l.invariant (sym c.loads_at.ensures ∙ w.if-loads_at.false))
    ]

pub returns : goal.returns
returns c =
    let a = c.args in
    let l = c.loop-k in
    let all : l.k ≡ 4 ^ a.net.channels = omega (arith, c.power-k-end.ensures) in
    list_done a.net l.count l.numbers (subst (λ (k : ℕ). Kept (loads a.net) k l.count l.numbers) all l.invariant)
