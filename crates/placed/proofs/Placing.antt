-- Buffers one after another: what holds of one buffer, and goes on from net to net, holds of a whole placement. So each net on the way passes the checks up to its loops.
-- Assumes nothing.
use Prim.Native.Nat.{ℕ, zero, suc, ◌+◌, ◌≤◌, ◌<◌}
use mathlib.Core.Path.{◌≡◌, refl}
use mathlib.Core.Logic.{inl, inr}
use mathlib.Core.List.{List, [], ◌∷◌}
use native.Mathlib.Omega.{arith}
use lib.ListN.{length}
use Rattle.nets.specs.Verdict.{Joined}
use Rattle.blocks.specs.declared.Net.{Net}
use Rattle.placed.specs.Placed.{split, with_code, placed_from, buffers_of, added}
use Rattle.placed.proofs.Moved.{Plain}
use Rattle.placed.proofs.Splitting.{split-joined}

-- ## Sizes

pub code_sizes : (net : Net) (c k : ℕ) → ((with_code net c k).size ≡ net.size + buffers_of k) × ((with_code net c k).channels ≡ net.channels + buffers_of k)
code_sizes net c zero = omega arith
code_sizes net c (suc zero) = omega arith
code_sizes net c (suc (suc zero)) = omega arith
code_sizes net c (suc (suc (suc k))) = omega arith

pub sizes : (net : Net) (c : ℕ) (ks : List ℕ) → ((placed_from net c ks).size ≡ net.size + added ks) × ((placed_from net c ks).channels ≡ net.channels + added ks)
sizes net c [] = omega arith
sizes net c (k ∷ ks) = omega (arith, code_sizes net c k, sizes (with_code net c k) (suc c) ks)

-- ## One buffer after another

-- what one buffer asks for: a net that passes, one of its channels, and room
pub record Room (net : Net) (c kind : ℕ) : Type 0 where
  pub plain : Plain kind
  pub joined : Joined net
  pub inside : c < net.channels
  pub blocks_fit : net.size < 64
  pub channels_fit : net.channels < 128

pub still_joined : (net : Net) (c kind : ℕ) → Room net c kind → Joined (split net c kind)
still_joined net c kind r = split-joined net c kind r.plain r.joined r.inside r.blocks_fit r.channels_fit

-- a relation of two nets that holds of a net and itself, of a net and the same with one buffer, and from net to net
pub record Grows (R : Net → Net → Type 0) : Type 0 where
  pub itself : (net : Net) → Joined net → R net net
  pub in_turn_lem : (a b d : Net) → R a b → R b d → R a d
  pub one_buffer : (net : Net) (c kind : ℕ) → Room net c kind → R net (split net c kind)

module _ (R : Net → Net → Type 0) (g : Grows R) where
  -- with what the net needs to grow on
  abbrev More : Net → Net → Type 0
  More net new = Joined new × R net new

  data_buffer : (net : Net) (c : ℕ) → Joined net → c < net.channels → net.size < 64 → net.channels < 128 → Room net c 8
  data_buffer net c j hc room wide = record { plain = inl refl; joined = j; inside = hc; blocks_fit = room; channels_fit = wide }

  control-buffer : (net : Net) (c : ℕ) → Joined net → c < net.channels → net.size < 64 → net.channels < 128 → Room net c 10
  control-buffer net c j hc room wide = record { plain = inr refl; joined = j; inside = hc; blocks_fit = room; channels_fit = wide }

  one : (net : Net) (c kind : ℕ) → Room net c kind → More net (split net c kind)
  one net c kind r = (still_joined net c kind r, g.one_buffer net c kind r)

  pub one_code : (net : Net) (c k : ℕ) → Joined net → c < net.channels → net.size + buffers_of k ≤ 64 → net.channels + buffers_of k ≤ 128
      → Joined (with_code net c k) × R net (with_code net c k)
  one_code net c zero j hc room wide = (j, g.itself net j)
  one_code net c (suc zero) j hc room wide = one net c 8 (data_buffer net c j hc (omega arith) (omega arith))
  one_code net c (suc (suc zero)) j hc room wide = one net c 10 (control-buffer net c j hc (omega arith) (omega arith))
  one_code net c (suc (suc (suc k))) j hc room wide =
      let p = one net c 8 (data_buffer net c j hc (omega arith) (omega arith)) in
      let q = one (split net c 8) net.channels 10 (control-buffer (split net c 8) net.channels p.0 (omega arith) (omega arith) (omega arith)) in
      (q.0, g.in_turn_lem net (split net c 8) (split (split net c 8) net.channels 10) p.1 q.1)

  -- the codes of channel c and of those after it
  pub all_codes : (net : Net) (c : ℕ) (ks : List ℕ) → Joined net → c + length ks ≤ net.channels → net.size + added ks ≤ 64 → net.channels + added ks ≤ 128
      → Joined (placed_from net c ks) × R net (placed_from net c ks)
  all_codes net c [] j fit room wide = (j, g.itself net j)
  all_codes net c (k ∷ ks) j fit room wide =
      let p = one_code net c k j (omega arith) (omega arith) (omega arith) in
      let q =
      all_codes (with_code net c k) (suc c) ks p.0 (omega (arith, code_sizes net c k)) (omega (arith, code_sizes net c k)) (omega (arith, code_sizes net c k)) in
      (q.0, g.in_turn_lem net (with_code net c k) (placed_from (with_code net c k) (suc c) ks) p.1 q.1)

-- ## The checks up to the loops

any_net : Grows (λ a b. Unit {0})
any_net = record { itself = λ net j. tt; in_turn_lem = λ a b d p q. tt; one_buffer = λ net c kind r. tt }

pub code_joined : (net : Net) (c k : ℕ) → Joined net → c < net.channels → net.size + buffers_of k ≤ 64 → net.channels + buffers_of k ≤ 128 → Joined (with_code net c k)
code_joined net c k j hc room wide = (one_code (λ a b. Unit {0}) any_net net c k j hc room wide).0

pub codes_joined : (net : Net) (codes : List ℕ) → Joined net → length codes ≤ net.channels → net.size + added codes ≤ 64 → net.channels + added codes ≤ 128
    → Joined (placed_from net 0 codes)
codes_joined net codes j fit room wide = (all_codes (λ a b. Unit {0}) any_net net 0 codes j (omega arith) room wide).0
