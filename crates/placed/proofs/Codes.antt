-- What a code adds, by its number, and the codes from one place on.
-- Assumes nothing.
use Prim.Native.Nat.{ℕ, zero, suc, ◌+◌, ◌*◌, ◌≤◌, ◌<◌}
use mathlib.Core.Path.{◌≡◌, refl, sym, ap, ◌∙◌, subst}
use mathlib.Core.Logic.{◌≢◌}
use mathlib.Core.List.{List, [], ◌∷◌}
use native.Mathlib.Omega.{arith}
use native.Mathlib.Numerals.{add-one}
use Rattle.std.proofs.Common.{sum_by}
use Rattle.std.proofs.lemmas.List.Sums.{sum_by-cons}
use lib.ListN.{length, get_or, drop, drop_of_length-le}
use lib.Seq.{drop-cons}
use Rattle.nets.specs.Verdict.{Joined}
use Rattle.blocks.specs.declared.Net.{Net}
use Rattle.placed.specs.Placed.{split, with_code, placed_from, placed, buffers_of, added}
use Rattle.placed.proofs.Placing.{code_sizes, code_joined}

pub adds_one : (k : ℕ) → k ≢ 0 → k ≤ 2 → buffers_of k ≡ 1
adds_one zero ne h = absurd (ne refl)
adds_one (suc zero) ne h = refl
adds_one (suc (suc zero)) ne h = refl
adds_one (suc (suc (suc k))) ne h = absurd (omega arith)

pub adds_two : (k : ℕ) → 2 < k → buffers_of k ≡ 2
adds_two zero h = absurd (omega arith)
adds_two (suc zero) h = absurd (omega arith)
adds_two (suc (suc zero)) h = absurd (omega arith)
adds_two (suc (suc (suc k))) h = refl

pub adds_small : (k : ℕ) → buffers_of k ≤ 2
adds_small zero = omega arith
adds_small (suc zero) = omega arith
adds_small (suc (suc zero)) = omega arith
adds_small (suc (suc (suc k))) = omega arith

pub both : (net : Net) (c k : ℕ) → 2 < k → with_code net c k ≡ split (split net c 8) net.channels 10
both net c zero h = absurd (omega arith)
both net c (suc zero) h = absurd (omega arith)
both net c (suc (suc zero)) h = absurd (omega arith)
both net c (suc (suc (suc k))) h = refl

module _ (codes : List ℕ) (i : ℕ) (h : i < length codes) where
  next : drop i codes ≡ get_or codes i 0 ∷ drop (i + 1) codes
  next = drop-cons codes i 0 h ∙ ap (λ (n : ℕ). get_or codes i 0 ∷ drop n codes) (sym (add-one i))

  pub added_next : added (drop i codes) ≡ buffers_of (get_or codes i 0) + added (drop (i + 1) codes)
  added_next = ap added next

  pub placed_next : (net : Net) → placed_from net i (drop i codes) ≡ placed_from (with_code net i (get_or codes i 0)) (i + 1) (drop (i + 1) codes)
  placed_next net =
      ap (placed_from net i) next ∙ ap (λ (n : ℕ). placed_from (with_code net i (get_or codes i 0)) n (drop (i + 1) codes)) (sym (add-one i))

module _ (codes : List ℕ) (i : ℕ) (h : length codes ≤ i) where
  pub added-done : added (drop i codes) ≡ 0
  added-done = ap added (drop_of_length-le codes h)

  pub placed-done : (net : Net) → placed_from net i (drop i codes) ≡ net
  placed-done net = ap (placed_from net i) (drop_of_length-le codes h)

-- the net after i codes, which passes the checks up to its loops, with a channel for each code and room for the rest
pub record Going (net : Net) (codes : List ℕ) (i : ℕ) (out : Net) : Type 0 where
  pub inside : i ≤ length codes
  pub joined : Joined out
  pub channels_there : length codes ≤ out.channels
  pub blocks_left : out.size + added (drop i codes) ≤ 64
  pub channels_left : out.channels + added (drop i codes) ≤ 128
  pub same : placed_from out i (drop i codes) ≡ placed net codes

module _ (net : Net) (codes : List ℕ) (i : ℕ) (out : Net) (g : Going net codes i out) (h : i < length codes) where
  pub going_room : (i < out.channels) × (out.size + buffers_of (get_or codes i 0) ≤ 64) × (out.channels + buffers_of (get_or codes i 0) ≤ 128)
  going_room = omega (arith, added_next codes i h, g.blocks_left, g.channels_left, g.channels_there)

  pub going_more : (new : Net) → new ≡ with_code out i (get_or codes i 0) → Going net codes (i + 1) new
  going_more new e =
      let s = code_sizes out i (get_or codes i 0) in
      let p = ap (λ (n : Net). n.size) e in
      let q = ap (λ (n : Net). n.channels) e in
      record {
        inside = omega arith;
        joined = subst Joined (sym e) (code_joined out i (get_or codes i 0) g.joined going_room.0 going_room.1 going_room.2);
        channels_there = omega (arith, g.channels_there, q, s);
        blocks_left = omega (arith, added_next codes i h, g.blocks_left, p, s);
        channels_left = omega (arith, added_next codes i h, g.channels_left, q, s);
        same = ap (λ (n : Net). placed_from n (i + 1) (drop (i + 1) codes)) e ∙ sym (placed_next codes i h out) ∙ g.same;
      }

pub added-small : (codes : List ℕ) → added codes ≤ 2 * length codes
added-small [] = omega arith
added-small (k ∷ ks) = omega (arith, adds_small k, added-small ks)

pub sum-added : (codes : List ℕ) → sum_by buffers_of codes ≡ added codes
sum-added [] = refl
sum-added (k ∷ ks) = sum_by-cons buffers_of k ks ∙ ap (λ (n : ℕ). buffers_of k + n) (sum-added ks)
