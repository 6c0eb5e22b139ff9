-- The ends of the channels of a net whose fields and connections pass, worked out from the net alone: each channel has one place on either side, a port of
-- one block, and any port that names the channel is that one.
-- Assumes nothing.
use mathlib.Core.Path.{◌≡◌, refl, ap}
use mathlib.Core.Bool.{Bool, true, false, cond}
use mathlib.Core.Logic.{◌⊎◌, inl, inr}
use Prim.Native.Nat.{ℕ, zero, suc, ◌+◌, ◌*◌, ◌/◌, ◌%◌, ◌<◌}
use native.Mathlib.Omega.{arith}
use lib.Dec.{eqb}
use lib.ListN.{get_or}
use borrow.Author.Tests.{eqb-true, eq-eqb}
use Rattle.blocks.specs.Folds.{one, count_below}
use Rattle.blocks.proofs.Folds.{which, and_1, and_2, and_both, all_at, count_one}
use Rattle.nets.specs.Block.{ins, outs, on_side}
use Rattle.nets.specs.Net.{block_at, fields_ok, names_at, seek, place_of, port_count, joined, connected}
use Rattle.nets.specs.Loops.{HasPort}
use Rattle.nets.specs.Promises.{TheBlock}
use Rattle.blocks.specs.declared.Net.{Net}
use Rattle.nets.proofs.Blocks.{ports_ten, ins-small, input_side, output_side, used_small, port-small}
use Rattle.nets.proofs.Nets.{block_in}
use Rattle.nets.proofs.Wirings.{port_of_lem, one_block}

pub seek_finds : (f : ℕ → Bool) (n : ℕ) → 0 < count_below f n → (seek f n < n) × (f (seek f n) ≡ true)
unfolding count_below
seek_finds f zero h = absurd (omega arith)
seek_finds f (suc n) h = go (which (f n)) (seek_finds f n)
  where
    go : (f n ≡ true) ⊎ (f n ≡ false) → (0 < count_below f n → (seek f n < n) × (f (seek f n) ≡ true))
        → (cond (f n) n (seek f n) < suc n) × (f (cond (f n) n (seek f n)) ≡ true)
    go (inl q) rec = rw q (omega arith, q)
    go (inr q) rec =
        let r : (seek f n < n) × (f (seek f n) ≡ true) = rec (omega (arith, ap one q)) in
        rw q (omega (arith, r.0), r.1)

module _ (net : Net) (ok : fields_ok net ≡ true) where
  -- the ports of a block of the net name channels of the net
  pub inp_range : (b i : ℕ) → b < net.size → i < ins (block_at net b) → get_or (block_at net b).ports i 0 < net.channels
  inp_range b i hb hi = used_small (block_at net b) net.channels (block_in net ok b hb) i (omega arith)

  pub out_range : (b j : ℕ) → b < net.size → j < outs (block_at net b) → get_or (block_at net b).ports (ins (block_at net b) + j) 0 < net.channels
  out_range b j hb hj = used_small (block_at net b) net.channels (block_in net ok b hb) (ins (block_at net b) + j) (omega arith)

-- a block's inputs and outputs as ports of the net
module _ (net : Net) where
  pub has_input : (b i : ℕ) → b < net.size → i < ins (block_at net b) → HasPort net false (get_or (block_at net b).ports i 0) b
  has_input b i hb hi =
      record {
        port = i;
        in_net = hb;
        in_block = omega (arith, ins-small (block_at net b));
        on_side_lem = input_side (block_at net b) i hi;
        names = refl;
      }

  pub has_output : (b j : ℕ) → b < net.size → j < outs (block_at net b) → HasPort net true (get_or (block_at net b).ports (ins (block_at net b) + j) 0) b
  has_output b j hb hj =
      record {
        port = ins (block_at net b) + j;
        in_net = hb;
        in_block = omega (arith, ports_ten (block_at net b));
        on_side_lem = output_side (block_at net b) j hj;
        names = refl;
      }

module _ (net : Net) (ok : fields_ok net ≡ true) (joins : connected net ≡ true) where
  pub one_port : (side : Bool) (c : ℕ) → c < net.channels → port_count net side c ≡ 1
  unfolding connected
  one_port true c h = eqb-true (port_count net true c) 1 (and_1 (eqb (port_count net true c) 1) _ (all_at (joined net) net.channels joins c h))
  one_port false c h = eqb-true (port_count net false c) 1 (and_2 (eqb (port_count net true c) 1) _ (all_at (joined net) net.channels joins c h))

  -- the place of a channel's end is one
  pub place_is : (side : Bool) (c : ℕ) → c < net.channels → (place_of net side c < net.size * 10) × (names_at net side c (place_of net side c) ≡ true)
  unfolding port_count place_of
  place_is side c h = seek_finds (names_at net side c) (net.size * 10) (omega (arith, one_port side c h))

  -- and it is that of any port that names the channel
  pub place-only : (side : Bool) (b k : ℕ) → b < net.size → k < 10 → on_side side (block_at net b) k ≡ true → place_of net side (get_or (block_at net b).ports k 0) ≡ b * 10 + k
  unfolding port_count
  place-only side b k hb hk on =
      let c : ℕ = get_or (block_at net b).ports k 0 in
      let hc : c < net.channels = port-small (block_at net b) k net.channels side (block_in net ok b hb) on in
      let d : (b * 10 + k) / 10 ≡ b = omega (arith, hk) in
      let m : (b * 10 + k) % 10 ≡ k = omega (arith, hk) in
      let named : names_at net side c (b * 10 + k) ≡ true = (rw (d, m) (and_both (on_side side (block_at net b) k) (eqb c c) on (eq-eqb c c refl))) in
      let p = place_is side c hc in
      count_one (names_at net side c) (net.size * 10) (place_of net side c) (b * 10 + k) p.0 (omega (arith, hb, hk)) p.1 named (one_port side c hc)

  -- the one block at a channel's end
  pub the_end : (side : Bool) (c : ℕ) → c < net.channels → TheBlock net side c (place_of net side c / 10)
  the_end side c h =
      let p = place_is side c h in
      let has : HasPort net side c (place_of net side c / 10) = port_of_lem net side c (place_of net side c) p.0 p.1 in
      record { has = has; only = λ a q. one_block net side c a (place_of net side c / 10) (one_port side c h) q has }
