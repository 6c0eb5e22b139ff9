-- The laws of a net's check of its fields.
-- Assumes nothing.
use mathlib.Core.Path.{◌≡◌}
use mathlib.Core.Bool.{true, false}
use Prim.Native.Nat.{ℕ, ◌≤◌, ◌<◌}
use lib.Dec.{leb}
use borrow.Author.Tests.{leb-true, lt-ltb}
use native.Mathlib.Omega.{arith}
use Rattle.blocks.specs.Folds.{all_below}
use Rattle.blocks.specs.Ports.{m_ok}
use Rattle.blocks.proofs.Folds.{and_both, and_1, and_2, and_false_1, and_false_2, all_at, all_fails, all_less}
use Rattle.nets.specs.Block.{block_ok}
use Rattle.nets.specs.Net.{block_at, sizes_ok, entry_at, fields_ok}
use Rattle.blocks.specs.declared.Net.{Net}

module _ (net : Net) where
  pub fields_sizes : sizes_ok net.size net.channels ≡ false → fields_ok net ≡ false
  unfolding fields_ok
  fields_sizes e = and_false_1 (sizes_ok net.size net.channels) (all_below (entry_at net) 64) e

  pub fields_entry : (i : ℕ) → i < 64 → entry_at net i ≡ false → fields_ok net ≡ false
  unfolding fields_ok
  fields_entry i h e = and_false_2 (sizes_ok net.size net.channels) (all_below (entry_at net) 64) (all_fails (entry_at net) 64 i h e)

  pub fields_in : sizes_ok net.size net.channels ≡ true → (i : ℕ) → 64 ≤ i → all_below (entry_at net) i ≡ true → fields_ok net ≡ true
  unfolding fields_ok
  fields_in e i h a =
      and_both (sizes_ok net.size net.channels) (all_below (entry_at net) 64) e (all_less (entry_at net) i 64 h a)

  -- what a net whose counts pass is known to have
  module _ (sizes : sizes_ok net.size net.channels ≡ true) where
    pub sizes-high : net.size ≤ 64
    sizes-high = leb-true net.size 64 (and_1 (leb net.size 64) _ (and_2 (leb 2 net.size) _ sizes))

    pub sizes-few : net.channels ≤ 128
    sizes-few =
        leb-true net.channels 128 (and_2 (leb 1 net.channels) _ (and_2 (leb net.size 64) _ (and_2 (leb 2 net.size) _ sizes)))

  -- what a net whose fields pass is known to have
  module _ (ok : fields_ok net ≡ true) where
    sizes : sizes_ok net.size net.channels ≡ true
    unfolding fields_ok
    sizes = and_1 (sizes_ok net.size net.channels) (all_below (entry_at net) 64) ok

    pub size-high : net.size ≤ 64
    size-high = sizes-high sizes

    pub channels-high : net.channels ≤ 128
    channels-high = sizes-few sizes

    pub block_in : (i : ℕ) → i < net.size → block_ok (block_at net i) net.channels ≡ true
    unfolding fields_ok
    block_in i h =
        let e : entry_at net i ≡ true = all_at (entry_at net) 64 (and_2 (sizes_ok net.size net.channels) _ ok) i (omega (arith, size-high)) in
        rw (lt-ltb i net.size h) at e

    pub m-ok : (i : ℕ) → i < net.size → m_ok (block_at net i).kind (block_at net i).m ≡ true
    unfolding block_ok
    m-ok i h = and_1 (m_ok (block_at net i).kind (block_at net i).m) _ (block_in i h)
