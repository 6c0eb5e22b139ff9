-- The laws of a block's check and of the sides of its ports.
-- Assumes nothing.
use mathlib.Core.Path.{◌≡◌, ◌∙◌, ap}
use mathlib.Core.Bool.{Bool, true, false}
use Prim.Native.Nat.{ℕ, ◌+◌, ◌≤◌, ◌<◌}
use native.Mathlib.Omega.{arith}
use lib.Dec.{leb, ltb}
use borrow.Author.Tests.{lt-ltb, le-leb, ltb-true, leb-true}
use lib.ListN.{get_or}
use Rattle.blocks.specs.Ports.{m_ok, ports_of}
use Rattle.blocks.specs.declared.Ports.{Ports}
use Rattle.std.proofs.Common.{Some, None}
use Rattle.blocks.proofs.Folds.{and_1, and_2, and_both, all_at}
use Rattle.blocks.proofs.Counts.{in_use, in_use_lem, ten_ports}
use Rattle.nets.specs.Block.{ins, outs, on_side, port_ok, ports_ok, value_ok, block_ok}
use Rattle.blocks.specs.declared.Block.{Block}

-- ## The check

module _ (b : Block) (channels : ℕ) where
  pub block-unused : ports_of b.kind b.m ≡ None → block_ok b channels ≡ false
  unfolding block_ok
  block-unused e = rw (in_use_lem b.kind b.m ∙ ap in_use e)

  module _ (p : Ports) (e : ports_of b.kind b.m ≡ Some p) where
    pub block-value : value_ok b.kind b.value ≡ false → block_ok b channels ≡ false
    unfolding block_ok
    block-value v = rw (in_use_lem b.kind b.m ∙ ap in_use e, v)

    pub block-ports : value_ok b.kind b.value ≡ true → ports_ok b.ports (p.inputs + p.outputs) channels ≡ block_ok b channels
    unfolding block_ok ins outs
    block-ports v = rw (in_use_lem b.kind b.m ∙ ap in_use e, v, e)

-- the counts as numbers
module _ (b : Block) (p : Ports) (e : ports_of b.kind b.m ≡ Some p) where
  pub ins_of_lem : p.inputs ≡ ins b
  unfolding ins
  ins_of_lem = rw e

  pub all_of : p.inputs + p.outputs ≡ ins b + outs b
  unfolding ins outs
  all_of = rw e

-- ## The sides

module _ (b : Block) where
  -- a block has at most ten ports
  pub ports_ten : ins b + outs b ≤ 10
  unfolding ins outs
  ports_ten = ten_ports b.kind b.m

  pub ins-small : ins b ≤ 10
  ins-small = omega (arith, ports_ten)

  pub input_side : (j : ℕ) → j < ins b → on_side false b j ≡ true
  unfolding on_side
  input_side j h = lt-ltb j (ins b) h

  pub side_input : (j : ℕ) → on_side false b j ≡ true → j < ins b
  unfolding on_side
  side_input j e = ltb-true j (ins b) e

  pub output_side : (j : ℕ) → j < outs b → on_side true b (ins b + j) ≡ true
  unfolding on_side
  output_side j h =
      and_both (leb (ins b) (ins b + j)) (ltb (ins b + j) (ins b + outs b)) (le-leb (ins b) (ins b + j) (omega arith))
      (lt-ltb (ins b + j) (ins b + outs b) (omega arith))

  pub side_output : (j : ℕ) → on_side true b j ≡ true → (ins b ≤ j) × (j < ins b + outs b)
  unfolding on_side
  side_output j e =
      (leb-true (ins b) j (and_1 (leb (ins b) j) (ltb j (ins b + outs b)) e), ltb-true j (ins b + outs b) (and_2 (leb (ins b) j) (ltb j (ins b + outs b)) e))

  -- a port on either side is one of the block's ports
  pub side_used : (j : ℕ) (side : Bool) → on_side side b j ≡ true → j < ins b + outs b
  side_used j true e = (side_output j e).1
  side_used j false e = omega (arith, side_input j e)

  -- a port of the block names a channel below the count
  pub used_small : (channels : ℕ) → block_ok b channels ≡ true → (j : ℕ) → j < ins b + outs b → get_or b.ports j 0 < channels
  unfolding block_ok ports_ok
  used_small channels ok j h =
      let a : ports_ok b.ports (ins b + outs b) channels ≡ true =
      and_2 (value_ok b.kind b.value) (ports_ok b.ports (ins b + outs b) channels) (and_2 (m_ok b.kind b.m) _ ok) in
      let p : port_ok (get_or b.ports j 0) (ltb j (ins b + outs b)) channels ≡ true =
      all_at (λ k. port_ok (get_or b.ports k 0) (ltb k (ins b + outs b)) channels) 10 a j (omega (arith, ports_ten)) in
      ltb-true (get_or b.ports j 0) channels (rw (lt-ltb j (ins b + outs b) h) at p)

  pub port-small : (j channels : ℕ) (side : Bool) → block_ok b channels ≡ true → on_side side b j ≡ true → get_or b.ports j 0 < channels
  port-small j channels side ok s = used_small channels ok j (side_used j side s)
