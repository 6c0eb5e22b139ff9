-- States as lists: a table read back, the registers of a state that is made of them, and when such a state is in shape. A fresh state is.
-- Assumes nothing.
use Prim.Native.Nat.{ℕ, zero, suc, ◌≤◌, ◌<◌}
use mathlib.Core.Path.{◌≡◌, refl, sym, ap, ◌∙◌, subst}
use mathlib.Core.Bool.{Bool, true, cond}
use mathlib.Core.List.{List, []}
use native.Mathlib.Omega.{arith}
use borrow.Author.Tests.{ltb-true, lt-ltb, le-leb}
use lib.Dec.{leb, ltb}
use lib.ListN.{length, get_or}
use lib.Seq.{ext_get_or}
use Rattle.blocks.specs.Folds.{all_below}
use Rattle.blocks.specs.Signals.{empty}
use Rattle.blocks.specs.Equations.{fresh_reg}
use Rattle.blocks.specs.Shape.{zero_reg, in_shape}
use Rattle.blocks.specs.declared.Reg.{Reg}
use Rattle.blocks.proofs.Folds.{and_both, all_in}
use Rattle.blocks.proofs.Options.{test}
use Rattle.blocks.proofs.Shapes.{shape_fresh}
use Rattle.nets.specs.Net.{block_at, fields_ok}
use Rattle.blocks.specs.declared.Net.{Net}
use Rattle.nets.proofs.Nets.{size-high, m-ok}
use Rattle.cycles.specs.Streams.{stream_of}
use Rattle.cycles.specs.Wires.{kind_at}
use Rattle.cycles.specs.State.{tab, regs_of, on_net, state_of, plain_kind, fresh_state, entry_shape, shape_ok}
use Rattle.blocks.proofs.Numbers.{fresh_plain, copies}

pub length-tab : {A : Type 0} (n : ℕ) (f : ℕ → A) → length (tab n f) ≡ n
unfolding tab
length-tab zero f = refl
length-tab (suc n) f = ap suc (length-tab n (λ i. f (suc i)))

pub get_d_tab : {A : Type 0} (n : ℕ) (f : ℕ → A) (d : A) (i : ℕ) → i < n → get_or (tab n f) i d ≡ f i
unfolding tab
get_d_tab zero f d i h = absurd (omega arith)
get_d_tab (suc n) f d zero h = refl
get_d_tab (suc n) f d (suc i) h = get_d_tab n (λ i. f (suc i)) d i (omega arith)

-- a list with a function's values is the list of them
pub tab_is : (n : ℕ) (f : ℕ → ℕ) (l : List ℕ) → length l ≡ n → ((i : ℕ) → i < n → get_or l i 0 ≡ f i) → l ≡ tab n f
tab_is n f l e h = ext_get_or 0 l (tab n f) (e ∙ sym (length-tab n f)) (λ i k. h i (omega arith) ∙ sym (get_d_tab n f 0 i (omega arith)))

module _ (net : Net) (count : ℕ) (r : ℕ → Reg) where
  -- the registers of an entry
  pub regs_on : (b : ℕ) → b < 64 → regs_of (state_of net count r) b ≡ on_net net r b
  regs_on b h = λ i. record { word = get_d_tab 64 (λ b. (on_net net r b).word) 0 b h i; marks = get_d_tab 64 (λ b. (on_net net r b).marks) 0 b h i }

  -- a state is in shape where the registers of the net's blocks are
  pub shape_of : count ≤ 1048576 → ((b : ℕ) → b < net.size → in_shape (plain_kind net b) (r b) ≡ true) → shape_ok net (state_of net count r) ≡ true
  unfolding shape_ok
  shape_of room good =
      and_both (leb count 1048576) (all_below (entry_shape net (state_of net count r)) 64) (le-leb count 1048576 room)
      (all_in (entry_shape net (state_of net count r)) 64 (λ b h.
      subst (λ (q : Reg). cond (ltb b net.size) (in_shape (plain_kind net b) q) (zero_reg q) ≡ true) (sym (regs_on b h))
      (test (ltb b net.size) (λ q. rw q (good b (ltb-true b net.size q))) (λ q. rw q))))

module _ (net : Net) (ok : fields_ok net ≡ true) where
  -- the registers of a block
  pub regs_of_lem : (count : ℕ) (r : ℕ → Reg) (b : ℕ) → b < net.size → regs_of (state_of net count r) b ≡ r b
  regs_of_lem count r b h =
      regs_on net count r b (omega (arith, size-high net ok)) ∙ ap (λ (t : Bool). cond t (r b) empty) (lt-ltb b net.size h)

  -- fresh registers by kind, whatever the streams
  pub fresh_regs : (words ends : List ℕ) (b : ℕ) → b < net.size → regs_of (fresh_state net) b ≡ fresh_reg (kind_at net words ends b)
  fresh_regs words ends b h =
      regs_of_lem 0 (λ b. fresh_reg (plain_kind net b)) b h
      ∙ sym (fresh_plain (block_at net b).m (block_at net b).value (stream_of net words ends b) (block_at net b).kind)

  pub fresh_shape : shape_ok net (fresh_state net) ≡ true
  fresh_shape =
      shape_of net 0 (λ b. fresh_reg (plain_kind net b)) (omega arith)
      (λ b h. shape_fresh (plain_kind net b) (copies (block_at net b).m (block_at net b).value [] (block_at net b).kind (m-ok net ok b h)))
