-- The copies of a fork: put one after the other; and by what they show: one that has gone is not valid, and all are done exactly where none hinders.
-- Assumes nothing.
use Prim.Native.Nat.{ℕ, ◌+◌, ◌/◌, ◌^◌, ◌<◌}
use mathlib.Core.Path.{◌≡◌, refl, sym, ap, ◌∙◌}
use mathlib.Core.Bool.{Bool, true, false, not, ◌&&◌, ◌||◌}
use mathlib.Core.List.{List}
use Rattle.blocks.specs.Folds.{all_below, bit}
use Rattle.blocks.specs.Equations.{copy_out, done_at, fork_ready}
use Rattle.blocks.specs.declared.Block.{Block}
use Rattle.blocks.specs.declared.Sig.{Sig}
use Rattle.blocks.proofs.Folds.{all_same}
use Rattle.blocks.proofs.Bits.{bit-rest}
use Rattle.ports.specs.Places.{sig_at, ready_at, port_at, Apart, Put}
use Rattle.ports.specs.Worked.{Copied, GoneQuiet, free_at, went_at}
use Rattle.ports.proofs.ByKind.{put_port_more}

-- the first i copies of s have been put
abbrev pub CopiesPut : Block → ℕ → Sig → ℕ → (ℕ → Sig) → (ℕ → Sig) → Type 0
CopiesPut block marks s i before after = Put (λ j. port_at block (1 + j)) (λ j. copy_out (bit j marks) s) i before after

-- one copy more
pub copy_more : (block : Block) (m i marks rest : ℕ) (s : Sig) (f g h : ℕ → Sig) → Apart (λ j. port_at block (1 + j)) m → i < m → rest ≡ marks / 2 ^ i
    → CopiesPut block marks s i f g → Put (λ j. port_at block (1 + i + j)) (λ j. copy_out (bit 0 rest) s) 1 g h → CopiesPut block marks s (i + 1) f h
copy_more block m i marks rest s f g h apart l e p q =
    put_port_more block 1 m i (λ j. copy_out (bit j marks) s) f g h (copy_out (bit 0 rest) s) apart l p q
    (ap (λ (t : Bool). copy_out t s) (ap (bit 0) e ∙ bit-rest i marks))

-- a copy, gone or not, b, of an input that is valid or not, v: where it has gone, its own w is not valid
pub gone_quiet : (b v w : Bool) → w ≡ (v && not b) → (b && w) ≡ false
gone_quiet true true w e = e
gone_quiet true false w e = e
gone_quiet false v w e = refl

-- where the input is valid, a copy is done exactly where it does not hinder
done_free : (b w y : Bool) → w ≡ not b → (not w || y) ≡ (b || (w && y))
done_free true w y e = rw e
done_free false w y e = rw e

module _ (m marks : ℕ) (block : Block) (signals : List Sig) (copied : Copied m marks block signals) where
  pub copied_quiet : GoneQuiet m 1 marks block signals
  copied_quiet j h = gone_quiet (bit j marks) (sig_at signals (port_at block 0)).valid _ (copied j h)

  pub copied_ready : (ready : List Bool) (v : Bool) → v ≡ (sig_at signals (port_at block 0)).valid
      → (v && all_below (free_at block signals ready) m) ≡ fork_ready m marks v (went_at 1 block signals ready)
  copied_ready ready false e = refl
  copied_ready ready true e =
      all_same (free_at block signals ready) (done_at marks (went_at 1 block signals ready)) m
      (λ i h. done_free (bit i marks) _ (ready_at ready (port_at block (1 + i))) (rw (sym e) at (copied i h)))
