-- One cycle of a net as a function (document 01, "One cycle": "V and word are worked out from the registers forward, then R backward; no V depends on an R").
-- What a channel shows is asked of the one block that it leaves, which asks the channels that it reads; whether a channel is ready is asked of the one block
-- that it enters, which asks the channels that it writes. As many questions in a row as the net has blocks are enough for an accepted net: `solves` and
-- `unique` (proofs/Solution.antt) say that the answers satisfy every block's equations, and that no other signals do.
-- Assumes nothing.
use Rattle.std.specs.Prelude.{ℕ, zero, suc, Bool, false, ◌&&◌, List, ltb}
use Rattle.blocks.specs.Signals.{nothing}
use Rattle.blocks.specs.Equations.{out_of, ready_of, next_of}
use Rattle.blocks.specs.declared.Sig.{Sig}
use Rattle.blocks.specs.declared.Reg.{Reg}
use Rattle.blocks.specs.declared.Net.{Net}
use Rattle.cycles.specs.Streams.{mask_of}
use Rattle.cycles.specs.Wires.{View, view_of, producer, out_port, consumer, in_port}

-- The signals of one cycle, by channel.
pub record Signals : Type 0 where
  pub shows : ℕ → Sig
  pub ready : ℕ → Bool

-- The ends of the channels, the mask bits and the registers are given.
module _ (v : View) (from fromPort to toPort : ℕ → ℕ) (mask : ℕ → Bool) (r : ℕ → Reg) where
  -- what channel c shows, by at most f questions in a row
  abbrev pub ask : ℕ → ℕ → Sig
  ask zero c = nothing
  ask (suc f) c = out_of (v.kind (from c)) (mask (from c)) (r (from c)) (λ i. ask f (v.inp (from c) i)) (fromPort c)

  -- whether channel c is ready, where the channels show x, by at most f questions in a row
  abbrev pub ask_ready : (ℕ → Sig) → ℕ → ℕ → Bool
  ask_ready x zero c = false
  ask_ready x (suc f) c =
      ready_of (v.kind (to c)) (mask (to c)) (r (to c)) (λ i. x (v.inp (to c) i)) (λ j. (x (v.out (to c) j)).valid) (λ j. ask_ready x f (v.out (to c) j)) (toPort c)

  unfoldable pub signals : ℕ → Signals
  signals f = record { shows = ask f; ready = ask_ready (ask f) f }

-- the next registers of block b, where the signals are g
abbrev pub next_at : View → Signals → (ℕ → Reg) → ℕ → Reg
next_at v g r b =
    next_of (v.kind b) (r b) (λ i. g.shows (v.inp b i)) (λ i. g.ready (v.inp b i)) (λ j. (g.shows (v.out b j)).valid) (λ j. g.ready (v.out b j))

-- the signals of a cycle of the net over its streams and masks, from the registers r
abbrev pub signals_of : Net → List ℕ → List ℕ → ℕ → ℕ → (ℕ → Reg) → Signals
signals_of net words ends offer ready r =
    signals (view_of net words ends) (producer net) (out_port net) (consumer net) (in_port net) (mask_of net offer ready) r (suc net.size)

-- a channel of the net delivers when it is valid and ready
abbrev pub moves : Net → Signals → ℕ → Bool
moves net g c = ltb c net.channels && ((g.shows c).valid && g.ready c)
