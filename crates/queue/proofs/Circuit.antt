-- A cycle of a net as its blocks see it: the signals at a block's ports, every block's equations, and the words delivered.
-- Assumes nothing.
use Prim.Native.Nat.{ℕ, ◌<◌}
use mathlib.Core.Path.{◌≡◌}
use mathlib.Core.Bool.{Bool, cond, ◌&&◌}
use mathlib.Core.List.{List, [], ◌∷◌, ◌++◌}
use Rattle.blocks.specs.declared.Reg.{Reg}
use Rattle.cycles.specs.Wires.{View}
use Rattle.cycles.specs.Cycle.{Signals, next_at}
use Rattle.cycles.specs.Solved.{Solves}
use Rattle.queue.proofs.Cycle.{PortSignals, Works}

abbrev pub ports_at : View → Signals → ℕ → PortSignals
ports_at v g b = record { in_sig = λ i. g.shows (v.inp b i); in_r = λ i. g.ready (v.inp b i); out_sig = λ j. g.shows (v.out b j); out_r = λ j. g.ready (v.out b j) }

-- one cycle, from the registers r to r'
abbrev pub Cycles : View → (ℕ → Bool) → Signals → (ℕ → Reg) → (ℕ → Reg) → Type 0
Cycles v mask g r r' = (b : ℕ) → b < v.blocks → Works (v.kind b) (mask b) (ports_at v g b) (r b) (r' b)

pub cycles : (v : View) (mask : ℕ → Bool) (g : Signals) (r r' : ℕ → Reg) → Solves v mask r g.shows g.ready → ((b : ℕ) → b < v.blocks → r' b ≡ next_at v g r b)
    → Cycles v mask g r r'
cycles v mask g r r' s next b h = record { showing = λ j q. s.showing b j h q; taking = λ i q. s.taking b i h q; going = next b h }

-- the words, none or one, that a cycle delivers on channel c
abbrev pub moved : Signals → ℕ → List ℕ
moved g c = cond ((g.shows c).valid && g.ready c) ((g.shows c).word ∷ []) []

-- the words delivered, with those of one more cycle
abbrev pub deliver : Signals → (ℕ → List ℕ) → ℕ → List ℕ
deliver g D c = D c ++ moved g c
