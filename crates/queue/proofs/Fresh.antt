-- A net's fresh registers against the start of its queue machine, kind by kind.
-- Assumes nothing.
use Prim.Native.Nat.{ℕ, ◌+◌, ◌<◌}
use mathlib.Core.Path.{◌≡◌, refl, sym, subst}
use mathlib.Core.List.{[]}
use mathlib.Core.Option.{none, some}
use native.Mathlib.Omega.{arith}
use lib.ListN.{length, get_elem?}
use Rattle.blocks.specs.Kinds.{Kind, source, sink, operator, constant, fork, mux, demux, merge, buffer, control, unused}
use Rattle.blocks.specs.Equations.{fresh_reg}
use Rattle.blocks.specs.Firing.{first}
use Rattle.blocks.specs.declared.Reg.{Reg}
use Rattle.cycles.specs.Wires.{View}
use Rattle.cycles.proofs.Wiring.{Wired}
use Rattle.queue.specs.Machine.{start}
use Rattle.queue.proofs.Sound.{start-sound}
use Rattle.queue.specs.History.{early}
use Rattle.queue.proofs.Cycle.{no_bits, held, Placed}
use Rattle.queue.proofs.Simulation.{Follow, Sim}

fresh_outs : (K : Kind) (j : ℕ) → 0 + held K (fresh_reg K) ≡ length (first K) + early K (fresh_reg K) j
fresh_outs (source xs) j = refl
fresh_outs sink j = refl
fresh_outs (operator o) j = refl
fresh_outs (constant o v) j = refl
fresh_outs (fork m) j = rw (no_bits j)
fresh_outs (mux m) j = refl
fresh_outs (demux m) j = refl
fresh_outs (merge m cs) j = rw (no_bits j)
fresh_outs (buffer none) j = refl
fresh_outs (buffer (some v)) j = refl
fresh_outs control j = refl
fresh_outs unused j = refl

fresh_held : (K : Kind) → held K (fresh_reg K) ≡ 1 → get_elem? (first K) 0 ≡ some (fresh_reg K).word
fresh_held (source xs) e = absurd (omega arith)
fresh_held sink e = absurd (omega arith)
fresh_held (operator o) e = absurd (omega arith)
fresh_held (constant o v) e = absurd (omega arith)
fresh_held (fork m) e = absurd (omega arith)
fresh_held (mux m) e = absurd (omega arith)
fresh_held (demux m) e = absurd (omega arith)
fresh_held (merge m cs) e = absurd (omega arith)
fresh_held (buffer none) e = absurd (omega arith)
fresh_held (buffer (some v)) e = refl
fresh_held control e = absurd (omega arith)
fresh_held unused e = absurd (omega arith)

fresh_placed : (K : Kind) → Placed K (fresh_reg K) 0
fresh_placed (source xs) = refl
fresh_placed sink = tt
fresh_placed (operator o) = tt
fresh_placed (constant o v) = tt
fresh_placed (fork m) = tt
fresh_placed (mux m) = tt
fresh_placed (demux m) = tt
fresh_placed (merge m cs) = refl
fresh_placed (buffer o) = tt
fresh_placed control = tt
fresh_placed unused = tt

follow_begin : (v : View) (b : ℕ) → Follow v (start v) (λ c. []) (fresh_reg (v.kind b)) b
follow_begin v b =
    record {
      done = 0;
      behind = omega arith;
      ins_at = λ i h. refl;
      outs_at = λ j h. fresh_outs (v.kind b) j;
      held_at_lem = λ j h e. fresh_held (v.kind b) e;
      placed = fresh_placed (v.kind b);
    }

-- the fresh registers, with nothing delivered, simulate the start
pub sim_begin : (v : View) (w : Wired v) (r : ℕ → Reg) → ((b : ℕ) → b < v.blocks → r b ≡ fresh_reg (v.kind b)) → Sim v (λ c. []) r (start v)
sim_begin v w r new =
    record {
      sound = start-sound v w;
      begins = λ c q. ((start v).puts c, refl);
      follow = λ b q. subst (λ (x : Reg). Follow v (start v) (λ c. []) x b) (sym (new b q)) (follow_begin v b);
    }
