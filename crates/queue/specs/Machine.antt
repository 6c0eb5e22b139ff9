-- The queue machine (document 01, "The queue machine"): each channel is a queue with no limit, and blocks fire one at a time in any order. What one block does
-- when it fires is `turn` of the crate blocks; the machine reads the net's own ports and nothing else of the circuit.
-- Assumes nothing.
use Rattle.std.specs.Prelude.{ℕ, zero, suc, ◌+◌, Bool, true, false, cond, List, [], ◌∷◌, ◌++◌, ltb, eqb}
use Rattle.std.proofs.Math.Option.{Option, none, some}
use Rattle.std.proofs.Math.ListN.{get_elem?}
use Rattle.blocks.specs.Kinds.{merge}
use Rattle.blocks.specs.Ports.{n_in, n_out}
use Rattle.blocks.specs.Firing.{Turn, turn, first}
use Rattle.nets.specs.Net.{block_at, is_kind}
use Rattle.blocks.specs.declared.Net.{Net}
use Rattle.cycles.specs.Wires.{View, kind_at, view_of}

-- By channel: all the words ever put, and how many of them have been taken; the queue is the rest. By block: how often it has fired, for a source its place
-- in its stream.
pub record Queues : Type 0 where
  pub puts : ℕ → List ℕ
  pub taken : ℕ → ℕ
  pub fired : ℕ → ℕ

-- f u where the test holds, else u
abbrev pub change {ℓ} : {A : Type ℓ} → Bool → (A → A) → A → A
change true f u = f u
change false f u = u

-- u after f j for every j of 0 to n - 1 whose port is on channel c, in that order
abbrev pub walk {ℓ} : {A : Type ℓ} → (ℕ → ℕ) → ℕ → ℕ → (ℕ → A → A) → A → A
walk port zero c f u = u
walk port (suc n) c f u = change (eqb (port n) c) (f n) (walk port n c f u)

-- the first word of the queue at input port i of block b
abbrev pub waiting : View → Queues → ℕ → ℕ → Option ℕ
waiting v s b i = get_elem? (s.puts (v.inp b i)) (s.taken (v.inp b i))

-- what block b does, if it is a block of the net and can fire
abbrev pub turn_of : View → Queues → ℕ → Option Turn
turn_of v s b = cond (ltb b v.blocks) (turn (v.kind b) (s.fired b) (waiting v s b)) none

-- the queues after block b has taken and put what t says
abbrev pub perform : View → ℕ → Turn → Queues → Queues
perform v b t s =
    record {
      puts = λ c. walk (v.out b) (n_out (v.kind b)) c (λ j l. l ++ t.gives j) (s.puts c);
      taken = λ c. walk (v.inp b) (n_in (v.kind b)) c (λ i n. n + t.takes i) (s.taken c);
      fired = λ x. change (eqb x b) suc (s.fired x);
    }

-- a block that can't fire changes nothing
abbrev pub after : View → ℕ → Queues → Option Turn → Queues
after v b s none = s
after v b s (some t) = perform v b t s

unfoldable pub fire : View → ℕ → Queues → Queues
fire v b s = after v b s (turn_of v s b)

-- a list of firings
abbrev pub run : View → List ℕ → Queues → Queues
run v [] s = s
run v (b ∷ l) s = run v l (fire v b s)

-- at start all queues are empty, but a block of kind 9 has put its value on its output
abbrev pub start : View → Queues
start v =
    record {
      puts = λ c. walk (λ b. v.out b 0) v.blocks c (λ b l. l ++ first (v.kind b)) [];
      taken = λ c. 0;
      fired = λ b. 0;
    }

-- the net over its streams as the machine reads it: as a cycle does, but each merge has its choices, one list for each block
abbrev pub machine_of : Net → List ℕ → List ℕ → (ℕ → List ℕ) → View
machine_of net words ends choices =
    record {
      blocks = net.size;
      channels = net.channels;
      kind = λ b. cond (is_kind net 7 b) (merge (block_at net b).m (choices b)) (kind_at net words ends b);
      inp = (view_of net words ends).inp;
      out = (view_of net words ends).out;
    }

-- all the words that the firings F put on channel c of the net over its streams, its merges with these choices; those at the start included
abbrev pub put_by : Net → List ℕ → List ℕ → (ℕ → List ℕ) → List ℕ → ℕ → List ℕ
put_by net words ends choices F c = (run (machine_of net words ends choices) F (start (machine_of net words ends choices))).puts c

-- the same without choices: no merge fires
abbrev pub put : Net → List ℕ → List ℕ → List ℕ → ℕ → List ℕ
put net words ends F c = put_by net words ends (λ b. []) F c
