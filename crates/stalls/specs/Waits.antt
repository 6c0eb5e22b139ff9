-- What is promised of a chain (change request 9): its channels wait, each is handed on by the rules to the next, and its ending is what its name says.
-- Assumes nothing.
use Rattle.std.specs.Prelude.{ℕ, ◌≤◌, ◌<◌, ◌≡◌, Bool, true, false, cond, not, List, [], ◌∷◌, ◌++◌, ◌⊎◌, length, get_or, Option, Some}
use Rattle.blocks.specs.declared.Reg.{Reg}
use Rattle.blocks.specs.declared.Net.{Net}
use Rattle.cycles.specs.Streams.{mask_of}
use Rattle.cycles.specs.Wires.{view_of, out_port, in_port}
use Rattle.cycles.specs.Cycle.{Signals, signals_of, moves}
use Rattle.cycles.specs.State.{regs_of}
use Rattle.blocks.specs.declared.State.{State}
use Rattle.sim.specs.Calls.{step_of}
use Rattle.asking.specs.Endings.{ending_at, EndsAt}
use Rattle.asking.specs.Questions.{asks}
use Rattle.chains.specs.Chain.{Trail, no_trail}
use Rattle.asking.specs.declared.Ending.{Ending}
use Rattle.asking.specs.declared.Ending.TheVariants.{Circle}
use Rattle.asking.specs.declared.Next.{Next}
use Rattle.asking.specs.declared.Next.TheVariants.{End}
use Rattle.stalls.specs.Calls.{asked_of, next_over, chain_of, answer_of, follow_of}

-- ## Lists

abbrev pub Each : (ℕ → Type 0) → List ℕ → Type 0
Each P [] = Unit {0}
Each P (x ∷ xs) = P x × Each P xs

-- each channel of the list stands there once
abbrev pub Once : List ℕ → Type 0
Once [] = Unit {0}
Once (x ∷ xs) = Each (λ y. y ≡ x → ⊥) xs × Once xs

-- c stands in the list
abbrev pub Stands : ℕ → List ℕ → Type 0
Stands c [] = ⊥
Stands c (x ∷ xs) = (c ≡ x) ⊎ Stands c xs

-- ## A chain by the rules

-- From channel c, asked for its word (q true) or for readiness after the channels `before` (the last one first), the rules name the channels xs one after another, and then
-- end with e: no further channel, or one that is met again.
abbrev pub Runs : (Bool → ℕ → Next) → List ℕ → Bool → ℕ → List ℕ → Option Ending → Type 0
Runs next before q c [] e =
    ((a : Ending) × (next q c ≡ End a) × (e ≡ Some a)) ⊎ ((p : Bool) × (x : ℕ) × (next q c ≡ asks p x) × (e ≡ Some (Circle x)) × Stands x (c ∷ before))
Runs next before q c (x ∷ xs) e = (p : Bool) × (next q c ≡ asks p x) × Runs next (c ∷ before) p x xs e

-- the chain t from channel c, where the signals are g
pub record Waits (net : Net) (g : Signals) (next : Bool → ℕ → Next) (c : ℕ) (t : Trail) : Type 0 where
  -- its channels are the net's, and none of them delivers
  pub waiting : Each (λ x. (x < net.channels) × (moves net g x ≡ false)) t.channels
  pub once : Once t.channels
  pub few : length t.channels ≤ net.channels
  -- empty where the beginning channel delivers
  pub empty : moves net g c ≡ true → t ≡ no_trail
  -- else it begins there: the channel is asked for its word if it lacks V, else for readiness, and each channel is handed on by the rules to the next
  pub begins : moves net g c ≡ false → (rest : List ℕ) × (t.channels ≡ c ∷ rest) × Runs next [] (not (g.shows c).valid) c rest t.ending

-- ## How it ends

-- the port at which a channel meets the block that is asked
abbrev pub port_of : Net → Bool → ℕ → ℕ
port_of net word x = cond word (out_port net x) (in_port net x)

-- The last channel of the chain is asked for its word or for readiness, and the block that is asked, which the ending names, is as the ending's name says.
pub record EndsAtBlock (net : Net) (words ends : List ℕ) (offer ready : ℕ) (g : Signals) (r : ℕ → Reg) (t : Trail) : Type 0 where
  pub word : Bool
  pub front : List ℕ
  pub last : ℕ
  pub in_order : t.channels ≡ front ++ (last ∷ [])
  pub lacks : cond word ((g.shows last).valid ≡ false) (((g.shows last).valid ≡ true) × (g.ready last ≡ false))
  pub inside : asked_of net word last < net.size
  pub named : ending_at t.ending ≡ asked_of net word last
  pub how : Ending
  pub is : t.ending ≡ Some how
  pub so :
      EndsAt ((view_of net words ends).kind (asked_of net word last)) (mask_of net offer ready (asked_of net word last)) (r (asked_of net word last))
      (λ i. g.shows ((view_of net words ends).inp (asked_of net word last) i)) (λ j. (g.shows ((view_of net words ends).out (asked_of net word last) j)).valid)
      (λ j. g.ready ((view_of net words ends).out (asked_of net word last) j)) word (port_of net word last) how

-- a channel of the chain is met again, or it ends at a block
abbrev pub EndsSo : Net → List ℕ → List ℕ → ℕ → ℕ → Signals → (ℕ → Reg) → Trail → Type 0
EndsSo net words ends offer ready g r t = ((x : ℕ) × (t.ending ≡ Some (Circle x)) × Stands x t.channels) ⊎ EndsAtBlock net words ends offer ready g r t

-- ## Of every call that is not refused

abbrev pub OfEveryAnswer : (Net → State → List ℕ → List ℕ → ℕ → ℕ → ℕ → Type 0) → Type 0
OfEveryAnswer P =
    (net : Net) (s : State) (words ends : List ℕ) (offer ready c : ℕ) → (follow_of net s words ends offer ready c).refusal ≡ 0 → P net s words ends offer ready c

-- it answers the chain
abbrev pub Answers : Type 0
Answers = OfEveryAnswer (λ net s words ends offer ready c. follow_of net s words ends offer ready c ≡ answer_of net s words ends offer ready c)

-- "the channels in order, each once"
abbrev pub ChainWaits : Type 0
ChainWaits =
    OfEveryAnswer (λ net s words ends offer ready c.
    Waits net (signals_of net words ends offer ready (regs_of s)) (next_over net words ends (signals_of net words ends offer ready (regs_of s)) (regs_of s)) c
    (chain_of net s words ends offer ready c))

-- "and which ending, with its block or, for a circle, the channel met again"; a channel that delivers has no chain
abbrev pub ChainEnds : Type 0
ChainEnds =
    OfEveryAnswer (λ net s words ends offer ready c.
    moves net (signals_of net words ends offer ready (regs_of s)) c ≡ false
    → EndsSo net words ends offer ready (signals_of net words ends offer ready (regs_of s)) (regs_of s) (chain_of net s words ends offer ready c))

-- what waits in these signals has no delivery mark in the answer of the step itself
abbrev pub NotDelivered : Type 0
NotDelivered =
    (net : Net) (s : State) (words ends : List ℕ) (offer ready x : ℕ) → x < 128 → moves net (signals_of net words ends offer ready (regs_of s)) x ≡ false
    → get_or (step_of net s words ends offer ready).delivered x 0 ≡ 0
