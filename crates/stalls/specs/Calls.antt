-- What the call `follow` answers (change request 9): the chain over the signals of the very cycle that `step` would work, and its refusals.
-- Assumes nothing.
use Rattle.std.specs.Prelude.{ℕ, Bool, false, cond, not, List, map, leb, eqb, length, replicate, None}
use Rattle.std.proofs.lemmas.List.Edits.{sets}
use Rattle.blocks.specs.Signals.{valid_at}
use Rattle.blocks.specs.declared.Reg.{Reg}
use Rattle.blocks.specs.declared.Net.{Net}
use Rattle.nets.proofs.Decided.{accepted}
use Rattle.cycles.specs.Streams.{ends_fit}
use Rattle.cycles.specs.Wires.{view_of, producer, consumer}
use Rattle.cycles.specs.Cycle.{Signals, signals_of}
use Rattle.cycles.specs.State.{regs_of, shape_ok}
use Rattle.blocks.specs.declared.State.{State}
use Rattle.asking.specs.Questions.{next_at}
use Rattle.chains.specs.Chain.{Trail, chain_from}
use Rattle.asking.specs.declared.Next.{Next}
use Rattle.stalls.specs.declared.Chain.{Chain}

-- who is asked: "its producer" for a word, "its consumer" for readiness
abbrev pub asked_of : Net → Bool → ℕ → ℕ
asked_of net word c = cond word (producer net c) (consumer net c)

-- what that block answers, where the signals are g and the registers r
abbrev pub next_over : Net → List ℕ → List ℕ → Signals → (ℕ → Reg) → Bool → ℕ → Next
next_over net words ends g r word c =
    next_at ((view_of net words ends).kind (asked_of net word c)) word (asked_of net word c) (r (asked_of net word c))
    ((view_of net words ends).inp (asked_of net word c)) ((view_of net words ends).out (asked_of net word c)) g.shows g.ready

-- the chain from channel c, where the signals are g
abbrev pub chain_in : Net → List ℕ → List ℕ → Signals → (ℕ → Reg) → ℕ → Trail
chain_in net words ends g r c = chain_from (next_over net words ends g r) (g.shows c).valid (g.ready c) c

-- the chain from channel c in the cycle that a step would work
abbrev pub chain_of : Net → State → List ℕ → List ℕ → ℕ → ℕ → ℕ → Trail
chain_of net s words ends offer ready c = chain_in net words ends (signals_of net words ends offer ready (regs_of s)) (regs_of s) c

-- "24 when the channel number is at or above the count, checked after 14; 16 isn't checked"
unfoldable pub chain_refusal : Bool → Net → State → List ℕ → List ℕ → ℕ → ℕ
chain_refusal ok net s words ends c =
    cond (not ok) 12
    (cond (not (shape_ok net s)) 13
    (cond (not (ends_fit net words ends)) 14
    (cond (leb net.channels c) 24 0)))

-- "the channels in order", then zeros; their count; v: whether each has V; "and which ending"
abbrev pub chain_by : (ℕ → Bool) → Trail → Chain
chain_by v t =
    record {
      refusal = 0;
      count = length t.channels;
      channels = sets (replicate 128 0) 0 t.channels;
      valid = sets (replicate 128 false) 0 (map v t.channels);
      ending = t.ending;
    }

abbrev pub no_chain : ℕ → Chain
no_chain n = record { refusal = n; count = 0; channels = replicate 128 0; valid = replicate 128 false; ending = None }

abbrev pub answer_of : Net → State → List ℕ → List ℕ → ℕ → ℕ → ℕ → Chain
answer_of net s words ends offer ready c =
    chain_by (valid_at (signals_of net words ends offer ready (regs_of s)).shows) (chain_of net s words ends offer ready c)

unfoldable pub follow_by : Bool → Net → State → List ℕ → List ℕ → ℕ → ℕ → ℕ → Chain
follow_by ok net s words ends offer ready c =
    cond (eqb (chain_refusal ok net s words ends c) 0) (answer_of net s words ends offer ready c) (no_chain (chain_refusal ok net s words ends c))

unfoldable pub follow_of : Net → State → List ℕ → List ℕ → ℕ → ℕ → ℕ → Chain
follow_of net s words ends offer ready c = follow_by (accepted net) net s words ends offer ready c
