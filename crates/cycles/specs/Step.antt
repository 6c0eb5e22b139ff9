-- What `fresh` and `step` answer, refusals in document 01's checking order (12, 13, 14, 15, 16). `ok` says whether the net value is accepted.
-- Assumes nothing.
use Rattle.std.specs.Prelude.{ℕ, ◌+◌, Bool, false, cond, not, List, ltb, eqb, replicate}
use Rattle.blocks.specs.Folds.{one}
use Rattle.blocks.specs.declared.Net.{Net}
use Rattle.cycles.specs.Streams.{ends_fit}
use Rattle.cycles.specs.Wires.{view_of}
use Rattle.cycles.specs.Cycle.{Signals, signals_of, next_at, moves}
use Rattle.cycles.specs.State.{tab, regs_of, state_of, fresh_state, shape_ok}
use Rattle.blocks.specs.declared.State.{State}
use Rattle.cycles.specs.declared.Stepped.{Stepped}

-- the refusal of a step (n = 1) or of a run of n cycles; odd: its mask list is odd
unfoldable pub refusal_by : Bool → Net → State → List ℕ → List ℕ → Bool → ℕ → ℕ
refusal_by ok net s words ends odd n =
    cond (not ok) 12
    (cond (not (shape_ok net s)) 13
    (cond (not (ends_fit net words ends)) 14
    (cond odd 15
    (cond (ltb 1048576 (s.count + n)) 16 0))))

-- the state handed in, nothing delivered
abbrev pub refused_step : ℕ → State → Stepped
refused_step n s = record { refusal = n; state = s; delivered = replicate 128 0; words = replicate 128 0 }

-- the state after a cycle with the signals g, its count one higher
abbrev pub state_after : Net → State → List ℕ → List ℕ → Signals → State
state_after net s words ends g = state_of net (s.count + 1) (next_at (view_of net words ends) g (regs_of s))

-- the step by its signals: 128 delivery marks and 128 words, zero where nothing moved
abbrev pub stepped_by : Net → State → List ℕ → List ℕ → Signals → Stepped
stepped_by net s words ends g =
    record {
      refusal = 0;
      state = state_after net s words ends g;
      delivered = tab 128 (λ c. one (moves net g c));
      words = tab 128 (λ c. cond (moves net g c) (g.shows c).word 0);
    }

unfoldable pub step_by : Bool → Net → State → List ℕ → List ℕ → ℕ → ℕ → Stepped
step_by ok net s words ends offer ready =
    cond (eqb (refusal_by ok net s words ends false 1) 0) (stepped_by net s words ends (signals_of net words ends offer ready (regs_of s)))
    (refused_step (refusal_by ok net s words ends false 1) s)

abbrev pub zero_state : State
zero_state = record { count = 0; words = replicate 64 0; marks = replicate 64 0 }

-- a refused fresh call (12) returns a zero state
abbrev pub fresh_by : Bool → Net → State
fresh_by ok net = cond ok (fresh_state net) zero_state
