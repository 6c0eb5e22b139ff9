-- What a list of steps delivers, what a cycle offers (document 01, "The queue machine": "in step order, the words returned with a delivery mark for that channel"), and
-- which choices its merges make (request 2), read from the answers of `step_by`. `ok` says whether the net value is accepted: whoever steps a net knows it.
-- Assumes nothing.
use Rattle.std.specs.Prelude.{ℕ, zero, suc, Bool, cond, List, [], ◌∷◌, ◌++◌, eqb, get_or}
use Rattle.blocks.specs.Folds.{bit}
use Rattle.blocks.specs.declared.Reg.{Reg}
use Rattle.blocks.specs.declared.Net.{Net}
use Rattle.cycles.specs.Wires.{view_of}
use Rattle.cycles.specs.Cycle.{Signals, signals_of}
use Rattle.cycles.specs.State.{regs_of}
use Rattle.cycles.specs.Step.{step_by, fresh_by}
use Rattle.blocks.specs.declared.State.{State}
use Rattle.cycles.specs.declared.Stepped.{Stepped}

-- what a step is given beside the net and the state: streams and masks
pub record Input : Type 0 where
  pub words : List ℕ
  pub ends : List ℕ
  pub offer : ℕ
  pub ready : ℕ

abbrev pub step_on : Bool → Net → State → Input → Stepped
step_on ok net s n = step_by ok net s n.words n.ends n.offer n.ready

-- the word that a step returns with a delivery mark for channel c, if it does
abbrev pub marked : Stepped → ℕ → List ℕ
marked t c = cond (eqb (get_or t.delivered c 0) 1) (get_or t.words c 0 ∷ []) []

-- Steps one after another from state s, refused ones included: each gets the state that the last one returned.

-- the words delivered on channel c
abbrev pub delivered_from : Bool → Net → State → List Input → ℕ → List ℕ
delivered_from ok net s [] c = []
delivered_from ok net s (n ∷ ns) c = marked (step_on ok net s n) c ++ delivered_from ok net (step_on ok net s n).state ns c

-- the state that the last one returns
abbrev pub last_from : Bool → Net → State → List Input → State
last_from ok net s [] = s
last_from ok net s (n ∷ ns) = last_from ok net (step_on ok net s n).state ns

-- over one set of streams and a list of masks, offer and ready
abbrev pub over : List ℕ → List ℕ → List (ℕ × ℕ) → List Input
over words ends [] = []
over words ends (m ∷ ms) = record { words = words; ends = ends; offer = m.0; ready = m.1 } ∷ over words ends ms

-- the word, if any, that channel c shows as valid in a cycle
abbrev pub offered : Signals → ℕ → List ℕ
offered g c = cond (g.shows c).valid ((g.shows c).word ∷ []) []

-- from the fresh state, over one set of streams and a list of masks: the words delivered on channel c
abbrev pub delivered : Bool → Net → List ℕ → List ℕ → List (ℕ × ℕ) → ℕ → List ℕ
delivered ok net words ends masks c = delivered_from ok net (fresh_by ok net) (over words ends masks) c

-- the state that the last step returns
abbrev pub end_state : Bool → Net → List ℕ → List ℕ → List (ℕ × ℕ) → State
end_state ok net words ends masks = last_from ok net (fresh_by ok net) (over words ends masks)

-- the words delivered on channel c, then the word, if any, that is valid there in one more cycle with these masks
abbrev pub with_next : Bool → Net → List ℕ → List ℕ → List (ℕ × ℕ) → ℕ → ℕ → ℕ → List ℕ
with_next ok net words ends masks offer ready c =
    delivered ok net words ends masks c ++ offered (signals_of net words ends offer ready (regs_of (end_state ok net words ends masks))) c

-- ## The choices of merges
-- Request 2: "A merge's choices are the words delivered on its report channel, then the recorded winner less 1, if there is one and its report hasn't gone."

-- the channel at output 1 of block b: a merge's report channel
abbrev pub report : Net → ℕ → ℕ
report net b = (view_of net [] []).out b 1

-- by the word register, which is 0 for no winner, and by whether the report has gone
abbrev pub pending_of : ℕ → Bool → List ℕ
pending_of zero gone = []
pending_of (suc t) gone = cond gone [] (t ∷ [])

-- "the recorded winner less 1, if there is one and its report hasn't gone": mark 2, which is bit 1, is clear
abbrev pub pending : Reg → List ℕ
pending r = pending_of r.word (bit 1 r.marks)

-- the choices of block b over the whole list of steps
abbrev pub choices : Bool → Net → List ℕ → List ℕ → List (ℕ × ℕ) → ℕ → List ℕ
choices ok net words ends masks b = delivered ok net words ends masks (report net b) ++ pending (regs_of (end_state ok net words ends masks) b)
