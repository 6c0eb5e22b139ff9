-- The equations of one block in one cycle, port by port, with no wiring (document 01, "One cycle", in its order). Each kind has what its outputs show, at
-- which inputs it is ready, and its next registers; `out_of`, `ready_of` and `next_of` gather them by kind.
-- r: its registers. x: what its inputs show. v, y: whether its outputs are valid and ready. t: whether its inputs are ready.
-- mask: a source's offer bit or a sink's ready bit.
-- Assumes nothing.
use Rattle.std.specs.Prelude.{ℕ, zero, suc, ◌+◌, ◌-◌, Bool, true, false, cond, not, ◌&&◌, ◌||◌, List, length, nat_eq, nat_lt, slice_index}
use Rattle.std.proofs.Math.Option.{Option, none, some}
use Rattle.blocks.specs.Folds.{one, all_below, lowest, bit, bits}
use Rattle.blocks.specs.Kinds.{Kind, source, sink, operator, constant, fork, mux, demux, merge, buffer, control, unused}
use Rattle.blocks.specs.Words.{operate, reach, merge_input}
use Rattle.blocks.specs.Signals.{shown, nothing, chosen, named, valid_at, empty, full}
use Rattle.blocks.specs.declared.Sig.{Sig}
use Rattle.blocks.specs.declared.Reg.{Reg}

-- an output delivers
abbrev pub went : (ℕ → Bool) → (ℕ → Bool) → ℕ → Bool
went v y j = v j && y j

-- ## Source: the word register is its position, the mark its held bit

-- valid when the position is below the stream's length and (held or the offer bit is set)
abbrev pub offers : ℕ → Reg → Bool → Bool
offers n r offer = nat_lt r.word n && (full r || offer)

abbrev pub source_out : List ℕ → Reg → Bool → Sig
source_out xs r offer = shown (offers (length xs) r offer) (slice_index xs r.word)

-- delivered: one position on, held 0; else held = V
abbrev pub source_next : Reg → Bool → Bool → Reg
source_next r v y = record { word = cond (v && y) (r.word + 1) r.word; marks = cond (v && y) 0 (one v) }

-- ## Operators

abbrev pub operator_out : ℕ → Sig → Sig → Sig
operator_out m a b = shown (a.valid && b.valid) (operate m a.word b.word)

abbrev pub constant_out : ℕ → ℕ → Sig → Sig
constant_out m value a = shown a.valid (operate m a.word value)

-- ## Copies, of a fork and of a merge's two sides: bit i of the marks says that copy i has gone

abbrev pub copy_out : Bool → Sig → Sig
copy_out gone a = shown (a.valid && not gone) a.word

-- copy i is done when its bit is set or it delivers
abbrev pub done_at : ℕ → (ℕ → Bool) → ℕ → Bool
done_at marks d i = bit i marks || d i

abbrev pub all_done : ℕ → ℕ → (ℕ → Bool) → Bool
all_done n marks d = all_below (done_at marks d) n

-- the marks with the bits that are delivered
abbrev pub gained : ℕ → ℕ → (ℕ → Bool) → ℕ
gained n marks d = bits (done_at marks d) n

-- ## Fork

abbrev pub fork_ready : ℕ → ℕ → Bool → (ℕ → Bool) → Bool
fork_ready m marks v d = v && all_done m marks d

-- when the input is ready, marks 0; else they gain the delivered bits
abbrev pub fork_next : Bool → ℕ → ℕ
fork_next taken gone = cond taken 0 gone

-- ## Mux and demux: `reach` names the selected port

abbrev pub mux_out : Sig → Sig → Sig
mux_out s a = shown (s.valid && a.valid) a.word

-- d: the output delivers. The select is input 0, and data input i is input suc i.
abbrev pub mux_ready : Option ℕ → Bool → ℕ → Bool
mux_ready o d zero = d
mux_ready o d (suc i) = d && named o (nat_eq i)

-- hit: this output is the selected one
abbrev pub demux_out : Sig → Sig → Bool → Sig
demux_out s a hit = shown (s.valid && (a.valid && hit)) a.word

-- ## Merge: the word register is 0 for no winner, else the winner's input number plus 1; marks bit 0 is the data side's, bit 1 the report's

-- the recorded winner, else the lowest-numbered valid input (a recorded number above m is out of shape, and no winner)
abbrev pub winner : ℕ → (ℕ → Sig) → ℕ → Option ℕ
winner m x zero = lowest (valid_at x) m
winner m x (suc t) = merge_input m t

-- what the winner's input shows
abbrev pub won : ℕ → Reg → (ℕ → Sig) → Sig
won m r x = chosen (winner m x r.word) x

-- the winner as the register has it
abbrev pub recorded : Option ℕ → ℕ
recorded none = 0
recorded (some t) = suc t

-- the report carries the winner's input number
abbrev pub report_of : Bool → ℕ → Sig
report_of v w = record { valid = v; word = w - 1 }

abbrev pub merge_out : ℕ → Reg → (ℕ → Sig) → ℕ → Sig
merge_out m r x zero = copy_out (bit 0 r.marks) (won m r x)
merge_out m r x (suc j) = copy_out (bit 1 r.marks) (report_of (won m r x).valid (recorded (winner m x r.word)))

abbrev pub merge_ready : ℕ → Reg → (ℕ → Sig) → (ℕ → Bool) → ℕ → Bool
merge_ready m r x d i = ((won m r x).valid && all_done 2 r.marks d) && named (winner m x r.word) (nat_eq i)

-- v: the winner's input is valid. Both sides done: registers 0; else the winner w is recorded, also when neither side went, with the sides that did.
abbrev pub merge_next : Reg → Bool → Bool → ℕ → ℕ → Reg
merge_next r v done w gone = cond v (cond done empty (record { word = w; marks = gone })) r

-- ## Data buffer

abbrev pub data_out : Reg → Sig
data_out r = shown (full r) r.word

abbrev pub data_ready : Reg → Bool → Bool
data_ready r y = not (full r) || y

-- when the input is ready it takes the incoming word or becomes empty
abbrev pub data_next : Reg → Sig → Bool → Reg
data_next r a t = cond t (record { word = cond a.valid a.word 0; marks = one a.valid }) r

-- ## Control buffer

-- full, it offers the stored word; empty, it passes input to output
abbrev pub control_out : Reg → Sig → Sig
control_out r a = cond (full r) (shown true r.word) (shown a.valid a.word)

abbrev pub control_ready : Reg → Bool
control_ready r = not (full r)

-- full, it empties when its output is ready; empty, it stores a word that is not taken
abbrev pub control_next : Reg → Sig → Bool → Reg
control_next r a y =
    cond (full r) (cond y empty r)
    (record { word = cond (a.valid && not y) a.word 0; marks = one (a.valid && not y) })

-- ## By kind

-- What a block offers at output j.
abbrev pub out_of : Kind → Bool → Reg → (ℕ → Sig) → ℕ → Sig
out_of (source xs) mask r x j = source_out xs r mask
out_of sink mask r x j = nothing
out_of (operator o) mask r x j = operator_out o (x 0) (x 1)
out_of (constant o c) mask r x j = constant_out o c (x 0)
out_of (fork m) mask r x j = copy_out (bit j r.marks) (x 0)
out_of (mux m) mask r x j = mux_out (x 0) (chosen (reach m (x 0).word) (λ t. x (suc t)))
out_of (demux m) mask r x j = demux_out (x 0) (x 1) (named (reach m (x 0).word) (nat_eq j))
out_of (merge m cs) mask r x j = merge_out m r x j
out_of (buffer o) mask r x j = data_out r
out_of control mask r x j = control_out r (x 0)
out_of unused mask r x j = nothing

-- Whether a block is ready at input i.
abbrev pub ready_of : Kind → Bool → Reg → (ℕ → Sig) → (ℕ → Bool) → (ℕ → Bool) → ℕ → Bool
ready_of (source xs) mask r x v y i = false
ready_of sink mask r x v y i = mask
ready_of (operator o) mask r x v y i = went v y 0
ready_of (constant o c) mask r x v y i = went v y 0
ready_of (fork m) mask r x v y i = fork_ready m r.marks (x 0).valid (went v y)
ready_of (mux m) mask r x v y i = mux_ready (reach m (x 0).word) (went v y 0) i
ready_of (demux m) mask r x v y i = named (reach m (x 0).word) (went v y)
ready_of (merge m cs) mask r x v y i = merge_ready m r x (went v y) i
ready_of (buffer o) mask r x v y i = data_ready r (y 0)
ready_of control mask r x v y i = control_ready r
ready_of unused mask r x v y i = false

-- The next registers.
abbrev pub next_of : Kind → Reg → (ℕ → Sig) → (ℕ → Bool) → (ℕ → Bool) → (ℕ → Bool) → Reg
next_of (source xs) r x t v y = source_next r (v 0) (y 0)
next_of sink r x t v y = r
next_of (operator o) r x t v y = r
next_of (constant o c) r x t v y = r
next_of (fork m) r x t v y = record { word = r.word; marks = fork_next (t 0) (gained m r.marks (went v y)) }
next_of (mux m) r x t v y = r
next_of (demux m) r x t v y = r
next_of (merge m cs) r x t v y =
    merge_next r (won m r x).valid (all_done 2 r.marks (went v y)) (recorded (winner m x r.word)) (gained 2 r.marks (went v y))
next_of (buffer o) r x t v y = data_next r (x 0) (t 0)
next_of control r x t v y = control_next r (x 0) (y 0)
next_of unused r x t v y = r

-- The registers of a block in a fresh state: zero, but a buffer of kind 9 is full with its value.
abbrev pub fresh_reg : Kind → Reg
fresh_reg (source xs) = empty
fresh_reg sink = empty
fresh_reg (operator o) = empty
fresh_reg (constant o c) = empty
fresh_reg (fork m) = empty
fresh_reg (mux m) = empty
fresh_reg (demux m) = empty
fresh_reg (merge m cs) = empty
fresh_reg (buffer none) = empty
fresh_reg (buffer (some w)) = record { word = w; marks = 1 }
fresh_reg control = empty
fresh_reg unused = empty
