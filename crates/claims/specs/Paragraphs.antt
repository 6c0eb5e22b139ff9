-- Section 5 of the standard (document 001), its paragraphs on the blocks: a record for each, and a field for each sentence, over the signals and registers of one block in
-- one cycle. `EachBlock` claims them of every block in every step that is not refused; proofs/Paragraphs.antt proves it. Its ready at an input is our R in, its emitted and
-- won registers are our marks and winner. Sinks are its environment's, and it says nothing of them.
-- Assumes nothing.
use Rattle.std.specs.Prelude.{ℕ, suc, ◌<◌, ◌≡◌, Bool, true, false, ◌&&◌, ◌||◌, ◌≢◌, List, length, get_or}
use Rattle.std.proofs.Math.Option.{some}
use Rattle.blocks.specs.Folds.{bit}
use Rattle.blocks.specs.Kinds.{Kind, source, sink, operator, constant, fork, mux, demux, merge, buffer, control, unused}
use Rattle.blocks.specs.Words.{operate, reach}
use Rattle.blocks.specs.Signals.{shown, empty, full}
use Rattle.blocks.specs.Equations.{winner}
use Rattle.blocks.specs.declared.Sig.{Sig}
use Rattle.blocks.specs.declared.Reg.{Reg}
use Rattle.blocks.specs.declared.Net.{Net}
use Rattle.nets.proofs.Decided.{accepted}
use Rattle.cycles.specs.Wires.{view_of, kind_at}
use Rattle.cycles.specs.Cycle.{signals_of}
use Rattle.cycles.specs.State.{regs_of}
use Rattle.blocks.specs.declared.State.{State}
use Rattle.sim.specs.Calls.{step_of}

-- One block in one cycle: what its inputs and outputs show and whether they are ready, and its registers before and after.
pub record BlockCycle : Type 0 where
  pub ins : ℕ → Sig
  pub ins_ready : ℕ → Bool
  pub outs : ℕ → Sig
  pub outs_ready : ℕ → Bool
  pub before : Reg
  pub next : Reg

module _ (c : BlockCycle) where
  -- output j delivers
  abbrev pub given : ℕ → Bool
  given j = (c.outs j).valid && c.outs_ready j

  -- "Each done bit becomes true if its emitted bit is true or if a valid token has been consumed by a ready on the output"
  abbrev pub done : ℕ → Bool
  done j = bit j c.before.marks || given j

  -- "The environmental inputs must also follow this protocol and hold valid data until it is ready to be consumed": a source over the stream xs.
  pub record Environment (xs : List ℕ) : Type 0 where
    pub holds-data : (c.outs 0).valid ≡ true → c.outs_ready 0 ≡ false → c.next ≡ record { word = c.before.word; marks = 1 }
    pub held-offers : full c.before ≡ true → c.before.word < length xs → c.outs 0 ≡ shown true (get_or xs c.before.word 0)

  -- The unit-rate actor: n inputs, and w the word that its function computes from theirs.
  pub record UnitRate (n w : ℕ) : Type 0 where
    -- "If all its inputs are valid, then .. the function block computes the next token in sequence on the output, which is made valid."
    pub computes : ((i : ℕ) → i < n → (c.ins i).valid ≡ true) → c.outs 0 ≡ shown true w
    -- "If, additionally, the output is ready, then the inputs are also made ready, indicating the input tokens have been consumed."
    pub consumes : given 0 ≡ true → (i : ℕ) → i < n → ((c.ins i).valid ≡ true) × (c.ins_ready i ≡ true)

  -- The multiplexer; input 0 is the select, and data port s is input suc s.
  pub record Multiplexer (m : ℕ) : Type 0 where
    -- "The value of the select token routes the data/valid signals from the appropriate input port .. If mixed is valid, then the output carries the proper value .. and
    -- is set valid."
    pub routes : (s : ℕ) → reach m (c.ins 0).word ≡ some s → (c.ins 0).valid ≡ true → (c.ins (suc s)).valid ≡ true → c.outs 0 ≡ shown true (c.ins (suc s)).word
    -- "If, additionally, the output is ready, then both the select input and the selected input are made ready
    pub consumes : (s : ℕ) → reach m (c.ins 0).word ≡ some s → given 0 ≡ true → (c.ins_ready 0 ≡ true) × (c.ins_ready (suc s) ≡ true)
    -- and no others."
    pub no-others : (i : ℕ) → i < m → reach m (c.ins 0).word ≢ some i → c.ins_ready (suc i) ≡ false

  -- The demultiplexer; input 0 is the select, input 1 the data.
  pub record Demultiplexer (m : ℕ) : Type 0 where
    -- "only if both the input and select inputs have a valid token is the decoder activated and the appropriate output made valid"
    pub decodes : (j : ℕ) → j < m → reach m (c.ins 0).word ≡ some j → (c.ins 0).valid ≡ true → (c.ins 1).valid ≡ true → c.outs j ≡ shown true (c.ins 1).word
    pub only_if : (j : ℕ) → j < m → (c.outs j).valid ≡ true → ((c.ins 0).valid ≡ true) × ((c.ins 1).valid ≡ true) × (reach m (c.ins 0).word ≡ some j)
    -- "If, furthermore, that output is also ready, then only then are both the input and select inputs marked ready."
    pub consumes : (j : ℕ) → j < m → given j ≡ true → (c.ins_ready 0 ≡ true) × (c.ins_ready 1 ≡ true)
    pub only_then : (i : ℕ) → i < 2 → c.ins_ready i ≡ true → (j : ℕ) × (reach m (c.ins 0).word ≡ some j) × (given j ≡ true)

  -- the merge's winner is input i, and its token is there
  abbrev pub Wins : ℕ → ℕ → Type 0
  Wins m i = (winner m c.ins c.before.word ≡ some i) × ((c.ins i).valid ≡ true)

  -- The nondeterministic merge; output 0 is its output port, output 1 its select port, and the emitted bit of port j is bit j of the marks.
  pub record Merging (m : ℕ) : Type 0 where
    -- "When the emitted and won registers are all zero, the arbiter decides which one, if any, of the valid inputs wins the arbitration." (Ours takes the first.)
    pub decides : c.before.word ≡ 0 → (i : ℕ) → i < m → (c.ins i).valid ≡ true → ((k : ℕ) → k < i → (c.ins k).valid ≡ false) → Wins m i
    pub if-any : c.before.word ≡ 0 → ((i : ℕ) → i < m → (c.ins i).valid ≡ false) → (j : ℕ) → j < 2 → (c.outs j).valid ≡ false
    -- "This causes correct, valid tokens to appear on both the output and select ports."
    pub appears : (i : ℕ) → Wins m i
        → (bit 0 c.before.marks ≡ false → c.outs 0 ≡ shown true (c.ins i).word) × (bit 1 c.before.marks ≡ false → c.outs 1 ≡ shown true i)
    -- "If both ports are ready, then fired is asserted, the winning input is also marked ready, and the emitted and won registers stay zero"; and later, "If ready is
    -- asserted on the non-emitted port, then fired will be asserted, the winning input will be made ready, the registers cleared, and the process repeats."
    pub fired : (i : ℕ) → Wins m i → done 0 ≡ true → done 1 ≡ true → (c.ins_ready i ≡ true) × (c.next ≡ empty)
    -- "If only one output port is ready, then fired will remain low, the ready output port will set its emitted bit and the won register will record the arbitration
    -- winner." (It does so too where neither is ready, which is not said there.)
    pub records : (i : ℕ) → Wins m i → (done 0 && done 1) ≡ false → (c.ins_ready i ≡ false) × (c.next.word ≡ suc i) × ((j : ℕ) → j < 2 → bit j c.next.marks ≡ done j)
    -- "In future cycles the token, if any, from the winning input port will continue to be routed to the output port and the corresponding value will be sent on select,
    pub continues : (i : ℕ) → i < m → c.before.word ≡ suc i → (c.ins i).valid ≡ true → Wins m i
    -- but the emitted register will suppress the valid signal on the already-ready port."
    pub suppresses : (j : ℕ) → j < 2 → bit j c.before.marks ≡ true → (c.outs j).valid ≡ false

  -- The data buffer.
  pub record DataBuffer : Type 0 where
    -- "Consider when the data buffer is empty. The output is invalid and the ready output is asserted."
    pub waits : full c.before ≡ false → ((c.outs 0).valid ≡ false) × (c.ins_ready 0 ≡ true)
    -- "If a valid token is proffered, then the token will be stored in the buffer at the end of the cycle"
    pub stores : c.ins_ready 0 ≡ true → (c.ins 0).valid ≡ true → c.next ≡ record { word = (c.ins 0).word; marks = 1 }
    -- "When the data buffer is full, valid is asserted."
    pub offers : full c.before ≡ true → c.outs 0 ≡ shown true c.before.word
    -- "If the downstream ready is false, then the upstream ready is false and the register will hold the token."
    pub keeps : full c.before ≡ true → c.outs_ready 0 ≡ false → (c.ins_ready 0 ≡ false) × (c.next ≡ c.before)
    -- "When the downstream ready is true, the upstream ready will be asserted and the token in the buffer will be overwritten. If a valid token was proffered, then it will
    -- be stored in the buffer." (`stores`; without one the buffer becomes empty.)
    pub overwrites : c.outs_ready 0 ≡ true → (c.ins_ready 0 ≡ true) × ((c.ins 0).valid ≡ false → c.next ≡ empty)

  -- The control buffer.
  pub record ControlBuffer : Type 0 where
    -- "If the control buffer is empty, then the input token/valid signal is simply copied to the output and the upstream ready is asserted."
    pub copies : full c.before ≡ false → (c.outs 0 ≡ shown (c.ins 0).valid (c.ins 0).word) × (c.ins_ready 0 ≡ true)
    -- "If the downstream does not assert ready, then the valid upstream token, if any, will be stored in the buffer for the next cycle."
    pub stores : full c.before ≡ false → (c.ins 0).valid ≡ true → c.outs_ready 0 ≡ false → c.next ≡ record { word = (c.ins 0).word; marks = 1 }
    -- "If the buffer is full, then the upstream ready is false and the valid token is proffered on the output."
    pub offers : full c.before ≡ true → (c.ins_ready 0 ≡ false) × (c.outs 0 ≡ shown true c.before.word)
    -- "If the downstream ready is true, then the buffer will be emptied in the next cycle."
    pub empties : full c.before ≡ true → c.outs_ready 0 ≡ true → c.next ≡ empty

  -- The fork.
  pub record Forking (m : ℕ) : Type 0 where
    -- "When the emitted register is zero, a valid token on the input becomes a valid token on each of the outputs."
    pub copies : (j : ℕ) → j < m → bit j c.before.marks ≡ false → (c.ins 0).valid ≡ true → c.outs j ≡ shown true (c.ins 0).word
    -- "If all the done signals are set, then the upstream ready is asserted and the emitted registers are all reset."
    pub consumes : (c.ins 0).valid ≡ true → ((j : ℕ) → j < m → done j ≡ true) → (c.ins_ready 0 ≡ true) × (c.next.marks ≡ 0)
    -- "Otherwise, each ready output sets its emitted bit in the next cycle."
    pub emitted : c.ins_ready 0 ≡ false → (j : ℕ) → j < m → bit j c.next.marks ≡ done j
    -- "These bits suppress the valid signal on each of the outputs that had already asserted ready with the current input token."
    pub suppresses : (j : ℕ) → j < m → bit j c.before.marks ≡ true → (c.outs j).valid ≡ false

  -- the paragraph of a kind
  abbrev pub Paragraph : Kind → Type 0
  Paragraph (source xs) = Environment xs
  Paragraph sink = Unit {0}
  Paragraph (operator o) = UnitRate 2 (operate o (c.ins 0).word (c.ins 1).word)
  Paragraph (constant o v) = UnitRate 1 (operate o (c.ins 0).word v)
  Paragraph (fork m) = Forking m
  Paragraph (mux m) = Multiplexer m
  Paragraph (demux m) = Demultiplexer m
  Paragraph (merge m cs) = Merging m
  Paragraph (buffer o) = DataBuffer
  Paragraph control = ControlBuffer
  Paragraph unused = Unit {0}

-- block b in the step from state s
abbrev pub block_cycle : Net → State → List ℕ → List ℕ → ℕ → ℕ → ℕ → BlockCycle
block_cycle net s words ends offer ready b =
    let v = view_of net words ends in
    let g = signals_of net words ends offer ready (regs_of s) in
    record {
      ins = λ i. g.shows (v.inp b i);
      ins_ready = λ i. g.ready (v.inp b i);
      outs = λ j. g.shows (v.out b j);
      outs_ready = λ j. g.ready (v.out b j);
      before = regs_of s b;
      next = regs_of (step_of net s words ends offer ready).state b;
    }

-- Every block of an accepted net, in every step that is not refused, does what its paragraph says.
abbrev pub EachBlock : Type 0
EachBlock =
    (net : Net) → accepted net ≡ true → (s : State) (words ends : List ℕ) (offer ready : ℕ) → (step_of net s words ends offer ready).refusal ≡ 0
    → (b : ℕ) → b < net.size → Paragraph (block_cycle net s words ends offer ready b) (kind_at net words ends b)
