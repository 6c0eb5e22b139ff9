-- Questions over a net and its signals: what our own functions work out.
-- Assumes nothing.
use Rattle.std.specs.Prelude.{ℕ, ◌+◌, ◌-◌, ◌<◌, ◌≡◌, Bool, true, false, cond, not, ◌&&◌, ◌||◌, List, [], eqb, Some, None}
use Rattle.std.specs.Prelude.{Option as Answer}
use Rattle.std.proofs.Math.Option.{Option, none, some}
use Rattle.blocks.specs.Folds.{lowest}
use Rattle.blocks.specs.Ports.{m_ok, inputs_of}
use Rattle.blocks.specs.States.{reg_in}
use Rattle.blocks.specs.Words.{reach}
use Rattle.blocks.specs.Equations.{winner}
use Rattle.blocks.specs.Asking.{to_nobody, input_else, output_else, handed}
use Rattle.blocks.specs.declared.Block.{Block}
use Rattle.blocks.specs.declared.Net.{Net}
use Rattle.blocks.specs.declared.Ports.{Ports}
use Rattle.blocks.specs.declared.Sig.{Sig}
use Rattle.blocks.specs.declared.Reg.{Reg}
use Rattle.blocks.specs.declared.State.{State}
use Rattle.ports.specs.Places.{sig_at, ready_at, port_at, Ported}
use Rattle.passes.specs.Rows.{block_no, kind_no, m_no, in_no, out_no, kind_with, FitReg}
use Rattle.asking.specs.Questions.{goes_to, next_at}
use Rattle.asking.specs.declared.Next.{Next}

-- a port, as the code answers it
abbrev pub told : Option ℕ → Answer ℕ
told none = None
told (some t) = Some t

-- port i is the one that is answered
abbrev pub is_told : Answer ℕ → ℕ → Bool
is_told None i = false
is_told (Some t) i = eqb i t

-- the port that a mux, a demux or a merge has chosen; held: a merge's recorded winner
abbrev pub chosen_no : ℕ → ℕ → ℕ → (ℕ → Sig) → Option ℕ
chosen_no k m held x = cond (eqb k 7) (winner m x held) (cond (eqb k 5 || eqb k 6) (reach m (x 0).word) none)

-- whether input i is needed, and whether output j is looked at, by the chosen port; data input i of a mux is its input i + 1
abbrev pub needs_no : ℕ → Answer ℕ → ℕ → Bool
needs_no k ch i = cond (eqb k 5) (eqb i 0 || is_told ch (i - 1)) (cond (eqb k 7) (is_told ch i) true)

abbrev pub looks_no : ℕ → Answer ℕ → ℕ → Bool
looks_no k ch j = cond (eqb k 6) (is_told ch j) true

-- of inputs (side true) or of outputs
abbrev pub counts : Bool → ℕ → Answer ℕ → ℕ → Bool
counts side k ch i = cond side (needs_no k ch i) (looks_no k ch i)

-- an input lacks V; an output is V but not R
abbrev pub wanting : Bool → Bool → Bool → Bool
wanting side v y = cond side (not v) (v && not y)

-- the question can be handed to port i of this side, whose ports begin at port `first`
abbrev pub takes_it : Bool → Answer ℕ → ℕ → Block → List Sig → List Bool → ℕ → Bool
takes_it side ch first block signals ready i =
    counts side block.kind ch i && wanting side (sig_at signals (port_at block (first + i))).valid (ready_at ready (port_at block (first + i)))

-- to whom the question is handed, of so many ports
abbrev pub handed_by : ℕ → Ports → Answer ℕ → Block → List Sig → List Bool → Next
handed_by b ports ch block signals ready =
    goes_to (port_at block) (λ j. port_at block (ports.inputs + j)) b
    (input_else (lowest (takes_it true ch 0 block signals ready) ports.inputs)
    (output_else (lowest (takes_it false ch ports.inputs block signals ready) ports.outputs) to_nobody))

-- the same by the block's kind
abbrev pub handed_no : ℕ → Block → Reg → (ℕ → Sig) → (ℕ → Bool) → Next
handed_no b block r shows ready =
    goes_to (port_at block) (λ j. port_at block (inputs_of block.kind block.m + j)) b
    (handed (kind_with block []) r (λ i. shows (port_at block i)) (λ j. (shows (port_at block (inputs_of block.kind block.m + j))).valid)
    (λ j. ready (port_at block (inputs_of block.kind block.m + j))))

-- what block b answers
abbrev pub next_by : Net → State → List Sig → List Bool → Bool → ℕ → Next
next_by net state signals ready question b =
    next_at (kind_with (block_no net b) []) question b (reg_in state b) (in_no net b) (out_no net b) (sig_at signals) (ready_at ready)

-- block b is a block of the net, its registers in shape
pub record Row (net : Net) (state : State) (b : ℕ) : Type 0 where
  pub ported : Ported (block_no net b)
  pub low : b < 64
  pub sound : m_ok (kind_no net b) (m_no net b) ≡ true
  pub shape : FitReg (block_no net b) (reg_in state b)
