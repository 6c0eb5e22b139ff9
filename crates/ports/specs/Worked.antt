-- What it is for a block to be worked out at its places: forward its outputs show what its equations say, backward its inputs are ready as they say.
-- Assumes nothing.
use Rattle.std.specs.Prelude.{ℕ, ◌+◌, ◌<◌, ◌≡◌, Bool, false, not, ◌&&◌, ◌||◌, List}
use Rattle.blocks.specs.Folds.{bit}
use Rattle.blocks.specs.Kinds.{Kind}
use Rattle.blocks.specs.Ports.{n_in, n_out}
use Rattle.blocks.specs.Equations.{out_of, ready_of, next_of}
use Rattle.blocks.specs.declared.Block.{Block}
use Rattle.blocks.specs.declared.Sig.{Sig}
use Rattle.blocks.specs.declared.Reg.{Reg}
use Rattle.ports.specs.Places.{sig_at, ready_at, port_at, Apart, Put}

-- input port i and output port j of a block of kind K
abbrev pub in_at : Block → ℕ → ℕ
in_at block i = port_at block i

abbrev pub out_at : Kind → Block → ℕ → ℕ
out_at K block j = port_at block (n_in K + j)

-- what the inputs show, whether the outputs are valid
abbrev pub ins_show : Block → (ℕ → Sig) → ℕ → Sig
ins_show block shows i = shows (in_at block i)

abbrev pub outs_valid : Kind → Block → (ℕ → Sig) → ℕ → Bool
outs_valid K block shows j = (shows (out_at K block j)).valid

abbrev pub outs_ready : Kind → Block → (ℕ → Bool) → ℕ → Bool
outs_ready K block ready j = ready (out_at K block j)

-- the outputs have been put: each shows what the block offers of its inputs as they were
abbrev pub Forward : Kind → Bool → Reg → Block → (ℕ → Sig) → (ℕ → Sig) → Type 0
Forward K mask r block before after = Put (out_at K block) (out_of K mask r (ins_show block before)) (n_out K) before after

-- readiness has been put on the inputs: as the block says of its outputs as they were
abbrev pub Backward : Kind → Bool → Reg → Block → (ℕ → Sig) → (ℕ → Bool) → (ℕ → Bool) → Type 0
Backward K mask r block shows before after =
    Put (in_at block) (ready_of K mask r (ins_show block shows) (outs_valid K block shows) (outs_ready K block before)) (n_in K) before after

-- the next registers, by the signals at the block's places
abbrev pub next_here : Kind → Reg → Block → (ℕ → Sig) → (ℕ → Bool) → Reg
next_here K r block shows ready =
    next_of K r (ins_show block shows) (λ i. ready (in_at block i)) (outs_valid K block shows) (outs_ready K block ready)

-- a block's outputs are at different places, and so are its inputs
abbrev pub OwnOutputs : Kind → Block → Type 0
OwnOutputs K block = Apart (out_at K block) (n_out K)

abbrev pub OwnInputs : Kind → Block → Type 0
OwnInputs K block = Apart (in_at block) (n_in K)

-- of n copies from port `first` on, one that has gone is not valid
abbrev pub GoneQuiet : ℕ → ℕ → ℕ → Block → List Sig → Type 0
GoneQuiet n first marks block signals = (j : ℕ) → j < n → (bit j marks && (sig_at signals (port_at block (first + j))).valid) ≡ false

-- each of a fork's m copies is valid exactly where the input is and the copy has not gone
abbrev pub Copied : ℕ → ℕ → Block → List Sig → Type 0
Copied m marks block signals =
    (i : ℕ) → i < m → (sig_at signals (port_at block (1 + i))).valid ≡ ((sig_at signals (port_at block 0)).valid && not (bit i marks))

-- whether copy i does not hinder its fork: it is not offered, or it is taken
abbrev pub free_at : Block → List Sig → List Bool → ℕ → Bool
free_at block signals ready i = not (sig_at signals (port_at block (1 + i))).valid || ready_at ready (port_at block (1 + i))

-- whether port first + j delivers
abbrev pub went_at : ℕ → Block → List Sig → List Bool → ℕ → Bool
went_at first block signals ready j = (sig_at signals (port_at block (first + j))).valid && ready_at ready (port_at block (first + j))
