-- Which m each kind takes, how many ports a block has, and which kinds have a value (document 01, "Blocks and ports" and "The stored form").
-- Assumes nothing.
use Rattle.std.specs.Prelude.{ℕ, ◌+◌, Bool, cond, ◌&&◌, ◌||◌, ◌==◌, nat_le, Option, Some, None}
use Rattle.blocks.specs.Kinds.{Kind, source, sink, operator, constant, fork, mux, demux, merge, buffer, control, unused}
use Rattle.blocks.specs.declared.Ports.{Ports}

-- the kind is at most 10, and m is in its range: an operation of 0 to 3 for kinds 2 and 3, 2 to 8 for kinds 4 to 7, else 0
abbrev pub m_ok : ℕ → ℕ → Bool
m_ok kind m =
    cond (nat_le kind 1) (m == 0)
    (cond (nat_le kind 3) (nat_le m 3)
    (cond (nat_le kind 7) (nat_le 2 m && nat_le m 8)
    (nat_le kind 10 && m == 0)))

abbrev pub inputs_of : ℕ → ℕ → ℕ
inputs_of kind m =
    cond (kind == 0) 0
    (cond (kind == 2) 2
    (cond (kind == 5) (m + 1)
    (cond (kind == 6) 2
    (cond (kind == 7) m 1))))

abbrev pub outputs_of : ℕ → ℕ → ℕ
outputs_of kind m =
    cond (kind == 1) 0
    (cond (kind == 4) m
    (cond (kind == 6) m
    (cond (kind == 7) 2 1)))

-- both counts
abbrev pub counts_of : ℕ → ℕ → Ports
counts_of kind m = record { inputs = inputs_of kind m; outputs = outputs_of kind m }

-- the port counts; an unused kind or m has none
unfoldable pub ports_of : ℕ → ℕ → Option Ports
ports_of kind m = cond (m_ok kind m) (Some (counts_of kind m)) None

abbrev pub input_count : Option Ports → ℕ
input_count (Some p) = p.inputs
input_count None = 0

abbrev pub output_count : Option Ports → ℕ
output_count (Some p) = p.outputs
output_count None = 0

-- an operator with a constant and a data buffer that starts full have a value
abbrev pub has_value : ℕ → Bool
has_value kind = kind == 3 || kind == 9

-- the same counts for a kind by name
abbrev pub n_in : Kind → ℕ
n_in (source xs) = inputs_of 0 0
n_in sink = inputs_of 1 0
n_in (operator o) = inputs_of 2 o
n_in (constant o v) = inputs_of 3 o
n_in (fork m) = inputs_of 4 m
n_in (mux m) = inputs_of 5 m
n_in (demux m) = inputs_of 6 m
n_in (merge m cs) = inputs_of 7 m
n_in (buffer o) = inputs_of 8 0
n_in control = inputs_of 10 0
n_in unused = 0

abbrev pub n_out : Kind → ℕ
n_out (source xs) = outputs_of 0 0
n_out sink = outputs_of 1 0
n_out (operator o) = outputs_of 2 o
n_out (constant o v) = outputs_of 3 o
n_out (fork m) = outputs_of 4 m
n_out (mux m) = outputs_of 5 m
n_out (demux m) = outputs_of 6 m
n_out (merge m cs) = outputs_of 7 m
n_out (buffer o) = outputs_of 8 0
n_out control = outputs_of 10 0
n_out unused = 0
