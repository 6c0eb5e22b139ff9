-- When the registers of one block are in shape (document 01, "A state is in shape when").
-- Assumes nothing.
use Rattle.std.specs.Prelude.{ℕ, ◌-◌, ◌^◌, Bool, true, cond, ◌&&◌, ◌||◌, ◌==◌, nat_le, nat_lt}
use Rattle.blocks.specs.Kinds.{Kind, source, sink, operator, constant, fork, mux, demux, merge, buffer, control, unused}
use Rattle.blocks.specs.declared.Reg.{Reg}

-- registers that no rule names
abbrev pub zero_reg : Reg → Bool
zero_reg r = r.word == 0 && r.marks == 0

-- a held mark of 0 or 1
abbrev pub source_reg : Reg → Bool
source_reg r = nat_le r.marks 1

-- a full mark of 0 or 1; an empty buffer's word is 0
abbrev pub buffer_reg : Reg → Bool
buffer_reg r = nat_le r.marks 1 && (r.marks == 1 || r.word == 0)

-- marks below 2^m - 1: not all copies have gone
abbrev pub fork_reg : ℕ → Reg → Bool
fork_reg m r = r.word == 0 && nat_lt r.marks (2 ^ m - 1)

-- a winner of 0 to m, marks of 0 to 2, and 0 without a winner
abbrev pub merge_reg : ℕ → Reg → Bool
merge_reg m r = (nat_le r.word m && nat_le r.marks 2) && cond (r.word == 0) (r.marks == 0) true

abbrev pub in_shape : Kind → Reg → Bool
in_shape (source xs) r = source_reg r
in_shape sink r = zero_reg r
in_shape (operator o) r = zero_reg r
in_shape (constant o c) r = zero_reg r
in_shape (fork m) r = fork_reg m r
in_shape (mux m) r = zero_reg r
in_shape (demux m) r = zero_reg r
in_shape (merge m cs) r = merge_reg m r
in_shape (buffer o) r = buffer_reg r
in_shape control r = buffer_reg r
in_shape unused r = zero_reg r
