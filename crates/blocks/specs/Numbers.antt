-- Document 01's number of each kind of block ("Blocks and ports").
-- Assumes nothing.
use Rattle.std.specs.Prelude.{ℕ}
use Rattle.blocks.specs.declared.Kind.{Kind}
use Rattle.blocks.specs.declared.Kind.TheVariants.{Source, Sink, Operator, Constant, Fork, Mux, Demux, Merge, Buffer, FullBuffer, Control}

abbrev pub kind_number : Kind → ℕ
kind_number Source = 0
kind_number Sink = 1
kind_number Operator = 2
kind_number Constant = 3
kind_number Fork = 4
kind_number Mux = 5
kind_number Demux = 6
kind_number Merge = 7
kind_number Buffer = 8
kind_number FullBuffer = 9
kind_number Control = 10
