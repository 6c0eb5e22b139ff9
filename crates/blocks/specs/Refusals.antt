-- Why a call is refused, and the documents' number of each refusal.
-- Assumes nothing.
use Rattle.std.specs.Prelude.{ℕ}
use Rattle.blocks.specs.declared.Refusal.{Refusal}
use Rattle.blocks.specs.declared.Refusal.TheVariants.{Truncated, Edition, Counts, Kind, M, PortChannel, Rest, Connection, Ends, DataLoop, ControlLoop, Net, State, Streams, Masks, Cycles, Buffer, Codes, Room, Listing, Bay, Trace, List, Channel}

abbrev pub refusal_number : Refusal → ℕ
refusal_number Truncated = 1
refusal_number Edition = 2
refusal_number Counts = 3
refusal_number Kind = 4
refusal_number M = 5
refusal_number PortChannel = 6
refusal_number Rest = 7
refusal_number Connection = 8
refusal_number Ends = 9
refusal_number DataLoop = 10
refusal_number ControlLoop = 11
refusal_number Net = 12
refusal_number State = 13
refusal_number Streams = 14
refusal_number Masks = 15
refusal_number Cycles = 16
refusal_number Buffer = 17
refusal_number Codes = 18
refusal_number Room = 19
refusal_number Listing = 20
refusal_number Bay = 21
refusal_number Trace = 22
refusal_number List = 23
refusal_number Channel = 24
