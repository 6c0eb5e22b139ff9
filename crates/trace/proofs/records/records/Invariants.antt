-- `trace::records::records` meets its contract. The loop's invariant: the records of the channels below c are the first k entries of the list, and head has the
-- count and channel c.
-- Assumes nothing.
use Prim.Native.Nat.{◌+◌, ◌*◌, ◌^◌}
use mathlib.Core.Path.{◌≡◌}
use Rattle.trace.specs.Records.{records_of, Listed}
use Rattle.trace.proofs.records.records.Given as goal

abbrev pub invariant-loop-c : goal.invariant-loop-c
invariant-loop-c l = record {
  head : l.head ≡ l.count * 2 ^ 39 + l.c * 2 ^ 32;
  listed : Listed (records_of l.count l.signals l.ready l.c) l.c l.k l.list;
}
