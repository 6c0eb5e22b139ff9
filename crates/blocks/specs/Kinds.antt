-- The kinds of block, by document 01's numbers and by name ("Blocks and ports").
-- Assumes nothing.
use Rattle.std.specs.Prelude.{ℕ, zero, suc, List, []}
use Rattle.std.proofs.Math.Option.{Option, none, some}

-- A block with all that document 01 says of it but its channels: m or its operation, its value, and for a source the words of its stream.
-- A merge of the queue machine has its choices (request 2); the equations of a cycle do not read them.
-- A data buffer has the word that it starts with: none for kind 8, its value for kind 9. `unused` stands for the numbers above 10.
pub data Kind : Type 0 where
  source : List ℕ → Kind
  sink : Kind
  operator : ℕ → Kind
  constant : ℕ → ℕ → Kind
  fork : ℕ → Kind
  mux : ℕ → Kind
  demux : ℕ → Kind
  merge : ℕ → List ℕ → Kind
  buffer : Option ℕ → Kind
  control : Kind
  unused : Kind

-- From the number, m, value and stream; a merge has no choices yet.
abbrev pub kind_of : ℕ → ℕ → ℕ → List ℕ → Kind
kind_of zero m value xs = source xs
kind_of (suc zero) m value xs = sink
kind_of (suc (suc zero)) m value xs = operator m
kind_of (suc (suc (suc zero))) m value xs = constant m value
kind_of (suc (suc (suc (suc zero)))) m value xs = fork m
kind_of (suc (suc (suc (suc (suc zero))))) m value xs = mux m
kind_of (suc (suc (suc (suc (suc (suc zero)))))) m value xs = demux m
kind_of (suc (suc (suc (suc (suc (suc (suc zero))))))) m value xs = merge m []
kind_of (suc (suc (suc (suc (suc (suc (suc (suc zero)))))))) m value xs = buffer none
kind_of (suc (suc (suc (suc (suc (suc (suc (suc (suc zero))))))))) m value xs = buffer (some value)
kind_of (suc (suc (suc (suc (suc (suc (suc (suc (suc (suc zero)))))))))) m value xs = control
kind_of (suc (suc (suc (suc (suc (suc (suc (suc (suc (suc (suc k))))))))))) m value xs = unused
