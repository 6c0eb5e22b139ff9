-- Streams and masks by the net's own numbers of sources and sinks.
-- Assumes nothing.
use Rattle.std.specs.Prelude.{ℕ, ◌≤◌, ◌<◌, ◌≡◌, Bool, cond, List, length, get_or}
use Rattle.std.proofs.Math.Seq.{slice}
use Rattle.blocks.specs.Folds.{count_below, bit}
use Rattle.blocks.specs.declared.Net.{Net}
use Rattle.cycles.specs.Streams.{end_before}
use Rattle.passes.specs.Rows.{is_kind_no}
use Rattle.trace.specs.Numbers.{given}
use Rattle.trace.specs.declared.numbers.Numbers.{Numbers}

-- numbers, however they are given
abbrev pub read : Numbers → List ℕ
read n = given n.bytes.now n.list.now

abbrev pub number_no : Net → ℕ → ℕ → ℕ
number_no net kind b = count_below (is_kind_no net kind) b

-- the words of source number k
abbrev pub stream_no : List ℕ → List ℕ → ℕ → List ℕ
stream_no stream ends k = slice (end_before ends k) (get_or ends k 0) stream

abbrev pub stream_at : Net → List ℕ → List ℕ → ℕ → List ℕ
stream_at net stream ends b = stream_no stream ends (number_no net 0 b)

abbrev pub mask_at : Net → ℕ → ℕ → ℕ → Bool
mask_at net offer ready b = cond (is_kind_no net 0 b) (bit (number_no net 0 b) offer) (bit (number_no net 1 b) ready)

-- one end for each of count sources, never descending, none beyond the stream
pub record Fitting (count long : ℕ) (ends : List ℕ) : Type 0 where
  pub each : length ends ≡ count
  pub up : (k : ℕ) → k < count → end_before ends k ≤ get_or ends k 0
  pub within : (k : ℕ) → k < count → get_or ends k 0 ≤ long
