-- A net over its streams as a cycle and the queue machine read it: its blocks by kind, and the channels at their ports, inputs first.
-- Assumes nothing.
use Rattle.std.specs.Prelude.{ℕ, ◌+◌, ◌-◌, ◌/◌, ◌%◌, true, false, List, get_or}
use Rattle.blocks.specs.Kinds.{Kind, kind_of}
use Rattle.nets.specs.Block.{ins}
use Rattle.nets.specs.Net.{block_at, place_of}
use Rattle.blocks.specs.declared.Net.{Net}
use Rattle.cycles.specs.Streams.{stream_of}

pub record View : Type 0 where
  pub blocks : ℕ
  pub channels : ℕ
  pub kind : ℕ → Kind
  -- the channel at input port i, and at output port j, of block b
  pub inp : ℕ → ℕ → ℕ
  pub out : ℕ → ℕ → ℕ

abbrev pub kind_at : Net → List ℕ → List ℕ → ℕ → Kind
kind_at net words ends b = kind_of (block_at net b).kind (block_at net b).m (block_at net b).value (stream_of net words ends b)

abbrev pub view_of : Net → List ℕ → List ℕ → View
view_of net words ends =
    record {
      blocks = net.size;
      channels = net.channels;
      kind = kind_at net words ends;
      inp = λ b i. get_or (block_at net b).ports i 0;
      out = λ b j. get_or (block_at net b).ports (ins (block_at net b) + j) 0;
    }

-- the block and the output port that channel c leaves, the block and the input port that it enters
abbrev pub producer : Net → ℕ → ℕ
producer net c = place_of net true c / 10

abbrev pub out_port : Net → ℕ → ℕ
out_port net c = place_of net true c % 10 - ins (block_at net (producer net c))

abbrev pub consumer : Net → ℕ → ℕ
consumer net c = place_of net false c / 10

abbrev pub in_port : Net → ℕ → ℕ
in_port net c = place_of net false c % 10
