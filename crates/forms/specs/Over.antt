-- What the private functions of the writer do to a byte and to a buffer's bits, and what `load` answers for a net or a refusal.
-- Assumes nothing.
use Rattle.std.specs.Prelude.{ℕ, ◌+◌, List, [], ◌++◌, Bool, cond, leb, length, take, drop, set, Result, Ok, Err}
use Rattle.reader.specs.Bits.{bits, number}
use Rattle.blocks.specs.declared.Block.{Block}
use Rattle.stored.specs.Form.{put_block, zero_net}
use Rattle.blocks.specs.declared.Net.{Net}
use Rattle.blocks.specs.declared.Refusal.{Refusal}
use Rattle.blocks.specs.declared.Refusal.TheVariants as refusal
use Rattle.blocks.specs.Refusals.{refusal_number}
use Rattle.stored.specs.declared.Loading.{Loading}

-- the byte b with its bit k set to d
unfoldable pub with_bit : ℕ → ℕ → Bool → ℕ
with_bit b k d = number (set (bits 8 b) k d)

-- the list l with s written over it from place at on
unfoldable pub over : List Bool → ℕ → List Bool → List Bool
over l at s = take at l ++ s ++ drop (at + length s) l

-- how many bits a block has
unfoldable pub block_bits : Block → ℕ
block_bits b = length (put_block b [])

-- writing the bytes p at the buffer's beginning, where they fit: the answer, and what the buffer then holds
unfoldable pub written_of : List ℕ → List ℕ → Result ℕ Refusal
written_of buf p = cond (leb (length p) (length buf)) (Ok (length p)) (Err refusal.Buffer)

unfoldable pub buffer_of : List ℕ → List ℕ → List ℕ
buffer_of buf p = cond (leb (length p) (length buf)) (p ++ drop (length p) buf) buf

-- the net with refusal 0, or the refusal's number with a zero net
abbrev pub answered : Result Net Refusal → Loading
answered (Ok n) = record { refusal = 0; net = n }
answered (Err e) = record { refusal = refusal_number e; net = zero_net }
