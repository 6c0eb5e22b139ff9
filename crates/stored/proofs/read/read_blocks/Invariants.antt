-- `stored::read::read_blocks` meets its contract. The loop's invariant: the array holds the blocks taken so far, padded with zero blocks, and the taker of
-- all blocks gives them in front of what it gives from the position on, which is at most 110 bits a block.
-- Assumes nothing.
use Rattle.std.proofs.Common.{◌≡◌, ◌+◌, ◌-◌, ◌*◌, ◌≤◌, List, length, drop}
use Rattle.reader.specs.Bits.{bits_of}
use Rattle.blocks.specs.declared.Block.{Block}
use Rattle.stored.specs.Form.{take_many, take_block, padded, zero_block}
use Rattle.stored.proofs.Many.{prepend}
use Rattle.stored.proofs.read.read_blocks.Given as goal

abbrev pub invariant-loop-i : goal.invariant-loop-i
invariant-loop-i l =
    (l.at ≤ 32 + 110 * l.i) × (l.at ≤ 8 * length l.form)
    × ((xs : List Block) × (length xs ≡ l.i) × (l.blocks ≡ padded zero_block 64 xs)
    × (take_many (take_block l.channels) l.count (drop 32 (bits_of l.form)) ≡ prepend xs (take_many (take_block l.channels) (l.count - l.i) (drop l.at (bits_of l.form)))))
