-- Streams and masks by source and sink number (document 01, "One cycle": "Streams are one list of words and a list of 32-bit ends").
-- Assumes nothing.
use Rattle.std.specs.Prelude.{ℕ, Bool, cond, ◌&&◌, List, [], ◌∷◌, leb, eqb, length, get_or}
use Rattle.std.proofs.Math.Seq.{slice}
use Rattle.blocks.specs.Folds.{bit}
use Rattle.nets.specs.Net.{is_kind, kind_count, number_among}
use Rattle.blocks.specs.declared.Net.{Net}

-- the ends do not descend, from low to at most high
abbrev pub ascend : ℕ → ℕ → List ℕ → Bool
ascend low high [] = leb low high
ascend low high (e ∷ es) = leb low e && ascend e high es

-- not refused with 14: one end for each source, never descending, none beyond the words
unfoldable pub ends_fit : Net → List ℕ → List ℕ → Bool
ends_fit net words ends = eqb (length ends) (kind_count net 0) && ascend 0 (length words) ends

-- the end before source k's own: 0 for source 0
abbrev pub end_before : List ℕ → ℕ → ℕ
end_before ends k = get_or (0 ∷ ends) k 0

-- the words of block b as a source: from the end before it to its own; none over streams that earn a refusal
abbrev pub stream_of : Net → List ℕ → List ℕ → ℕ → List ℕ
stream_of net words ends b = cond (ends_fit net words ends) (slice (end_before ends (number_among net 0 b)) (get_or ends (number_among net 0 b) 0) words) []

-- a source's bit of the offer mask, a sink's bit of the ready mask; the equations of other blocks read none
abbrev pub mask_of : Net → ℕ → ℕ → ℕ → Bool
mask_of net offer ready b = cond (is_kind net 0 b) (bit (number_among net 0 b) offer) (bit (number_among net 1 b) ready)
