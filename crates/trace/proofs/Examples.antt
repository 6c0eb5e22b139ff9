-- Records and numbers worked out: document 01's delivery of word 6 on channel 2 in cycle 1, the largest record, and bytes of which one is left over.
-- Assumes nothing.
use mathlib.Core.Path.{◌≡◌, refl}
use mathlib.Core.List.{[], ◌∷◌}
use Rattle.trace.specs.Records.{record_of, bytes_of}
use Rattle.trace.specs.Numbers.{numbers_of}

pub delivery : bytes_of (record_of 1 2 6) ≡ 0 ∷ 0 ∷ 0 ∷ 0x82 ∷ 0 ∷ 0 ∷ 0 ∷ 6 ∷ []
unfolding bytes_of
delivery = refl

pub largest : bytes_of (record_of 1048576 127 4294967295) ≡ 0x08 ∷ 0 ∷ 0 ∷ 0x7f ∷ 0xff ∷ 0xff ∷ 0xff ∷ 0xff ∷ []
unfolding bytes_of
largest = refl

pub left_over : numbers_of (0 ∷ 0 ∷ 1 ∷ 2 ∷ 9 ∷ []) ≡ 258 ∷ []
unfolding numbers_of
left_over = refl
