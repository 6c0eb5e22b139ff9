-- Gathered from four of document 01's deliveries, channel 2 among channel 0; calls that are refused; lists that are compared.
-- Assumes nothing.
use Prim.Native.Nat.{ℕ}
use mathlib.Core.Path.{◌≡◌, refl}
use mathlib.Core.List.{List, [], ◌∷◌}
use Rattle.trace.specs.Numbers.{numbers_of}
use Rattle.trace.specs.Records.{record_of, bytes_of, trace_of}
use Rattle.recorded.specs.Recorded.{paired}
use Rattle.compare.specs.declared.Compared.TheVariants.{Equal, FirstBegins, SecondBegins, Differ}
use Rattle.compare.specs.Gather.{words_on, gather_refusal, gathered_of, gathered_into}
use Rattle.compare.specs.Compare.{shared, compared_of}

abbrev line : List ℕ
line = trace_of (record_of 1 0 2 ∷ record_of 1 2 6 ∷ record_of 2 0 3 ∷ record_of 2 2 7 ∷ [])

-- two words, in order, and the third entry as it was
pub gathers : gathered_into line 2 (9 ∷ 9 ∷ 9 ∷ []) ≡ 6 ∷ 7 ∷ 9 ∷ []
unfolding numbers_of bytes_of trace_of paired words_on gather_refusal gathered_into
gathers = refl

-- a list that is just long enough; one that is too short; a trace that is no whole record, whatever the room; a channel that no record can name
pub answers : (gathered_of line 2 2 ≡ record { refusal = 0; count = 2 })
    × (gathered_of line 2 1 ≡ record { refusal = 23; count = 0 })
    × (gathered_of (0 ∷ []) 0 0 ≡ record { refusal = 22; count = 0 })
    × (gathered_of line 130 0 ≡ record { refusal = 0; count = 0 })
unfolding numbers_of bytes_of trace_of paired words_on gather_refusal gathered_of
answers = (refl, refl, refl, refl)

pub compares : (compared_of (6 ∷ 7 ∷ []) (6 ∷ 7 ∷ []) ≡ Equal)
    × (compared_of [] (6 ∷ 7 ∷ []) ≡ FirstBegins)
    × (compared_of (6 ∷ 7 ∷ []) (6 ∷ []) ≡ SecondBegins)
    × (compared_of (6 ∷ 7 ∷ 8 ∷ []) (6 ∷ 9 ∷ []) ≡ Differ 1)
unfolding shared compared_of
compares = (refl, refl, refl, refl)
