-- What `gather` answers (request 7): "One call gathers a channel's words from a trace into a lent list's beginning and counts them", and "22 when a trace isn't whole records, 23 when
-- the lent list is too short for the channel's words, in that order". A trace is any bytes: nothing else of it is checked.
-- Assumes nothing.
use Rattle.std.specs.Prelude.{ℕ, ◌%◌, cond, List, [], ◌∷◌, ◌++◌, eqb, leb, length, drop}
use Rattle.recorded.specs.Recorded.{records_read, on, word_of}
use Rattle.std.specs.Prelude.{Result, Ok, Err}
use Rattle.blocks.specs.Refusals.{refusal_number}
use Rattle.blocks.specs.declared.Refusal.{Refusal}
use Rattle.compare.specs.declared.Gathered.{Gathered}

-- the words of the records of channel c, in order
unfoldable pub words_on : ℕ → List ℕ → List ℕ
words_on c [] = []
words_on c (r ∷ rs) = cond (on c r) (word_of r ∷ words_on c rs) (words_on c rs)

-- the channel's words of a trace
abbrev pub words_in : List ℕ → ℕ → List ℕ
words_in trace c = words_on c (records_read trace)

-- refusals in checking order; room is the list's length
unfoldable pub gather_refusal : List ℕ → ℕ → ℕ → ℕ
gather_refusal trace c room = cond (eqb (length trace % 8) 0) (cond (leb (length (words_in trace c)) room) 0 23) 22

-- the refusal and the number of words, 0 where it is refused
unfoldable pub gathered_of : List ℕ → ℕ → ℕ → Gathered
gathered_of trace c room =
    record { refusal = gather_refusal trace c room; count = cond (eqb (gather_refusal trace c room) 0) (length (words_in trace c)) 0 }

-- the answer that a number of words or a refusal makes
abbrev pub answer_of : Result ℕ Refusal → Gathered
answer_of (Ok n) = record { refusal = 0; count = n }
answer_of (Err r) = record { refusal = refusal_number r; count = 0 }

-- words over a list's beginning, what follows unchanged
abbrev pub put_front : List ℕ → List ℕ → List ℕ
put_front words list = words ++ drop (length words) list

-- the list after the call; a refused one leaves it as it was
unfoldable pub gathered_into : List ℕ → ℕ → List ℕ → List ℕ
gathered_into trace c list = cond (eqb (gather_refusal trace c (length list)) 0) (put_front (words_in trace c) list) list
