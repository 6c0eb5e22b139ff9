-- What a block answers that is asked because of a waiting channel (change request 9): which channel is asked next, or how the chain ends.
-- Assumes nothing.
use Rattle.std.specs.Prelude.{ℕ, Bool, true, false, Option, Some, None}
use Rattle.blocks.specs.Kinds.{Kind}
use Rattle.blocks.specs.Asking.{Handed, to_input, to_output, to_nobody, handed}
use Rattle.blocks.specs.declared.Sig.{Sig}
use Rattle.blocks.specs.declared.Reg.{Reg}
use Rattle.asking.specs.Endings.{ending_of}
use Rattle.asking.specs.declared.Ending.{Ending}
use Rattle.asking.specs.declared.Ending.TheVariants.{NoRule}
use Rattle.asking.specs.declared.Next.{Next}
use Rattle.asking.specs.declared.Next.TheVariants.{Word, Ready, End}

-- an input that is handed the question lacks V and is asked for its word; an output that is handed it is V and is asked for readiness; "if no rule names a further
-- channel, it ends at that block"
abbrev pub goes_to : (ℕ → ℕ) → (ℕ → ℕ) → ℕ → Handed → Next
goes_to inp out b (to_input i) = Word (inp i)
goes_to inp out b (to_output j) = Ready (out j)
goes_to inp out b to_nobody = End (NoRule b)

abbrev pub end_else : Option Ending → Next → Next
end_else (Some e) n = End e
end_else None n = n

-- the answer that asks channel n for its word (true) or for readiness (false)
abbrev pub asks : Bool → ℕ → Next
asks true n = Word n
asks false n = Ready n

-- What block b answers to a question: its kind, the question (for a word or for readiness), its registers, the channels at its inputs and outputs, and the signals of all
-- channels are given.
abbrev pub next_at : Kind → Bool → ℕ → Reg → (ℕ → ℕ) → (ℕ → ℕ) → (ℕ → Sig) → (ℕ → Bool) → Next
next_at K word b r inp out shows ready =
    end_else (ending_of K word b) (goes_to inp out b (handed K r (λ i. shows (inp i)) (λ j. (shows (out j)).valid) (λ j. ready (out j))))
