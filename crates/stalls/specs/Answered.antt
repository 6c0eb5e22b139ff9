-- What our own functions answer before it is a call's answer.
-- Assumes nothing.
use Rattle.std.specs.Prelude.{Result, Ok, Err}
use Rattle.blocks.specs.Refusals.{refusal_number}
use Rattle.blocks.specs.declared.Refusal.{Refusal}
use Rattle.stalls.specs.Calls.{no_chain}
use Rattle.stalls.specs.declared.Chain.{Chain}

-- of a refused call no channel
abbrev pub chain_in_answer : Result Chain Refusal → Chain
chain_in_answer (Ok chain) = chain
chain_in_answer (Err refusal) = no_chain (refusal_number refusal)
