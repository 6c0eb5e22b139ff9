-- A refusal's number tells the refusal, and it is never 0.
-- Assumes nothing.
use Rattle.std.proofs.Common.{◌≡◌, ℕ, ◌≤◌, cond, eqb, Result, Ok, Err, refl, sym, ap, ◌∙◌, arith}
use Rattle.blocks.specs.Refusals.{refusal_number}
use Rattle.blocks.specs.declared.Refusal.{Refusal}
use Rattle.blocks.specs.declared.Refusal.TheVariants.{Truncated, Edition, Counts, Kind, M, PortChannel, Rest, Connection, Ends, DataLoop, ControlLoop, Net, State, Streams, Masks, Cycles, Buffer, Codes, Room, Listing, Bay, Trace, List, Channel}
use Rattle.forms.specs.Calls.{refusal_of, count_of}

-- the refusal of a number
abbrev named : ℕ → Refusal
named n =
    cond (eqb n 1) Truncated
    (cond (eqb n 2) Edition
    (cond (eqb n 3) Counts
    (cond (eqb n 4) Kind
    (cond (eqb n 5) M
    (cond (eqb n 6) PortChannel
    (cond (eqb n 7) Rest
    (cond (eqb n 8) Connection
    (cond (eqb n 9) Ends
    (cond (eqb n 10) DataLoop
    (cond (eqb n 11) ControlLoop
    (cond (eqb n 12) Net
    (cond (eqb n 13) State
    (cond (eqb n 14) Streams
    (cond (eqb n 15) Masks
    (cond (eqb n 16) Cycles
    (cond (eqb n 17) Buffer
    (cond (eqb n 18) Codes
    (cond (eqb n 19) Room
    (cond (eqb n 20) Listing
    (cond (eqb n 21) Bay
    (cond (eqb n 22) Trace
    (cond (eqb n 23) List
    Channel))))))))))))))))))))))

back : (e : Refusal) → (named (refusal_number e) ≡ e) × (1 ≤ refusal_number e)
back Truncated = (refl, omega arith)
back Edition = (refl, omega arith)
back Counts = (refl, omega arith)
back Kind = (refl, omega arith)
back M = (refl, omega arith)
back PortChannel = (refl, omega arith)
back Rest = (refl, omega arith)
back Connection = (refl, omega arith)
back Ends = (refl, omega arith)
back DataLoop = (refl, omega arith)
back ControlLoop = (refl, omega arith)
back Net = (refl, omega arith)
back State = (refl, omega arith)
back Streams = (refl, omega arith)
back Masks = (refl, omega arith)
back Cycles = (refl, omega arith)
back Buffer = (refl, omega arith)
back Codes = (refl, omega arith)
back Room = (refl, omega arith)
back Listing = (refl, omega arith)
back Bay = (refl, omega arith)
back Trace = (refl, omega arith)
back List = (refl, omega arith)
back Channel = (refl, omega arith)

pub numbered : (e : Refusal) → 1 ≤ refusal_number e
numbered e = (back e).1

same_refusal : (d e : Refusal) → refusal_number d ≡ refusal_number e → d ≡ e
same_refusal d e h = sym (back d).0 ∙ ap named h ∙ (back e).0

-- its number and count tell an answer of `write`
pub same_written : (r s : Result ℕ Refusal) → refusal_of r ≡ refusal_of s → count_of r ≡ count_of s → r ≡ s
same_written (Ok n) (Ok m) h k = ap (λ (i : ℕ). Ok i) k
same_written (Ok n) (Err e) h k = absurd (omega (arith, (back e).1))
same_written (Err d) (Ok m) h k = absurd (omega (arith, (back d).1))
same_written (Err d) (Err e) h k = ap (λ (c : Refusal). Err c) (same_refusal d e h)
