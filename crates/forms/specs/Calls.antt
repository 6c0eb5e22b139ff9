-- What `load` and `write` answer, refusals too (document 01, "Numbers of the refused"). A form earns 1 to 7 by its bits, then 8 to 11 by the check of the
-- net that they hold; a net value that the check does not accept earns 12, then a buffer shorter than its form 17. Each answer is unique (`loaded_unique`,
-- `wrote_unique` in proofs/Theorems.antt), since the verdict of the net check is.
-- Assumes nothing.
use Rattle.std.specs.Prelude.{◌≡◌, cond, List, ◌++◌, ℕ, leb, eqb, length, drop, Result, Ok, Err}
use Rattle.blocks.specs.Refusals.{refusal_number}
use Rattle.nets.specs.Verdict.{VerdictIs, number_of}
use Rattle.blocks.specs.declared.Net.{Net}
use Rattle.nets.specs.Verdict.{Verdict}
use Rattle.stored.specs.Form.{zero_net, Outcome, loaded, denied, parse, form_of}
use Rattle.stored.specs.declared.Loading.{Loading}
use Rattle.blocks.specs.declared.Refusal.{Refusal}

-- refusal 0 with the net; any other with a zero net
abbrev pub answer : ℕ → Net → Loading
answer refusal n = record { refusal = refusal; net = cond (eqb refusal 0) n zero_net }

-- the answer for what reading a form found: its own refusal, or the verdict's number
abbrev pub LoadedFrom : Outcome → Loading → Type 0
LoadedFrom (denied e) l = l ≡ answer e zero_net
LoadedFrom (loaded n) l = (v : Verdict) × VerdictIs n v × (l ≡ answer (number_of v) n)

-- l is the answer of `load` for the form f
abbrev pub Loaded : List ℕ → Loading → Type 0
Loaded f l = LoadedFrom (parse f) l

-- the document's number of each answer of `write`, and the bytes written
abbrev pub refusal_of : Result ℕ Refusal → ℕ
refusal_of (Ok n) = 0
refusal_of (Err e) = refusal_number e

abbrev pub count_of : Result ℕ Refusal → ℕ
count_of (Ok n) = n
count_of (Err e) = 0

-- r is the answer of `write` for a net and a buffer that held buf, and after is what the buffer then holds
pub record Wrote (net : Net) (buf : List ℕ) (r : Result ℕ Refusal) (after : List ℕ) : Type 0 where
  pub verdict : Verdict
  pub right : VerdictIs net verdict
  pub refusal : refusal_of r ≡ cond (eqb (number_of verdict) 0) (cond (leb (length (form_of net)) (length buf)) 0 17) 12
  pub count : count_of r ≡ cond (eqb (refusal_of r) 0) (length (form_of net)) 0
  pub held : after ≡ cond (eqb (refusal_of r) 0) (form_of net ++ drop (length (form_of net)) buf) buf
