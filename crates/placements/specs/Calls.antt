-- What `place` and `place_form` answer, refusals too (request 3): the base net's first, then 18, 19, and 10 or 11 for the loops of the placed net. `place` has its base net as
-- a value, `place_form` as a form; all that follows is one definition.
-- Assumes nothing.
use Rattle.std.specs.Prelude.{ℕ, ◌+◌, Bool, cond, ◌&&◌, List, leb, eqb, length, get_or}
use Rattle.blocks.specs.Folds.{all_below}
use Rattle.nets.specs.Verdict.{number_of, Verdict, Accepted, Field, Connection, Ends, DataLoop, ControlLoop}
use Rattle.blocks.specs.declared.Net.{Net}
use Rattle.nets.proofs.Decided.{verdict_of}
use Rattle.stored.specs.Form.{zero_net, Outcome, loaded, denied, parse}
use Rattle.stored.specs.declared.Loading.{Loading}
use Rattle.forms.specs.Calls.{answer}
use Rattle.placed.specs.Placed.{placed, added}

-- ## The base net

-- "The base net is checked for all but its loops (a form earns its own number, a net value 12)": 0 where it passes. No form holds a net that earns 12 (`form_never_12`).
abbrev pub form_number : Verdict → ℕ
form_number Accepted = 0
form_number Field = 12
form_number Connection = 8
form_number Ends = 9
form_number DataLoop = 0
form_number ControlLoop = 0

abbrev pub value_number : Verdict → ℕ
value_number v = cond (eqb (form_number v) 0) 0 12

-- ## The codes

-- "18 when the codes aren't one per channel or one is above 3"
abbrev pub code_ok : List ℕ → ℕ → Bool
code_ok codes i = leb (get_or codes i 0) 3

unfoldable pub codes_ok : ℕ → List ℕ → Bool
codes_ok channels codes = eqb (length codes) channels && all_below (code_ok codes) (length codes)

-- "19 when the result would pass 64 blocks or 128 channels"
abbrev pub room_for : Net → List ℕ → Bool
room_for net codes = leb (net.size + added codes) 64 && leb (net.channels + added codes) 128

-- "in that order after the base net, then 10 or 11 for the result's loops"
unfoldable pub place_number : Net → List ℕ → ℕ
place_number net codes = cond (codes_ok net.channels codes) (cond (room_for net codes) (number_of (verdict_of (placed net codes))) 19) 18

-- ## The answers

-- over a base net that earns the number base: refusal 0 with the placed net; "A refused placement returns a zero net"
unfoldable pub place_by : ℕ → Net → List ℕ → Loading
place_by base net codes = answer (cond (eqb base 0) (place_number net codes) base) (placed net codes)

-- over what reading a form found
abbrev pub place_read : Outcome → List ℕ → Loading
place_read (denied e) codes = answer e zero_net
place_read (loaded net) codes = place_by (form_number (verdict_of net)) net codes

abbrev pub place_of : Net → List ℕ → Loading
place_of net codes = place_by (value_number (verdict_of net)) net codes

abbrev pub place_form_of : List ℕ → List ℕ → Loading
place_form_of f codes = place_read (parse f) codes
