-- What the check of a net promises to whoever steps it: all that stepping knows of what the check's code does.
-- Assumes nothing.
use Rattle.std.specs.Prelude.{◌≡◌, Bool, true, false, cond, List, Result, Ok, Err, ℕ, ◌<◌, get_or}
use Rattle.nets.specs.Net.{block_at, fields_ok, connected, few_ends}
use Rattle.nets.specs.Loops.{HasPort, Leads, is_buffer}
use Rattle.nets.specs.Verdict.{Verdict, VerdictIs}
use Rattle.nets.specs.Verdict as verdict
use Rattle.blocks.specs.declared.Net.{Net}
use Rattle.blocks.specs.declared.Refusal.{Refusal}
use Rattle.blocks.specs.declared.Refusal.TheVariants as refusal
use Rattle.nets.specs.declared.Plan.{Plan}
use Rattle.nets.specs.declared.Fault.{Fault}
use Rattle.nets.specs.declared.Fault.TheVariants.{Field, Connection, Ends, DataLoop, ControlLoop}

-- the verdict that a fault earns the net
abbrev pub earned : Fault → Verdict
earned Field = verdict.Field
earned Connection = verdict.Connection
earned Ends = verdict.Ends
earned DataLoop = verdict.DataLoop
earned ControlLoop = verdict.ControlLoop

-- and the refusal
abbrev pub refusal_of : Fault → Refusal
refusal_of Field = refusal.Net
refusal_of Connection = refusal.Connection
refusal_of Ends = refusal.Ends
refusal_of DataLoop = refusal.DataLoop
refusal_of ControlLoop = refusal.ControlLoop

-- v is the one block with a port of this side for channel c
pub record TheBlock (net : Net) (side : Bool) (c v : ℕ) : Type 0 where
  pub has : HasPort net side c v
  pub only : (a : ℕ) → HasPort net side c a → a ≡ v

-- the table has the one block of each channel
abbrev pub Table : Net → Bool → List ℕ → Type 0
Table net side table = (c : ℕ) → c < net.channels → TheBlock net side c (get_or table c 0)

-- What a channel from a block of kind a to one of kind b carries ends at a buffer: valid does not pass through a data
-- buffer, so the order is free where b is one; ready does not pass through a control buffer, so it is free where a is one.
abbrev pub cuts : Bool → ℕ → ℕ → Bool
cuts control a b = cond control (is_buffer true a) (is_buffer false b)

-- every block of the net stands once in the list, and along a channel that no buffer cuts the places grow
pub record InOrder (net : Net) (control : Bool) (order : List ℕ) : Type 0 where
  pub place : ℕ → ℕ
  pub listed : (k : ℕ) → k < net.size → (get_or order k 0 < net.size) × (place (get_or order k 0) ≡ k)
  pub stands : (b : ℕ) → b < net.size → (place b < net.size) × (get_or order (place b) 0 ≡ b)
  pub grows : (c a b : ℕ) → Leads net c a b → cuts control (block_at net a).kind (block_at net b).kind ≡ false → place a < place b

-- of an accepted net: its fields, the one block that each channel leaves and the one that it enters, an order for valid (data) and one that gives ready
-- from its end to its beginning (control)
pub record Promises (net : Net) (p : Plan) : Type 0 where
  pub fields : fields_ok net ≡ true
  pub joins : connected net ≡ true
  pub ends : few_ends net ≡ true
  pub producers : Table net true p.producer
  pub consumers : Table net false p.consumer
  pub data_order : InOrder net false p.data
  pub control_order : InOrder net true p.control

-- the contract of `plan_of`: the verdict is the net's, and where it is accepted the promises hold
abbrev pub Planned : Net → Result Plan Fault → Type 0
Planned net (Ok p) = VerdictIs net verdict.Accepted × Promises net p
Planned net (Err f) = VerdictIs net (earned f)
