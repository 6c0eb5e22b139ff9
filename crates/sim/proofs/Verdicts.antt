-- What the check of a net finds says whether the net is accepted.
-- Assumes nothing.
use Rattle.std.proofs.Common.{◌≡◌, refl, sym, ap, ◌∙◌, true, false, Ok, Err}
use Rattle.blocks.specs.declared.Net.{Net}
use Rattle.nets.specs.Promises.{Planned, earned}
use Rattle.nets.specs.declared.Plan.{Plan}
use Rattle.nets.specs.declared.Fault.{Fault}
use Rattle.nets.specs.declared.Fault.TheVariants.{Field, Connection, Ends, DataLoop, ControlLoop}
use Rattle.nets.proofs.Decided.{is_accepted, accepted, planned_verdict, accepted_is}

faulty : (f : Fault) → is_accepted (earned f) ≡ false
faulty Field = refl
faulty Connection = refl
faulty Ends = refl
faulty DataLoop = refl
faulty ControlLoop = refl

pub accepted_when : (net : Net) (p : Plan) → Planned net (Ok p) → accepted net ≡ true
accepted_when net p h = accepted_is net h.0

pub refused_when : (net : Net) (f : Fault) → Planned net (Err f) → accepted net ≡ false
unfolding accepted
refused_when net f h = ap is_accepted (sym (planned_verdict net (Err f) h)) ∙ faulty f
