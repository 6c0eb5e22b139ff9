-- A net has one verdict: of two different ones the earlier fails a check that the later passes.
-- Assumes nothing.
use mathlib.Core.Path.{◌≡◌, refl}
use Rattle.nets.specs.Verdict.{VerdictIs, Verdict, Accepted, Field, Connection, Ends, DataLoop, ControlLoop}
use Rattle.blocks.specs.declared.Net.{Net}
use Rattle.blocks.proofs.Folds.{clash}

pub verdict_unique : (net : Net) (v w : Verdict) → VerdictIs net v → VerdictIs net w → v ≡ w
verdict_unique net Field Field p q = refl
verdict_unique net Field Connection p q = clash q.0 p
verdict_unique net Field Ends p q = clash q.0 p
verdict_unique net Field DataLoop p q = clash q.0.fields p
verdict_unique net Field ControlLoop p q = clash q.0.fields p
verdict_unique net Field Accepted p q = clash q.0.fields p
verdict_unique net Connection Field p q = clash p.0 q
verdict_unique net Connection Connection p q = refl
verdict_unique net Connection Ends p q = clash q.1.0 p.1
verdict_unique net Connection DataLoop p q = clash q.0.joins p.1
verdict_unique net Connection ControlLoop p q = clash q.0.joins p.1
verdict_unique net Connection Accepted p q = clash q.0.joins p.1
verdict_unique net Ends Field p q = clash p.0 q
verdict_unique net Ends Connection p q = clash p.1.0 q.1
verdict_unique net Ends Ends p q = refl
verdict_unique net Ends DataLoop p q = clash q.0.ends p.1.1
verdict_unique net Ends ControlLoop p q = clash q.0.ends p.1.1
verdict_unique net Ends Accepted p q = clash q.0.ends p.1.1
verdict_unique net DataLoop Field p q = clash p.0.fields q
verdict_unique net DataLoop Connection p q = clash p.0.joins q.1
verdict_unique net DataLoop Ends p q = clash p.0.ends q.1.1
verdict_unique net DataLoop DataLoop p q = refl
verdict_unique net DataLoop ControlLoop p q = absurd (q.1.0 p.1)
verdict_unique net DataLoop Accepted p q = absurd (q.1.0 p.1)
verdict_unique net ControlLoop Field p q = clash p.0.fields q
verdict_unique net ControlLoop Connection p q = clash p.0.joins q.1
verdict_unique net ControlLoop Ends p q = clash p.0.ends q.1.1
verdict_unique net ControlLoop DataLoop p q = absurd (p.1.0 q.1)
verdict_unique net ControlLoop ControlLoop p q = refl
verdict_unique net ControlLoop Accepted p q = absurd (q.1.1 p.1.1)
verdict_unique net Accepted Field p q = clash p.0.fields q
verdict_unique net Accepted Connection p q = clash p.0.joins q.1
verdict_unique net Accepted Ends p q = clash p.0.ends q.1.1
verdict_unique net Accepted DataLoop p q = absurd (p.1.0 q.1)
verdict_unique net Accepted ControlLoop p q = absurd (p.1.1 q.1.1)
verdict_unique net Accepted Accepted p q = refl
