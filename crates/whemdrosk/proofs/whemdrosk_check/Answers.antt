-- `whemdrosk::whemdrosk_check` meets its contract: its answer is the refusal of the load.
use native.Mathlib.Omega.{arith}
use Rattle.whemdrosk.proofs.whemdrosk_check.Goals as goal

pub returns : goal.returns
returns c = let l = c.load-loading in record { loading = l.result; right = l.ensures; answer = omega arith }
