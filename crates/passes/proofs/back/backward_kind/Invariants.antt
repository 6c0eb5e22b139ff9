-- `passes::back::backward_kind` meets its contract: one of the kind after the other; the loop's invariant is that those that were done and the first of the kind have their equation.
-- Assumes nothing.
use Rattle.std.proofs.Common.{◌≡◌, ℕ, ◌<◌, Bool, true, List}
use Rattle.blocks.specs.Numbers.{kind_number}
use Rattle.blocks.specs.States.{reg_in}
use Rattle.ports.specs.Places.{sig_at, ready_at}
use Rattle.passes.specs.Rows.{kind_no, is_kind_no, rests_back, Rowed, Listed}
use Rattle.passes.specs.Pass.{Holds, Going}
use Rattle.passes.specs.Passed.{back}
use Rattle.passes.proofs.Sites.{back-kind}
use Rattle.passes.proofs.back.backward_kind.Given as goal

abbrev pub invariant-loop-b : goal.invariant-loop-b
invariant-loop-b l =
    (w : Rowed l.net) (listed : Listed l.net (kind_number l.kind) l.list) (rest : rests_back (kind_number l.kind) ≡ true) (xs : ℕ → List ℕ) (mask : ℕ → Bool) (done : ℕ → Bool)
    (resting : (k : ℕ) → done k ≡ true → rests_back k ≡ true)
    → ((b : ℕ) → b < l.net.size → done (kind_no l.net b) ≡ true → Holds (back l.net xs mask (reg_in l.state) (sig_at l.signals) b) (ready_at l.initial.ready))
    → Going (back l.net xs mask (reg_in l.state) (sig_at l.signals)) l.net.size (λ b. done (kind_no l.net b) ≡ true) (λ b. is_kind_no l.net (kind_number l.kind) b ≡ true)
    (back-kind l.net xs mask (reg_in l.state) w (sig_at l.signals) (kind_number l.kind) l.list listed done rest resting).turn.place l.b-index (ready_at l.ready)
