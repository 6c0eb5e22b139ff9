-- `passes::ahead::forward_kind` meets its contract: one of the kind after the other; the loop's invariant is that those that were done and the first of the kind have their equation.
-- Assumes nothing.
use Rattle.std.proofs.Common.{◌≡◌, ℕ, ◌<◌, Bool, true, List}
use Rattle.blocks.specs.Numbers.{kind_number}
use Rattle.blocks.specs.States.{reg_in}
use Rattle.ports.specs.Places.{sig_at}
use Rattle.passes.specs.Rows.{kind_no, is_kind_no, rests_ahead, Rowed, Listed}
use Rattle.passes.specs.Pass.{Holds, Going}
use Rattle.passes.specs.Passed.{ahead}
use Rattle.passes.proofs.Sites.{ahead-kind}
use Rattle.passes.proofs.ahead.forward_kind.Given as goal

abbrev pub invariant-loop-b : goal.invariant-loop-b
invariant-loop-b l =
    let kind : ℕ = kind_number l.kind in
    (w : Rowed l.net) (listed : Listed l.net kind l.list) (rest : rests_ahead kind ≡ true) (xs : ℕ → List ℕ) (mask : ℕ → Bool) (done : ℕ → Bool)
    (resting : (k : ℕ) → done k ≡ true → rests_ahead k ≡ true)
    → ((b : ℕ) → b < l.net.size → done (kind_no l.net b) ≡ true → Holds (ahead l.net xs mask (reg_in l.state) b) (sig_at l.initial.signals))
    → Going (ahead l.net xs mask (reg_in l.state)) l.net.size (λ b. done (kind_no l.net b) ≡ true) (λ b. is_kind_no l.net kind b ≡ true)
    (ahead-kind l.net xs mask (reg_in l.state) w kind l.list listed done rest resting).turn.place l.b-index (sig_at l.signals)
