-- `passes::ahead::forward` meets its contract: along the order; the loop's invariant is that the blocks that rest and the first of the order have their equation.
-- Assumes nothing.
use Rattle.std.proofs.Common.{◌≡◌, ℕ, ◌<◌, Bool, true, false, List}
use Rattle.blocks.specs.States.{reg_in}
use Rattle.ports.specs.Places.{sig_at}
use Rattle.passes.specs.Rows.{kind_no, rests_ahead, Rowed, Along}
use Rattle.passes.specs.Pass.{Holds, Going}
use Rattle.passes.specs.Passed.{ahead}
use Rattle.passes.proofs.Sites.{ahead_pass}
use Rattle.passes.proofs.ahead.forward.Given as goal

abbrev pub invariant-loop-b : goal.invariant-loop-b
invariant-loop-b l =
    (w : Rowed l.net) (o : Along l.net rests_ahead l.order) (xs : ℕ → List ℕ) (mask : ℕ → Bool)
    → ((b : ℕ) → b < l.net.size → rests_ahead (kind_no l.net b) ≡ true → Holds (ahead l.net xs mask (reg_in l.state) b) (sig_at l.initial.signals))
    → Going (ahead l.net xs mask (reg_in l.state)) l.net.size (λ b. rests_ahead (kind_no l.net b) ≡ true) (λ b. rests_ahead (kind_no l.net b) ≡ false)
    (ahead_pass l.net xs mask (reg_in l.state) w l.order o).turn.place l.b-index (sig_at l.signals)
