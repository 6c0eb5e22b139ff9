-- `passes::back::backward` meets its contract: from the end of the order; the loop's invariant is that the blocks that rest and those that are met have their equation.
-- Assumes nothing.
use Rattle.std.proofs.Common.{◌≡◌, ℕ, ◌<◌, Bool, true, false, List, ◌++◌, length}
use Rattle.blocks.specs.States.{reg_in}
use Rattle.ports.specs.Places.{sig_at, ready_at}
use Rattle.passes.specs.Rows.{kind_no, rests_back, Rowed, Along}
use Rattle.passes.specs.Pass.{Holds, Going}
use Rattle.passes.specs.Passed.{back}
use Rattle.passes.proofs.Sites.{back-pass}
use Rattle.passes.proofs.back.backward.Given as goal

abbrev pub invariant-loop-b : goal.invariant-loop-b
invariant-loop-b l =
    (met : List ℕ) × (l.order ≡ l.b-iterator.iter.rest.now ++ met)
    × ((w : Rowed l.net) (a : Along l.net rests_back l.order) (xs : ℕ → List ℕ) (mask : ℕ → Bool)
    → ((b : ℕ) → b < l.net.size → rests_back (kind_no l.net b) ≡ true → Holds (back l.net xs mask (reg_in l.state) (sig_at l.signals) b) (ready_at l.initial.ready))
    → Going (back l.net xs mask (reg_in l.state) (sig_at l.signals)) l.net.size (λ b. rests_back (kind_no l.net b) ≡ true) (λ b. rests_back (kind_no l.net b) ≡ false)
    (back-pass l.net xs mask (reg_in l.state) w (sig_at l.signals) l.order a).turn.place (length met) (ready_at l.ready))
