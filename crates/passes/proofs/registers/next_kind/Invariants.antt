-- `passes::registers::next_kind` meets its contract: one of the kind after the other; the loop's invariant is that the first of the kind have their next registers, and
-- the other blocks have theirs still.
-- Assumes nothing.
use Rattle.std.proofs.Common.{◌≡◌, ℕ, ◌<◌, Bool, List, get_or}
use Rattle.blocks.specs.States.{reg_in, Kept}
use Rattle.ports.specs.Places.{sig_at, ready_at}
use Rattle.passes.specs.Passed.{next_no}
use Rattle.passes.proofs.registers.next_kind.Given as goal

abbrev pub invariant-loop-b : goal.invariant-loop-b
invariant-loop-b l = record {
  went : (xs : ℕ → List ℕ) (mask : ℕ → Bool) (k : ℕ) → k < l.b-index
      → reg_in l.state (get_or l.list k 0) ≡ next_no l.net xs mask (reg_in l.initial.state) (sig_at l.signals) (ready_at l.ready) (get_or l.list k 0);
  stays : (b : ℕ) → ((k : ℕ) → k < l.b-index → get_or l.list k 0 ≡ b → ⊥) → reg_in l.state b ≡ reg_in l.initial.state b;
  kept : Kept l.initial.state l.state;
}
