-- `nets::fields::few_ends` meets its contract: the two counts, one after the other.
-- Assumes nothing.
use Prim.Native.Nat.{ℕ, ◌≤◌, ◌<◌}
use mathlib.Core.Path.{subst}
use borrow.Author.Tests.{lt-leb, le-leb}
use Rattle.nets.proofs.fields.few_ends.Goals as goal

pub returns-then-kind_count-le-MOST_SOURCES : goal.returns-then-kind_count-le-MOST_SOURCES
returns-then-kind_count-le-MOST_SOURCES c =
    rw (le-leb _ 32 (subst (λ (k : ℕ). k ≤ 32) c.kind_count.ensures c.if-kind_count-le-MOST_SOURCES.true), c.kind_count-then-kind_count-le-MOST_SOURCES.ensures)

pub returns-else-kind_count-le-MOST_SOURCES : goal.returns-else-kind_count-le-MOST_SOURCES
returns-else-kind_count-le-MOST_SOURCES c =
    rw (lt-leb _ 32 (subst (λ (k : ℕ). 32 < k) c.kind_count.ensures c.if-kind_count-le-MOST_SOURCES.false)) (lt-leb _ 32 c.if-kind_count-le-MOST_SOURCES.false)
