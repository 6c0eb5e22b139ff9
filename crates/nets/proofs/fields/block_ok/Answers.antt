-- `nets::fields::block_ok` meets its contract: by the laws of a block's check, one for each way through the code.
-- Assumes nothing.
use mathlib.Core.Path.{sym, ◌∙◌}
use native.Mathlib.Omega.{arith}
use Rattle.blocks.proofs.Counts.{count_small}
use Rattle.nets.proofs.Blocks.{block-unused, block-value, block-ports}
use Rattle.nets.proofs.fields.block_ok.Goals as goal

pub returns-in_default : goal.returns-in_default
returns-in_default c = sym (block-unused c.args.b.now _ (sym c.ports_of.ensures ∙ c.in_default.is))

pub overflow_add-p : goal.overflow_add-p
overflow_add-p c = omega (arith, count_small _ _ c.in-Some.p (sym c.ports_of.ensures ∙ c.in-Some.is))

pub returns-then-value_ok : goal.returns-then-value_ok
returns-then-value_ok c =
    c.ports_ok.ensures ∙ block-ports _ _ c.in-Some.p (sym c.ports_of.ensures ∙ c.in-Some.is) (sym c.value_ok.ensures ∙ c.if-value_ok.true)

pub returns-else-value_ok : goal.returns-else-value_ok
returns-else-value_ok c =
    c.if-value_ok.false ∙ sym (block-value _ _ c.in-Some.p (sym c.ports_of.ensures ∙ c.in-Some.is) (sym c.value_ok.ensures ∙ c.if-value_ok.false))
