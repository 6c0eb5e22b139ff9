-- `nets::fields::ports_ok` meets its contract. The loop's invariant: the ports before `i` are in range.
-- Assumes nothing.
use mathlib.Core.Path.{sym, ◌∙◌}
use native.Mathlib.Omega.{arith}
use borrow.Author.Tests.{not-true, not-false}
use Rattle.nets.specs.Block.{ports_ok}
use Rattle.blocks.proofs.Folds.{all_none, all_more, all_fails, all_less}
use Rattle.nets.proofs.fields.ports_ok.Goals as goal

pub loop-i-init : goal.loop-i-init
loop-i-init c = all_none _

pub returns-then-not-port_ok : goal.returns-then-not-port_ok
unfolding ports_ok
returns-then-not-port_ok c = sym (all_fails _ 10 c.loop-i.i (omega arith) (sym c.port_ok.ensures ∙ search (not-true)))

pub loop-i-preserved : goal.loop-i-preserved
loop-i-preserved c = all_more _ c.loop-i.i c.loop-i.invariant (sym c.port_ok.ensures ∙ search (not-false))

pub returns : goal.returns
unfolding ports_ok
returns c = sym (all_less _ c.loop-i.i 10 (omega arith) c.loop-i.invariant)
