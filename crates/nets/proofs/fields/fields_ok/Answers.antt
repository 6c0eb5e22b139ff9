-- `nets::fields::fields_ok` meets its contract. The loop's invariant: the entries before `i` pass.
-- Assumes nothing.
use mathlib.Core.Path.{sym, ◌∙◌}
use native.Mathlib.Omega.{arith}
use borrow.Author.Tests.{not-true, not-false}
use Rattle.blocks.proofs.Folds.{all_none, all_more}
use Rattle.nets.proofs.Nets.{fields_sizes, fields_entry, fields_in}
use Rattle.nets.proofs.fields.fields_ok.Goals as goal

pub returns-then-not-sizes_ok : goal.returns-then-not-sizes_ok
returns-then-not-sizes_ok c = sym (fields_sizes _ (sym c.sizes_ok.ensures ∙ search (not-true)))

pub loop-i-init : goal.loop-i-init
loop-i-init c = all_none _

pub returns-then-not-entry_ok : goal.returns-then-not-entry_ok
returns-then-not-entry_ok c = sym (fields_entry _ c.loop-i.i (omega arith) (sym c.entry_ok.ensures ∙ search (not-true)))

pub loop-i-preserved : goal.loop-i-preserved
loop-i-preserved c = all_more _ c.loop-i.i c.loop-i.invariant (sym c.entry_ok.ensures ∙ search (not-false))

pub returns : goal.returns
returns c = sym (fields_in _ (sym c.sizes_ok.ensures ∙ search (not-false)) c.loop-i.i (omega arith) c.loop-i.invariant)
