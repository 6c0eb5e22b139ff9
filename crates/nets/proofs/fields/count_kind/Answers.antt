-- `nets::fields::count_kind` meets its contract: the count of the list's elements is that of its indices.
-- Assumes nothing.
use Rattle.std.proofs.Common.{rules, arith, ◌≡◌, ◌∙◌, count_by, take, eqb}
use Rattle.nets.specs.Block.{no_block}
use Rattle.blocks.specs.declared.Block.{Block}
use Rattle.blocks.specs.Numbers.{kind_number}
use Rattle.nets.proofs.Chains.{count_taken}
use Rattle.nets.proofs.fields.count_kind.Goals as goal

pub returns : goal.returns
returns c =
    let e : c.count.result ≡ count_by (λ (b : Block). eqb b.kind (kind_number c.args.kind)) (take c.args.size c.args.blocks.now) = search rules in
    e ∙ count_taken _ no_block c.args.blocks.now c.args.size (omega arith)
