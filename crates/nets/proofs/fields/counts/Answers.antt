-- `nets::fields::counts` meets its contract: the counts of the block's ports, or none.
-- Assumes nothing.
use Rattle.std.proofs.Common.{◌≡◌, refl, ap, ◌∙◌, Option, Some, None}
use Rattle.std.specs.Option as option
use Rattle.blocks.specs.Ports.{input_count, output_count}
use Rattle.blocks.specs.declared.Ports.{Ports}
use Rattle.nets.specs.Block.{ins, outs}
use Rattle.nets.proofs.fields.counts.Goals as goal

abbrev no-ports : Ports
no-ports = record { inputs = 0; outputs = 0 }

ins-else : (o : Option Ports) → (option.unwrap_or o no-ports).inputs ≡ input_count o
ins-else (Some p) = refl
ins-else None = refl

outs-else : (o : Option Ports) → (option.unwrap_or o no-ports).outputs ≡ output_count o
outs-else (Some p) = refl
outs-else None = refl

pub returns-clause-inputs : goal.returns-clause-inputs
unfolding ins
returns-clause-inputs c = ap (λ (p : Ports). p.inputs) c.unwrap_or.ensures ∙ ins-else c.ports_of.result ∙ ap input_count c.ports_of.ensures

pub returns-clause-outputs : goal.returns-clause-outputs
unfolding outs
returns-clause-outputs c = ap (λ (p : Ports). p.outputs) c.unwrap_or.ensures ∙ outs-else c.ports_of.result ∙ ap output_count c.ports_of.ensures
