-- No more words match than either list has, by what each answer of `compare` says.
-- Assumes nothing.
use Rattle.std.proofs.Common.{arith, ap, length}
use Rattle.netdiff.proofs.matching.Goals as goal

pub returns-in-Equal-clause-upper_bound_2 : goal.returns-in-Equal-clause-upper_bound_2
returns-in-Equal-clause-upper_bound_2 c = omega (arith, ap length c.in-Equal.ensures.says)

pub returns-in-FirstBegins-clause-upper_bound_2 : goal.returns-in-FirstBegins-clause-upper_bound_2
returns-in-FirstBegins-clause-upper_bound_2 c = omega (arith, c.in-FirstBegins.ensures.says.1)

pub returns-in-SecondBegins-clause-upper_bound : goal.returns-in-SecondBegins-clause-upper_bound
returns-in-SecondBegins-clause-upper_bound c = omega (arith, c.in-SecondBegins.ensures.says.1)

pub returns-in-Differ-clause-upper_bound : goal.returns-in-Differ-clause-upper_bound
returns-in-Differ-clause-upper_bound c = omega (arith, c.in-Differ.ensures.says.0)

pub returns-in-Differ-clause-upper_bound_2 : goal.returns-in-Differ-clause-upper_bound_2
returns-in-Differ-clause-upper_bound_2 c = omega (arith, c.in-Differ.ensures.says.1)
