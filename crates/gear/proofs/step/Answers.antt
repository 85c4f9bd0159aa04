-- `gear::step` meets its contract: the static's entries are the table's.
use Rattle.std.proofs.Common.{get_or, ap, arith}
use Rattle.gear.proofs.theorems.Table.{numbers, table_numbers}
use Rattle.gear.proofs.step.Goals as goal

pub returns : goal.returns
unfolding numbers
returns c = omega (arith, ap (λ l. get_or l c.args.b 0) table_numbers)
