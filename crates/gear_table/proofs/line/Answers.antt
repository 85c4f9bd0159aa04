-- `gear_table::line` meets its contract.
use Rattle.gear_table.specs.Line.{line}
use Rattle.gear_table.proofs.line.Goals as goal

pub returns : goal.returns
unfolding line
returns c = cc
