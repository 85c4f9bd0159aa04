-- `gear_table::digit_at` meets its contract.
use Rattle.std.proofs.Common.{refl}
use Rattle.gear_table.specs.Line.{digit_at}
use Rattle.gear_table.proofs.digit_at.Goals as goal

pub returns : goal.returns
unfolding digit_at
returns c = refl
