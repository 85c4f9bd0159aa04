-- `gear_table::next` meets its contract: the steps are those of the rule.
use Rattle.std.proofs.Common.{refl}
use Rattle.gear.specs.Gear.{next}
use Rattle.gear_table.proofs.next.Goals as goal

pub returns : goal.returns
unfolding next
returns c = refl
