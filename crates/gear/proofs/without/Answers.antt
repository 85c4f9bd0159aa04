-- `gear::without` meets its contract: 32 bytes or more leave nothing of the sum before them.
use Rattle.std.proofs.Common.{rules}
use Rattle.gear.proofs.laws.After.{after_many, after_few}
use Rattle.gear.proofs.without.Goals as goal

pub returns-then-size-ge32 : goal.returns-then-size-ge32
returns-then-size-ge32 c = after_many _ _ _ (search rules) (search rules)

pub returns : goal.returns
returns c = after_few _ _ _ _ (search rules) (search rules)
