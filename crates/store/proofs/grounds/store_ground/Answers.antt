-- `store::grounds::store_ground` meets its contract.
use Rattle.std.proofs.Common.{rules}
use Rattle.refusal.proofs.laws.Tested.{first_fails, first_passes}
use Rattle.store.specs.Grounds.{store_ground}
use Rattle.store.proofs.grounds.store_ground.Goals as goal

pub returns-in_err-unless : goal.returns-in_err-unless
unfolding store_ground
returns-in_err-unless c = search (rules, first_fails)

pub returns-in_err-unless-2 : goal.returns-in_err-unless-2
unfolding store_ground
returns-in_err-unless-2 c = search (rules, first_fails, first_passes)

pub returns : goal.returns
unfolding store_ground
returns c = search (rules, first_passes)
