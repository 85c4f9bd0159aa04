-- `store::look_ground` meets its contract.
use mathlib.Core.Path.{◌≡◌, ◌∙◌}
use Rattle.std.proofs.Common.{rules}
use Rattle.std.specs.Prelude.{Some}
use Rattle.std.specs.Result.{result_err}
use Rattle.refusal.proofs.laws.Tested.{fails, passes}
use Rattle.store.proofs.laws.grounds.Passed.{look_fails, look_passes}
use Rattle.store.proofs.look_ground.Goals as goal

pub returns-in_err-store_ground : goal.returns-in_err-store_ground
returns-in_err-store_ground c =
    let told : result_err c.from_residual.result ≡ Some c.in_err-store_ground.field-0.0 = search rules in
    told ∙ look_fails _ _ _ _ (fails c.store_ground.ensures c.in_err-store_ground.was)

pub returns : goal.returns
returns c = search (rules, passes, look_passes)
