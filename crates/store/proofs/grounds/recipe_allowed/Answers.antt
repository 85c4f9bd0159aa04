-- `store::grounds::recipe_allowed` meets its contract.
use mathlib.Core.Path.{refl}
use Rattle.store.specs.Grounds.{recipe_allowed}
use Rattle.store.proofs.grounds.recipe_allowed.Goals as goal

pub returns : goal.returns
unfolding recipe_allowed
returns c = refl
