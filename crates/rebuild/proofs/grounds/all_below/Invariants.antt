-- `rebuild::grounds::all_below` meets its contract: each turn tests one number.
use Rattle.rebuild.proofs.laws.Recipes.{Compared}
use Rattle.rebuild.proofs.grounds.all_below.Given as goal

abbrev pub invariant-loop-number : goal.invariant-loop-number
invariant-loop-number l = Compared l.chunks.0 l.recipe l.below l.number-index
