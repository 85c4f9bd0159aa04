-- `rebuild::grounds::rebuilt_length` meets its contract: each turn counts the bytes of one number.
use Rattle.rebuild.proofs.laws.Recipes.{Counted}
use Rattle.rebuild.proofs.grounds.rebuilt_length.Given as goal

abbrev pub invariant-loop-number : goal.invariant-loop-number
invariant-loop-number l = Counted l.pool l.directory l.recipe l.number-index l.total
