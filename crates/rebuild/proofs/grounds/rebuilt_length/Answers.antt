-- `rebuild::grounds::rebuilt_length` meets its contract: each turn counts the bytes of one number.
use mathlib.Core.Path.{◌∙◌}
use Rattle.rebuild.proofs.laws.Recipes.{one_counted, all_counted}
use Rattle.rebuild.proofs.laws.LocatedChunks.{located_length}
use Rattle.rebuild.proofs.grounds.rebuilt_length.Goals as goal

pub loop-number-preserved : goal.loop-number-preserved
loop-number-preserved c =
    one_counted c.loop-number.invariant _ c.loop-number-test.true
    (c.length_of.ensures ∙ located_length c.requires.located c.loop-number.number-index c.loop-number-test.true)

pub returns : goal.returns
returns c = all_counted c.loop-number.invariant c.loop-number-test.false
