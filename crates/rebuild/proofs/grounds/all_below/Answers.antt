-- `rebuild::grounds::all_below` meets its contract: each turn tests one number.
use Rattle.rebuild.proofs.laws.Recipes.{one_below, one_not_below, all_tested}
use Rattle.rebuild.proofs.grounds.all_below.Goals.{then-chunks-number, else-chunks-number}
use Rattle.rebuild.proofs.grounds.all_below.Goals as goal

pub loop-number-preserved : goal.loop-number-preserved
loop-number-preserved c =
    elim c.if-chunks-number.branch [
      | then-chunks-number w ↦ rw w.below-is (one_not_below c.loop-number.invariant c.loop-number-test.true w.if-chunks-number.true)
      | else-chunks-number w ↦ rw w.below-is (one_below c.loop-number.invariant c.loop-number-test.true w.if-chunks-number.false)
    ]

pub returns : goal.returns
returns c = all_tested c.loop-number.invariant c.loop-number-test.false
