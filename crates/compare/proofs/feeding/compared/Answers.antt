-- `compare::feeding::compared` meets its contract: no difference was told of this turn's list.
use Rattle.std.proofs.Common.{sym, ◌∙◌}
use Rattle.difference.proofs.theorems.NoDifference.{no_difference}
use Rattle.compare.proofs.feeding.compared.Goals as goal

pub loop-preserved : goal.loop-preserved
loop-preserved c = λ h. (no_difference _ _).0 (sym c.first_difference.ensures ∙ c.in_default.is)
