-- `blocks::any_larger` meets its contract.
use native.Mathlib.Omega.{arith}
use Rattle.blocks.proofs.laws.Windows.{asked_larger, asked_more, asked_all}
use Rattle.blocks.proofs.any_larger.Goals as goal
use Rattle.blocks.proofs.any_larger.Goals.{then-max-value, else-max-value}

pub loop-i-preserved : goal.loop-i-preserved
loop-i-preserved g c =
    elim c.if-max-value.branch [
      | then-max-value larger ↦ rw larger.any-is (asked_larger _ _ _ _ _ _ (omega arith) (omega arith) (omega arith) (omega arith))
      | else-max-value none ↦ rw none.any-is (asked_more _ _ _ _ _ _ _ c.loop-i.invariant (omega arith))
    ]

pub returns : goal.returns
returns g c = asked_all _ _ _ _ _ _ _ c.loop-i.invariant (omega arith) (omega arith)
