-- `blocks::first_largest` meets its contract.
use native.Mathlib.Omega.{arith}
use borrow.Author.Rules.{rules}
use Rattle.blocks.proofs.laws.Windows.{least_more, least_all}
use Rattle.blocks.proofs.first_largest.Goals as goal

pub loop-i-preserved : goal.loop-i-preserved
loop-i-preserved g c = least_more _ _ _ _ _ _ _ _ c.loop-i.invariant (omega arith) (omega arith) (omega arith)

pub returns : goal.returns
returns g c =
    let at-loop = c in
    rw c.peak_of.ensures (least_all _ _ _ _ _ _ _ c.loop-i.invariant (omega arith) (omega arith) (omega arith) (omega arith) (omega arith) (λ q. search rules))
