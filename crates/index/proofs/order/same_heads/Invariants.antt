-- `index::order::same_heads` meets its contract.
use Rattle.index.proofs.laws.order.Comparing.{Compared}
use Rattle.index.proofs.order.same_heads.Given as goal

abbrev pub invariant-loop-chain : goal.invariant-loop-chain
invariant-loop-chain l = Compared l.heads l.index l.same l.chain
