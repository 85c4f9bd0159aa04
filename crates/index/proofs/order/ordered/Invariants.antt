-- `index::order::ordered` meets its contract: what is still to pass gives what was asked.
use Rattle.index.proofs.laws.order.Passing.{Passing}
use Rattle.index.proofs.order.ordered.Given as goal

abbrev pub invariant-loop-number : goal.invariant-loop-number
invariant-loop-number l = Passing l.pool l.directory l.index l.count l.heads l.before l.end l.number
