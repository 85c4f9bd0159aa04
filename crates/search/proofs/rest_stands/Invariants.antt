-- `search::rest_stands` meets its contract: each turn passes a byte that agrees.
use Rattle.search.specs.internal.Comparing.{Agree}
use Rattle.search.proofs.rest_stands.Given as goal

abbrev pub invariant-loop-i : goal.invariant-loop-i
invariant-loop-i l = Agree l.bytes l.from l.chunk l.at l.i
