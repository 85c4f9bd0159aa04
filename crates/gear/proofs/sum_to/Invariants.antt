-- `gear::sum_to` meets its contract: the bytes before the place at hand are summed.
use Rattle.gear.proofs.laws.Stretches.{Summed}
use Rattle.gear.proofs.sum_to.Given as goal

abbrev pub invariant-loop-byte : goal.invariant-loop-byte
invariant-loop-byte l = Summed l.bytes 0 l.byte-index l.sum
