-- `block_scan::to_larger` meets its contract: each turn passes a byte that is not larger.
use Rattle.blocks.specs.internal.Largest.{AtMost}
use Rattle.block_scan.proofs.to_larger.Given as goal

abbrev pub invariant-loop-at : goal.invariant-loop-at
invariant-loop-at l = AtMost l.run.part.now l.run.at l.at l.run.value
