-- `index::chains::along_all` meets its contract: after each chain the budget is what the chains so far leave.
use Rattle.std.proofs.Common.{◌≡◌}
use Rattle.store.specs.Memory.{contents}
use Rattle.index.specs.Along.{along_all}
use Rattle.index.proofs.chains.along_all.Given as goal

abbrev pub invariant-loop-chain : goal.invariant-loop-chain
invariant-loop-chain l = l.left ≡ along_all l.index (contents l.pool l.directory l.count) l.chain
