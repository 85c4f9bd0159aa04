-- `index::chains::along_all` meets its contract: after each chain the budget is what the chains so far leave.
use Rattle.std.proofs.Common.{refl, rules}
use Rattle.index.proofs.laws.chains.Stepping.{chains_begun, chains_more, chains_all}
use Rattle.index.proofs.chains.along_all.Goals as goal

pub loop-chain-init : goal.loop-chain-init
loop-chain-init c = chains_begun _ _ _ _ _ refl

pub loop-chain-preserved : goal.loop-chain-preserved
loop-chain-preserved c = chains_more _ _ _ _ c.loop-chain.invariant _ c.along-left.ensures

pub returns : goal.returns
returns c = chains_all _ _ _ _ c.loop-chain.invariant (search rules) (search rules)
