-- `index::order::same_heads` meets its contract.
use Rattle.std.proofs.Common.{arith}
use Rattle.index.proofs.laws.order.Comparing.{compared_none, compared_other, compared_equal, compared_all}
use Rattle.index.proofs.order.same_heads.Goals as goal
use Rattle.index.proofs.order.same_heads.Goals.{then-as_link-index, else-as_link-index}

pub loop-chain-init : goal.loop-chain-init
loop-chain-init c = compared_none _ _

pub loop-chain-preserved : goal.loop-chain-preserved
loop-chain-preserved c =
    let at = c.loop-chain.invariant in
    elim c.if-as_link-index.branch [
      | then-as_link-index w ↦
          rw w.same-is
          (compared_other at (omega arith) c.requires c.loop-chain-test.true _ c.as_link.ensures w.if-as_link-index.true)
      | else-as_link-index w ↦
          rw w.same-is
          (compared_equal at (omega arith) c.requires c.loop-chain-test.true _ c.as_link.ensures w.if-as_link-index.false)
    ]

pub returns : goal.returns
returns c = compared_all c.loop-chain.invariant (omega arith) c.requires c.loop-chain-test.false
