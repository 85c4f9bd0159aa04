-- `index::order::ordered` meets its contract: what is still to pass gives what was asked.
use Rattle.std.proofs.Common.{◌∙◌, arith}
use Rattle.index.proofs.laws.order.Passing.{passing_none, passing_inside, passing_chain, passing_other, passing_on, passing_all}
use Rattle.index.proofs.order.ordered.Goals as goal

pub loop-number-init : goal.loop-number-init
loop-number-init c = passing_none _ _ _ _ c.requires.directory_value

pub overflow_add-end : goal.overflow_add-end
overflow_add-end c = omega (arith, c.length_of-size.ensures, passing_inside c.loop-number.invariant c.loop-number-test.true)

pub sum_to-whole-requires : goal.sum_to-whole-requires
sum_to-whole-requires c = omega (arith, c.length_of-size.ensures, passing_inside c.loop-number.invariant c.loop-number-test.true)

pub returns-then-index-number : goal.returns-then-index-number
returns-then-index-number c =
    passing_other c.loop-number.invariant c.loop-number-test.true _ c.length_of-size.ensures _ c.sum_to-whole.ensures _
    (passing_chain c.loop-number.invariant c.loop-number-test.true _ c.length_of-size.ensures _ c.sum_to-whole.ensures _ _ c.without.ensures
    c.chain_of-chain.ensures.chain)
    (λ e. omega (arith, c.if-index-number.true, c.as_link.ensures))

pub loop-number-preserved : goal.loop-number-preserved
loop-number-preserved c =
    passing_on c.loop-number.invariant c.loop-number-test.true _ c.length_of-size.ensures _ c.sum_to-whole.ensures _
    (passing_chain c.loop-number.invariant c.loop-number-test.true _ c.length_of-size.ensures _ c.sum_to-whole.ensures _ _ c.without.ensures
    c.chain_of-chain.ensures.chain)
    (omega (arith, c.if-index-number.false, c.as_link.ensures))

pub returns : goal.returns
returns c = c.same_heads.ensures ∙ passing_all c.loop-number.invariant (omega arith)
