-- `index::chains::Indexed::along` meets its contract: what is left to step gives the whole.
use Rattle.std.proofs.Common.{◌≡◌, ◌+◌, ◌-◌, arith}
use Rattle.index.proofs.laws.chains.Stepping.{stepped_out, stepped_end, stepped_astray, stepped_on}
use Rattle.index.proofs.laws.chains.Stepping.{past_chunks, other_chain, this_chain}
use Rattle.index.proofs.chains.Indexed.along.Goals as goal

pub returns-then-at : goal.returns-then-at
returns-then-at c = stepped_end c.loop-taken.invariant c.if-at.true

pub returns-then-self-number : goal.returns-then-self-number
returns-then-self-number c =
    stepped_astray c.loop-taken.invariant (omega arith) c.if-at.false (past_chunks _ _ _ _ _ c.if-self-number.true)

pub returns-then-chain_at-chain : goal.returns-then-chain_at-chain
returns-then-chain_at-chain c =
    stepped_astray c.loop-taken.invariant (omega arith) c.if-at.false
    (other_chain _ _ _ _ _ _ c.chain_at.ensures c.if-self-number.false c.if-chain_at-chain.true)

pub loop-taken-preserved : goal.loop-taken-preserved
loop-taken-preserved c =
    let one : c.args.budget - (c.loop-taken.taken + 1) ≡ c.args.budget - c.loop-taken.taken - 1 = omega arith in
    rw one
    (stepped_on c.loop-taken.invariant (omega arith) c.if-at.false
    (this_chain _ _ _ _ _ _ c.chain_at.ensures c.if-self-number.false c.if-chain_at-chain.false))

pub returns : goal.returns
returns c = stepped_out c.loop-taken.invariant (omega arith)
