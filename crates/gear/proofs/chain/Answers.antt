-- `gear::chain` meets its contract: it sums up to the end.
use Rattle.std.proofs.Common.{◌/◌, ◌^◌, ap, ◌∙◌}
use lib.Seq.{take-length}
use Rattle.gear.specs.Gear.{sum}
use Rattle.gear.proofs.laws.Sums.{chain_sum}
use Rattle.gear.proofs.chain.Goals as goal

pub returns-clause-chain : goal.returns-clause-chain
returns-clause-chain c =
    c.chain_of.ensures.chain ∙ ap (λ s. s / 2 ^ 22) (c.sum_to.ensures ∙ ap sum (take-length _)) ∙ chain_sum _
