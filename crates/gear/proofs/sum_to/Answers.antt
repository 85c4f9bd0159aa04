-- `gear::sum_to` meets its contract: no other bytes show than the last 32.
use Rattle.std.proofs.Common.{◌∙◌, refl, rules}
use Rattle.std.proofs.lemmas.List.{get_or-take}
use Rattle.gear.proofs.laws.Stretches.{summed_none, summed_more, last_32_show}
use Rattle.gear.proofs.sum_to.Goals as goal

pub loop-byte-init : goal.loop-byte-init
loop-byte-init c = summed_none _ _ _ (search rules)

pub loop-byte-preserved : goal.loop-byte-preserved
loop-byte-preserved c =
    let read = get_or-take c.args.end c.args.bytes.now c.loop-byte.byte-index 0 (search rules) in
    summed_more c.loop-byte.invariant _ _ refl (search rules) (rw read at c.step-sum.ensures)

pub returns-then-end-ge32 : goal.returns-then-end-ge32
returns-then-end-ge32 c = c.last_32.ensures ∙ last_32_show _ c.args.end (search rules) (search rules)
