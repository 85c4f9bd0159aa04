-- `gear::last_32` meets its contract: each stretch of eight bytes is summed as far as the first is.
use Rattle.std.proofs.Common.{refl, rules}
use Rattle.gear.proofs.laws.Stretches.{summed_none, summed_more, summed_all, summed_joined}
use Rattle.gear.proofs.last_32.Goals as goal

pub loop-at-init : goal.loop-at-init
loop-at-init c = record {
  first = summed_none _ _ _ (search rules);
  second = summed_none _ _ _ (search rules);
  third = summed_none _ _ _ (search rules);
  fourth = summed_none _ _ _ (search rules);
}

pub loop-at-preserved : goal.loop-at-preserved
loop-at-preserved c =
    let inv = c.loop-at.invariant in
    record {
      first = summed_more inv.first _ _ refl (search rules) c.step-first.ensures;
      second = summed_more inv.second _ _ (search rules) (search rules) c.step-second.ensures;
      third = summed_more inv.third _ _ (search rules) (search rules) c.step-third.ensures;
      fourth = summed_more inv.fourth _ _ (search rules) (search rules) c.step-fourth.ensures;
    }

pub returns : goal.returns
returns c =
    let inv = c.loop-at.invariant in
    let two = summed_joined inv.first inv.second _ (search rules) (search rules) (search rules) c.joined.ensures in
    let three = summed_joined two inv.third _ (search rules) (search rules) (search rules) c.joined-2.ensures in
    summed_all (summed_joined three inv.fourth _ (search rules) (search rules) (search rules) c.joined-3.ensures) 32 (search rules)
