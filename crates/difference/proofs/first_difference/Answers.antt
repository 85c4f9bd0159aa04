-- `difference::first_difference` meets its contract: the chain gives the first pair of unlike numbers.
use Rattle.std.proofs.Common.{arith, rules, ◌≡◌, ◌+◌, ◌∙◌, take, suc}
use borrow.Author.Tests.{tests}
use Rattle.std.proofs.lemmas.Grind.{common_steps}
use Rattle.std.proofs.lemmas.Iterator.{YieldsList-from_zip, YieldsList-from_slice}
use Rattle.std.proofs.lemmas.Iterator.Search.{position_from_yields_List}
use Rattle.std.specs.Slice.Iter.{iter_rest}
use Rattle.difference.specs.Difference.{count}
use Rattle.difference.proofs.laws.Comparing.{differ, first_short, second_short, both_whole}
use Rattle.difference.proofs.first_difference.Goals.{then-expected-count-via-then-expected-count, then-expected-count-via-else-expected-count+then-found-count}
use Rattle.difference.proofs.first_difference.Goals as goal

pub returns-in_default : goal.returns-in_default
returns-in_default c = first_short _ _ (grind (arith, common_steps))

pub returns-then-expected-count : goal.returns-then-expected-count
returns-then-expected-count c =
    elim c.then-expected-count.branch [
      | then-expected-count-via-then-expected-count w ↦ first_short _ _ (grind (arith, common_steps))
      | then-expected-count-via-else-expected-count+then-found-count w ↦
          second_short _ _ (grind (arith, common_steps)) (grind (arith, common_steps))
    ]

pub returns : goal.returns
returns c =
    let expected = c.args.expected.now in
    let found = c.args.found.now in
    let follow : suc (count expected) ≡ c.in-Some.field-0.now + 1 = grind (arith, common_steps) in
    let numbers : iter_rest c.zip.result.a ≡ take (suc (count expected)) expected =
    rw (c.zip.ensures.first, follow) c.iter.ensures.rest in
    let others : iter_rest c.zip.result.b ≡ found = search rules in
    let first =
    position_from_yields_List differ c.position.new.self _ c.position.result c.position.ensures.ran
    (YieldsList-from_zip (YieldsList-from_slice _ numbers) (YieldsList-from_slice _ others))
    (λ x unlike after called. search (rules, tests)) in
    first ∙ both_whole _ _ (grind (arith, common_steps)) (grind (arith, common_steps))
