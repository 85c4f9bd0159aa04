-- `rebuild::grounds::rebuild_ground` meets its contract.
use mathlib.Core.Path.{◌≡◌, ap, sym, ◌∙◌}
use borrow.Author.Tests.{leb-true}
use Rattle.std.proofs.Common.{rules}
use Rattle.std.specs.Prelude.{Some}
use Rattle.std.specs.Result.{result_err}
use Rattle.refusal.specs.Number.{accepted}
use Rattle.refusal.proofs.laws.Tested.{passes, fails, allows, refuses, first_fails, first_passes}
use Rattle.store.specs.Grounds.{recipe_allowed}
use Rattle.store.specs.Limits.{recipe_limit}
use Rattle.rebuild.specs.Rebuilding.{rebuild_ground}
use Rattle.rebuild.proofs.laws.grounds.RebuildGround.{after_recipe, pool_small, numbers_located}
use Rattle.rebuild.proofs.grounds.rebuild_ground.Goals as goal

pub returns-in_err-unless-clause-refusal : goal.returns-in_err-unless-clause-refusal
unfolding rebuild_ground
returns-in_err-unless-clause-refusal c = search (rules, first_fails)

pub returns-in_err-unless-2-clause-refusal : goal.returns-in_err-unless-2-clause-refusal
unfolding rebuild_ground
returns-in_err-unless-2-clause-refusal c = search (rules, first_fails, first_passes)

pub returns-in_err-store_ground-clause-refusal : goal.returns-in_err-store_ground-clause-refusal
returns-in_err-store_ground-clause-refusal c =
    let told : result_err c.from_residual-in_err-store_ground.result ≡ Some c.in_err-store_ground.field-0.0 = search rules in
    let goes_on = after_recipe _ _ _ _ _ (sym c.window_allowed.ensures ∙ allows _ _ c.unless.ensures c.in_ok-unless.was)
    (sym c.recipe_allowed.ensures ∙ allows _ _ c.unless-2.ensures c.in_ok-unless-2.was) in
    told ∙ sym (goes_on ∙ rw (fails c.store_ground.ensures c.in_err-store_ground.was))

pub returns-in_err-unless-3-clause-refusal : goal.returns-in_err-unless-3-clause-refusal
returns-in_err-unless-3-clause-refusal c =
    let told : result_err c.from_residual-in_err-unless-3.result ≡ Some c.in_err-unless-3.field-0.0 = search rules in
    let goes_on = after_recipe _ _ _ _ _ (sym c.window_allowed.ensures ∙ allows _ _ c.unless.ensures c.in_ok-unless.was)
    (sym c.recipe_allowed.ensures ∙ allows _ _ c.unless-2.ensures c.in_ok-unless-2.was) in
    let full = refuses _ _ (rw c.all_below.ensures at c.unless-3.ensures) c.in_err-unless-3.was in
    told ∙ sym (goes_on ∙ rw (passes c.store_ground.ensures c.in_ok-store_ground.was, full.0) (ap Some full.1))

pub rebuilt_length-total-requires-clause-pool_len_bound :
    goal.rebuilt_length-total-requires-clause-pool_len_bound
rebuilt_length-total-requires-clause-pool_len_bound c =
    pool_small _ _ _ (ap accepted (passes c.store_ground.ensures c.in_ok-store_ground.was))

pub rebuilt_length-total-requires-clause-recipe_len_bound :
    goal.rebuilt_length-total-requires-clause-recipe_len_bound
unfolding recipe_allowed
rebuilt_length-total-requires-clause-recipe_len_bound c =
    leb-true _ recipe_limit (sym c.recipe_allowed.ensures ∙ allows _ _ c.unless-2.ensures c.in_ok-unless-2.was)

pub rebuilt_length-total-requires-clause-located :
    goal.rebuilt_length-total-requires-clause-located
rebuilt_length-total-requires-clause-located c =
    numbers_located _ _ _ _ (ap accepted (passes c.store_ground.ensures c.in_ok-store_ground.was))
    (sym c.all_below.ensures ∙ allows _ _ c.unless-3.ensures c.in_ok-unless-3.was)

pub returns-in_err-unless-4-clause-refusal : goal.returns-in_err-unless-4-clause-refusal
returns-in_err-unless-4-clause-refusal c =
    let told : result_err c.from_residual-in_err-unless-4.result ≡ Some c.in_err-unless-4.field-0.0 = search rules in
    let goes_on = after_recipe _ _ _ _ _ (sym c.window_allowed.ensures ∙ allows _ _ c.unless.ensures c.in_ok-unless.was)
    (sym c.recipe_allowed.ensures ∙ allows _ _ c.unless-2.ensures c.in_ok-unless-2.was) in
    let below = sym c.all_below.ensures ∙ allows _ _ c.unless-3.ensures c.in_ok-unless-3.was in
    let short = refuses _ _ (rw c.rebuilt_length-total.ensures at c.unless-4.ensures) c.in_err-unless-4.was in
    told ∙ sym (goes_on ∙ rw (passes c.store_ground.ensures c.in_ok-store_ground.was, below, short.0) (ap Some short.1))

pub returns-clause-refusal : goal.returns-clause-refusal
returns-clause-refusal c =
    let goes_on = after_recipe _ _ _ _ _ (sym c.window_allowed.ensures ∙ allows _ _ c.unless.ensures c.in_ok-unless.was)
    (sym c.recipe_allowed.ensures ∙ allows _ _ c.unless-2.ensures c.in_ok-unless-2.was) in
    let below = sym c.all_below.ensures ∙ allows _ _ c.unless-3.ensures c.in_ok-unless-3.was in
    let room = rw c.rebuilt_length-total.ensures at (allows _ _ c.unless-4.ensures c.in_ok-unless-4.was) in
    sym (goes_on ∙ rw (passes c.store_ground.ensures c.in_ok-store_ground.was, below, room))
