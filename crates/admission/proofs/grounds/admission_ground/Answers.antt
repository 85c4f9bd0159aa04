-- `admission::grounds::admission_ground` meets its contract.
use native.Mathlib.Omega.{arith}
use mathlib.Core.Path.{◌≡◌, sym, ap, ◌∙◌}
use mathlib.Core.Bool.{and-eq-true_iff}
use borrow.Author.Tests.{leb-true}
use Rattle.std.proofs.Common.{rules}
use Rattle.std.specs.Prelude.{Some}
use Rattle.std.specs.Result.{result_err}
use Rattle.refusal.specs.Number.{accepted}
use Rattle.refusal.proofs.laws.Tested.{passes, fails, allows, first_fails, first_passes}
use Rattle.store.specs.Grounds.{memory_allowed}
use Rattle.store.proofs.laws.grounds.Passed.{store_passed}
use Rattle.admission.specs.Grounds.{admission_ground}
use Rattle.admission.proofs.laws.grounds.Passed.{store_first}
use Rattle.admission.proofs.grounds.admission_ground.Goals as goal

pub returns-in_err-unless : goal.returns-in_err-unless
unfolding admission_ground
returns-in_err-unless c = search (rules, first_fails)

pub returns-in_err-unless-2 : goal.returns-in_err-unless-2
unfolding admission_ground
returns-in_err-unless-2 c = search (rules, first_fails, first_passes)

pub returns-in_err-unless-3 : goal.returns-in_err-unless-3
unfolding admission_ground
returns-in_err-unless-3 c = search (rules, first_fails, first_passes)

pub returns-in_err-store_ground : goal.returns-in_err-store_ground
returns-in_err-store_ground c =
    let told : result_err c.from_residual-in_err-store_ground.result ≡ Some c.in_err-store_ground.field-0.0 = search rules in
    let goes_on = store_first _ _ _ _ _ _ (sym c.window_allowed.ensures ∙ allows _ _ c.unless.ensures c.in_ok-unless.was)
    (sym c.job_allowed.ensures ∙ allows _ _ c.unless-2.ensures c.in_ok-unless-2.was)
    (sym c.recipe_allowed.ensures ∙ allows _ _ c.unless-3.ensures c.in_ok-unless-3.was) in
    told ∙ sym (goes_on ∙ rw (fails c.store_ground.ensures c.in_err-store_ground.was))

pub index_ground-requires-clause-directory_value :
    goal.index_ground-requires-clause-directory_value
index_ground-requires-clause-directory_value c =
    (store_passed _ _ _ (ap accepted (passes c.store_ground.ensures c.in_ok-store_ground.was))).fitting

pub index_ground-requires-clause-directory_len_bound :
    goal.index_ground-requires-clause-directory_len_bound
unfolding memory_allowed
index_ground-requires-clause-directory_len_bound c =
    let p = store_passed _ _ _ (ap accepted (passes c.store_ground.ensures c.in_ok-store_ground.was)) in
    let stores = simp and-eq-true_iff at p.memory in
    omega (arith, leb-true)

pub returns : goal.returns
returns c =
    let goes_on = store_first _ _ _ _ _ _ (sym c.window_allowed.ensures ∙ allows _ _ c.unless.ensures c.in_ok-unless.was)
    (sym c.job_allowed.ensures ∙ allows _ _ c.unless-2.ensures c.in_ok-unless-2.was)
    (sym c.recipe_allowed.ensures ∙ allows _ _ c.unless-3.ensures c.in_ok-unless-3.was) in
    c.index_ground.ensures ∙ sym (goes_on ∙ rw (passes c.store_ground.ensures c.in_ok-store_ground.was))
