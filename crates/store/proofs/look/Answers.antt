-- `store::look` meets its contract.
use native.Mathlib.Omega.{arith}
use native.Mathlib.Nat.{add-sub_cancel_left}
use mathlib.Core.Path.{ap, ◌∙◌}
use borrow.Author.Rules.{rules}
use Rattle.refusal.specs.Number.{accepted}
use Rattle.refusal.proofs.laws.Tested.{fails, passes}
use Rattle.store.specs.Looking.{shown}
use Rattle.store.proofs.laws.Stretches.{look_placed, stretch_found}
use Rattle.store.proofs.look.Goals as goal

pub slice_bounds-result-end : goal.slice_bounds-result-end
slice_bounds-result-end c =
    let p = look_placed _ _ _ _ (ap accepted (passes c.look_ground.ensures c.in-Ok.is)) in
    let found = c.stretch_of-stretch.ensures ∙ stretch_found _ _ p.in_directory in
    omega (arith, ap (λ t. t.offset.0) found, ap (λ t. t.length) found, p.within, p.in_pool)

pub returns-in-Ok : goal.returns-in-Ok
unfolding shown
returns-in-Ok c =
    let none = passes c.look_ground.ensures c.in-Ok.is in
    let p = look_placed _ _ _ _ (ap accepted none) in
    let found = c.stretch_of-stretch.ensures ∙ stretch_found _ _ p.in_directory in
    rw (none, add-sub_cancel_left, ap (λ t. t.offset.0) found, ap (λ t. t.length) found)

pub returns-in-Err : goal.returns-in-Err
unfolding shown
returns-in-Err c = rw (fails c.look_ground.ensures c.in-Err.is) (search rules)
