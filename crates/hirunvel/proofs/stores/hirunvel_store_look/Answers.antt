-- `hirunvel::stores::hirunvel_store_look` meets its contract.
use mathlib.Core.Path.{ap, ◌∙◌}
use Rattle.refusal.specs.Number.{accepted}
use Rattle.refusal.proofs.laws.Tested.{passes, fails}
use Rattle.hirunvel.specs.Storing.{store_looked}
use Rattle.store.proofs.laws.Stretches.{look_placed, stretch_found}
use Rattle.hirunvel.proofs.stores.hirunvel_store_look.Goals as goal

pub returns-in-Err : goal.returns-in-Err
unfolding store_looked
returns-in-Err c =
    let ground = fails (rw c.from-head.ensures at c.look_ground.ensures) c.in-Err.is in
    rw (ground, c.of_refusal.ensures)

pub returns : goal.returns
unfolding store_looked
returns c =
    let ground = passes (rw c.from-head.ensures at c.look_ground.ensures) c.in_default.is in
    let placed = look_placed _ _ _ _ (ap accepted ground) in
    let found = c.stretch_of-found.ensures ∙ stretch_found _ _ placed.in_directory in
    rw (ground, c.of_refusal-2.ensures, c.from.ensures, c.from-2.ensures, found)
