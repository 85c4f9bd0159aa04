-- `hirunvel::stores::hirunvel_store_take` meets its contract.
use mathlib.Core.Path.{◌≡◌, ◌∙◌}
use mathlib.Core.Bool.{cond}
use mir.Syntax.{w64}
use mir.Val.{to_z, of_z}
use Rattle.std.proofs.Common.{rules}
use Rattle.refusal.specs.Number.{accepted}
use Rattle.numbers.specs.Storing.{head_numbers}
use Rattle.hirunvel.specs.Storing.{store_taken}
use Rattle.hirunvel.proofs.laws.Told.{told_none}
use Rattle.hirunvel.proofs.stores.hirunvel_store_take.Goals as goal
use Rattle.hirunvel.proofs.stores.hirunvel_store_take.Goals.{then-is_none, else-is_none}

pub returns : goal.returns
unfolding store_taken
returns c =
    let answer = c.take-answer.result in
    let done = rw c.from-before.ensures at c.take-answer.ensures in
    let z = answer.quoted.saving in
    let kept : to_z w64 (of_z w64 z) ≡ z = search rules in
    let head : c.if-is_none.head ≡ cond (accepted answer.quoted.refusal) (head_numbers answer.head) c.args.head.now =
    elim c.if-is_none.branch [
      | then-is_none moved ↦ rw (told_none _ _ c.is_none.ensures ∙ moved.if-is_none.true) (moved.head-is ∙ moved.into-then-is_none.ensures)
      | else-is_none same ↦ rw (told_none _ _ c.is_none.ensures ∙ same.if-is_none.false) same.head-is
    ] in
    rw (← done, c.of_refusal.ensures, head, c.into.ensures, kept)
