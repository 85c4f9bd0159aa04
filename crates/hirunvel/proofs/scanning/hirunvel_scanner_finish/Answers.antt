-- `hirunvel::scanning::hirunvel_scanner_finish` meets its contract.
use mathlib.Core.Path.{◌≡◌, ap, ◌∙◌}
use mathlib.Core.Bool.{cond}
use Rattle.refusal.specs.Number.{accepted}
use Rattle.chunker.specs.Answers.{finished}
use Rattle.numbers.specs.Scanning.{numbers_of}
use Rattle.hirunvel.proofs.laws.Told.{told_none}
use Rattle.hirunvel.proofs.laws.scanning.Answers.{finished_over, finished_after}
use Rattle.hirunvel.proofs.scanning.hirunvel_scanner_finish.Goals as goal
use Rattle.hirunvel.proofs.scanning.hirunvel_scanner_finish.Goals.{then-is_none, else-is_none}

pub returns-after-is_none : goal.returns-after-is_none
returns-after-is_none c =
    let a = c.args in
    let f = c.finish-answer.result in
    let answered = c.finish-answer.ensures ∙ ap finished c.in-Ok.ensures.0 in
    let scanner : c.if-is_none.scanner ≡ cond (accepted f.refusal) (numbers_of f.scanner) a.scanner.now =
    elim c.if-is_none.branch [
      | then-is_none moved ↦ rw (told_none _ _ c.is_none.ensures ∙ moved.if-is_none.true) (moved.scanner-is ∙ moved.into.ensures)
      | else-is_none kept ↦ rw (told_none _ _ c.is_none.ensures ∙ kept.if-is_none.false) kept.scanner-is
    ] in
    rw (finished_after a.scanner.now c.in-Ok.ensures.1 f answered, c.of_refusal.ensures, scanner, c.from.ensures)

pub returns-in-Err : goal.returns-in-Err
returns-in-Err c =
    let refused = c.in-Err.ensures in
    rw (finished_over _ refused.1, ← refused.0, c.of_refusal-in-Err.ensures)
