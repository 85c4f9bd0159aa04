-- `hirunvel::scanning::feed_general` meets its contract.
use mathlib.Core.Path.{◌≡◌, ap, ◌∙◌}
use mathlib.Core.Bool.{cond}
use Rattle.refusal.specs.Number.{accepted}
use Rattle.chunker.specs.Answers.{fed}
use Rattle.numbers.specs.Scanning.{numbers_of}
use Rattle.hirunvel.proofs.laws.Told.{told_none}
use Rattle.hirunvel.proofs.laws.scanning.Answers.{fed_over, fed_after}
use Rattle.hirunvel.proofs.scanning.feed_general.Goals as goal
use Rattle.hirunvel.proofs.scanning.feed_general.Goals.{then-is_none, else-is_none}

pub returns-then-lent-eq0 : goal.returns-then-lent-eq0
returns-then-lent-eq0 c = c.feed_start.ensures

pub returns-after-is_none : goal.returns-after-is_none
returns-after-is_none c =
    let a = c.args in
    let f = c.feed-answer.result in
    let answered = c.feed-answer.ensures ∙ ap (λ s. fed s a.part.now) c.in-Ok.ensures.0 in
    let scanner : c.if-is_none.scanner ≡ cond (accepted f.refusal) (numbers_of f.scanner) a.scanner.now =
    elim c.if-is_none.branch [
      | then-is_none moved ↦ rw (told_none _ _ c.is_none.ensures ∙ moved.if-is_none.true) (moved.scanner-is ∙ moved.into-then-is_none.ensures)
      | else-is_none kept ↦ rw (told_none _ _ c.is_none.ensures ∙ kept.if-is_none.false) kept.scanner-is
    ] in
    rw (fed_after a.scanner.now c.in-Ok.ensures.1 a.part.now f answered, c.of_refusal.ensures, scanner, c.into.ensures)

pub returns-in-Err : goal.returns-in-Err
returns-in-Err c =
    let refused = c.in-Err.ensures in
    rw (fed_over _ refused.1 _, ← refused.0, c.of_refusal-in-Err.ensures)
