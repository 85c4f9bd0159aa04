-- `hirunvel::scanning::feed_start` meets its contract.
use mathlib.Core.Path.{sym, ◌∙◌}
use Rattle.hirunvel.proofs.laws.scanning.Answers.{fed_unsound, fed_starts}
use Rattle.hirunvel.proofs.scanning.feed_start.Goals as goal

pub returns-then-untouched : goal.returns-then-untouched
returns-then-untouched c =
    let start = c.untouched.ensures.numbers_value c.if-untouched.true in
    c.hand_over.ensures ∙ sym (fed_starts c.args.scanner.now start c.args.part.now _ c.feed_fresh.ensures)

pub returns : goal.returns
returns c =
    let touched = sym c.untouched.ensures.value ∙ c.if-untouched.false in
    rw (fed_unsound c.args.scanner.now c.requires touched _, ← c.unsound.ensures, c.of_refusal.ensures)
