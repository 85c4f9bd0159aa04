-- `hirunvel::scanning::hirunvel_scanner_feed` meets its contract.
use native.Mathlib.Omega.{arith}
use mathlib.Core.Path.{refl, sym, ◌∙◌}
use Rattle.scan.proofs.laws.Soundness.{fresh_sound}
use Rattle.chunker.proofs.laws.ground.Soundness.{sound_ground, fed_accepted}
use Rattle.hirunvel.proofs.laws.scanning.Answers.{fed_starts}
use Rattle.hirunvel.proofs.scanning.hirunvel_scanner_feed.Goals as goal

pub returns : goal.returns
returns c =
    let start = c.if-not-untouched.ensures.numbers_value refl in
    let accepted = sound_ground _ (fresh_sound _ (omega arith) (omega arith)) in
    let answered = c.from_start.ensures ∙ sym (fed_accepted _ c.args.part.now accepted) in
    c.hand_over.ensures ∙ sym (fed_starts c.args.scanner.now start c.args.part.now _ answered)
