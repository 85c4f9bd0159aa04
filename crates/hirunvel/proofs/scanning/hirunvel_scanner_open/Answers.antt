-- `hirunvel::scanning::hirunvel_scanner_open` meets its contract.
use Rattle.hirunvel.specs.Scanning.{scanner_opened}
use Rattle.hirunvel.proofs.scanning.hirunvel_scanner_open.Goals as goal

pub returns : goal.returns
unfolding scanner_opened
returns c =
    let opening = c.open-answer.ensures in
    rw (c.of_refusal.ensures, c.into.ensures, opening)
