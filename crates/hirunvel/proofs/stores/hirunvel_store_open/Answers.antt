-- `hirunvel::stores::hirunvel_store_open` meets its contract.
use Rattle.hirunvel.specs.Storing.{store_opened}
use Rattle.hirunvel.proofs.stores.hirunvel_store_open.Goals as goal

pub returns : goal.returns
unfolding store_opened
returns c =
    let opening = c.open-answer.ensures in
    rw (c.of_refusal.ensures, c.into.ensures, opening)
