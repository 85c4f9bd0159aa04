-- `hirunvel::rebuilding::hirunvel_rebuild` meets its contract.
use Rattle.hirunvel.specs.Rebuilding.{job_rebuilt}
use Rattle.hirunvel.proofs.rebuilding.hirunvel_rebuild.Goals as goal

pub returns : goal.returns
unfolding job_rebuilt
returns c =
    let done = rw c.from-head.ensures at c.rebuild-answer.ensures in
    rw (c.of_refusal.ensures, ← done)
