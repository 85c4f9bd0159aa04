-- `chunker::finish` meets its contract.
use Rattle.refusal.proofs.laws.Tested.{passes, fails}
use Rattle.chunker.specs.Answers.{finished}
use Rattle.chunker.proofs.finish.Goals as goal

pub returns-in-Ok : goal.returns-in-Ok
unfolding finished
returns-in-Ok c = rw (c.fresh.ensures, passes c.scanner_ground.ensures c.in-Ok.is)

pub returns-in-Err : goal.returns-in-Err
unfolding finished
returns-in-Err c = rw (fails c.scanner_ground.ensures c.in-Err.is)
