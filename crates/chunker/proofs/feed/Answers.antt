-- `chunker::feed` meets its contract.
use native.Mathlib.Omega.{arith}
use Rattle.refusal.proofs.laws.Tested.{passes, fails}
use Rattle.chunker.specs.Answers.{fed}
use Rattle.chunker.proofs.laws.ground.Soundness.{ground_sound}
use Rattle.chunker.proofs.feed.Goals as goal

pub scan-requires : goal.scan-requires
scan-requires c = ground_sound _ (omega arith) (passes c.scanner_ground.ensures c.in-Ok.is)

pub returns-in-Ok : goal.returns-in-Ok
unfolding fed
returns-in-Ok c = rw (c.scan.ensures, passes c.scanner_ground.ensures c.in-Ok.is)

pub returns-in-Err : goal.returns-in-Err
unfolding fed
returns-in-Err c = rw (c.unmoved.ensures, fails c.scanner_ground.ensures c.in-Err.is)
