-- `chunker::ground::scanner_ground` meets its contract.
use Rattle.std.proofs.Common.{rules}
use Rattle.refusal.proofs.laws.Tested.{first_fails, first_passes}
use Rattle.chunker.specs.Scanner.{sound, scanner_ground}
use Rattle.chunker.proofs.ground.scanner_ground.Goals as goal

pub returns-in_err-unless : goal.returns-in_err-unless
unfolding scanner_ground
returns-in_err-unless c = search (rules, first_fails, c.window_allowed.ensures)

pub returns : goal.returns
unfolding scanner_ground sound
returns c = search (rules, first_passes)
