-- `listing::read_job` meets its contract: each iteration brings some bytes, so that fewer are left to read.
use Rattle.std.proofs.Common.{◌-◌, ◌≤◌, length}
use Rattle.listing.proofs.read_job.Given as goal

abbrev pub invariant-loop-have : goal.invariant-loop-have
invariant-loop-have g l = l.have ≤ length l.job

abbrev pub decreases-loop-have : goal.decreases-loop-have
decreases-loop-have g l = length l.job - l.have
