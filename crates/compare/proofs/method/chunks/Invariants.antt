-- `compare::method::chunks` meets its contract. Each turn ends one chunk.
use Rattle.std.proofs.Common.{◌≤◌, length}
use Rattle.compare.proofs.method.chunks.Given as goal

abbrev pub invariant-loop-place : goal.invariant-loop-place
invariant-loop-place l = length l.rest ≤ length l.job

abbrev pub decreases-loop-place : goal.decreases-loop-place
decreases-loop-place l = length l.rest
