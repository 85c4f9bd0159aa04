-- `compare::feeding::chunks` meets its contract. Each turn feeds one part.
use Rattle.std.proofs.Common.{◌≤◌, length}
use Rattle.compare.proofs.feeding.chunks.Given as goal

abbrev pub invariant-loop : goal.invariant-loop
invariant-loop l = l.at ≤ length l.job
