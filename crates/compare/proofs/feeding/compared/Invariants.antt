-- `compare::feeding::compared` meets its contract. Each turn feeds the job in one splitting.
use Rattle.std.proofs.Common.{◌≤◌}
use Rattle.difference.specs.Difference.{Same}
use Rattle.compare.proofs.feeding.compared.Given as goal

abbrev pub invariant-loop : goal.invariant-loop
invariant-loop l = 1 ≤ l.counter → Same l.expected l.found
