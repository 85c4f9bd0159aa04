-- `chunker::ground::consistent` meets its contract.
use Rattle.std.proofs.Common.{rules}
use Rattle.chunker.specs.Scanner.{consistent}
use Rattle.chunker.proofs.ground.consistent.Goals as goal
use Rattle.chunker.proofs.ground.consistent.Goals.{then-place-ge1, else-place-ge1, then-place-count, else-place-count}

pub returns-then-count-place : goal.returns-then-count-place
unfolding consistent
returns-then-count-place c =
    elim c.if-place-ge1.branch [
      | then-place-ge1 v ↦ elim c.if-place-count.branch [
        | then-place-count w ↦ search rules
        | else-place-count w ↦ search rules
      ]
      | else-place-ge1 v ↦ elim c.if-place-count.branch [
        | then-place-count w ↦ search rules
        | else-place-count w ↦ search rules
      ]
    ]

pub returns-else-count-place : goal.returns-else-count-place
unfolding consistent
returns-else-count-place c =
    elim c.if-place-ge1.branch [
      | then-place-ge1 v ↦ elim c.if-place-count.branch [
        | then-place-count w ↦ search rules
        | else-place-count w ↦ search rules
      ]
      | else-place-ge1 v ↦ elim c.if-place-count.branch [
        | then-place-count w ↦ search rules
        | else-place-count w ↦ search rules
      ]
    ]
