-- `survey::chunks::survey` meets its contract: each turn surveys the job's next chunk.
use Prim.Native.Nat.{◌-◌}
use lib.ListN.{length}
use Rattle.cut_counts.proofs.laws.Counting.{Counting}
use Rattle.survey.specs.internal.Snapshot.{snapshot}
use Rattle.survey.proofs.laws.chunks.Surveying.{Surveying}
use Rattle.survey.proofs.chunks.survey.Given as goal

abbrev pub invariant-loop-at : goal.invariant-loop-at
invariant-loop-at l =
    Surveying l.head l.pool l.directory l.index l.initial.recipe l.job (snapshot l.progress l.recipe) l.places.heads l.places.starts l.at
    × Counting l.head.window l.job l.cuts l.at

abbrev pub decreases-loop-at : goal.decreases-loop-at
decreases-loop-at l = length l.job - l.at
