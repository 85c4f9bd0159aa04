-- `chunk_count::hirunvel_chunk_count` meets its contract. Each turn takes one chunk.
use lib.ListN.{length}
use Rattle.chunk_count.proofs.laws.Counting.{Counted}
use Rattle.chunk_count.proofs.hirunvel_chunk_count.Given as goal

abbrev pub invariant-loop-rest : goal.invariant-loop-rest
invariant-loop-rest l = Counted l.window l.job l.n l.rest

abbrev pub decreases-loop-rest : goal.decreases-loop-rest
decreases-loop-rest l = length l.rest
