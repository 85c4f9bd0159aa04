-- `rebuild::write_chunks` meets its contract: each turn writes the chunk of one number.
use Rattle.rebuild.proofs.laws.ChunksWritten.{Underway}
use Rattle.rebuild.proofs.write_chunks.Given as goal

abbrev pub invariant-loop-number : goal.invariant-loop-number
invariant-loop-number l = Underway l.pool l.directory l.recipe l.output l.at l.number-index
