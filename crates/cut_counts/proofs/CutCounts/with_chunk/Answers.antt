-- `CutCounts::with_chunk` meets its contract.
use borrow.Author.Tests.{not-true, not-false}
use Rattle.cut_counts.proofs.laws.Counting.{uncut_chunk, cut_chunk}
use Rattle.cut_counts.proofs.CutCounts.with_chunk.Goals as goal

pub returns-then-not-chunk : goal.returns-then-not-chunk
returns-then-not-chunk c = uncut_chunk _ _ (not-true _ c.if-not-chunk.true)

pub returns : goal.returns
returns c = rw (c.from-low.ensures, c.from-high.ensures) (cut_chunk _ _ (not-false _ c.if-not-chunk.false))
