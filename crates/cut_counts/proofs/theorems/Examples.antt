-- Cuts at the bounds of the three kinds, by computation.
use mathlib.Core.Path.{◌≡◌, refl}
use mathlib.Core.List.{[], ◌∷◌}
use Rattle.scan.specs.Move.{move, next}
use Rattle.chunker.specs.Chunks.{cut_chunks}
use Rattle.chunker.specs.Peaks.{peak_of, peaks}
use Rattle.cut_counts.specs.CutCounts.{counts_of, cut_counts}
use Rattle.cut_counts.proofs.laws.Counting.{no_cuts}

-- 1F is low, 20 and 7E are printable, and 7F is high; the last chunk, of one byte, is ended by no cut and counts for nothing
pub bounds : cut_counts 1 (0x1F ∷ 0 ∷ 0x20 ∷ 0 ∷ 0x7E ∷ 0 ∷ 0x7F ∷ 0 ∷ 5 ∷ [])
    ≡ record { low = 1; printable = 2; high = 1 }
unfolding move next cut_chunks peak_of peaks counts_of cut_counts
bounds = refl

-- the value is that of the maximum point: not of the byte that ends the chunk, 41, nor of an earlier byte, 05
pub of_the_maximum : cut_counts 2 (5 ∷ 0x80 ∷ 0x41 ∷ 0x41 ∷ []) ≡ record { low = 0; printable = 0; high = 1 }
unfolding move next cut_chunks peak_of peaks counts_of cut_counts
of_the_maximum = refl

-- a job without a cut has none
pub no_cut : cut_counts 2 (3 ∷ 1 ∷ []) ≡ no_cuts
unfolding move next cut_chunks peak_of peaks counts_of cut_counts
no_cut = refl
