-- The cuts of a job, counted by the values of their maximum points.
use Rattle.std.specs.Prelude.{ℕ, Bool, ◌&&◌, List, map, leb, ltb, length}
use Rattle.chunker.specs.Chunks.{filter}
use Rattle.chunker.specs.Peaks.{peaks}
use Rattle.cut_counts.specs.declared.CutCounts.{CutCounts}

-- "value below 20", hexadecimal
abbrev pub is_low : ℕ → Bool
is_low v = ltb v 0x20

-- "20 to 7E"
abbrev pub is_printable : ℕ → Bool
is_printable v = leb 0x20 v && leb v 0x7E

-- "above 7E"
abbrev pub is_high : ℕ → Bool
is_high v = ltb 0x7E v

-- how many of some values are of each kind
unfoldable pub counts_of : List ℕ → CutCounts
counts_of values =
    record {
      low = length (filter is_low values);
      printable = length (filter is_printable values);
      high = length (filter is_high values);
    }

-- "three counts of cuts", "The last piece counts only if a cut ends it": of the job's peaks, which are one for each cut
unfoldable pub cut_counts : ℕ → List ℕ → CutCounts
cut_counts w job = counts_of (map (λ p. p.value) (peaks w job))
