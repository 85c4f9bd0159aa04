-- The counts of a job's cuts with one chunk more.
use Rattle.std.specs.Prelude.{ℕ, ◌+◌, Bool, cond}
use Rattle.scan.specs.declared.FirstChunk.{FirstChunk}
use Rattle.cut_counts.specs.declared.CutCounts.{CutCounts}
use Rattle.cut_counts.specs.CutCounts.{is_low, is_printable, is_high}

-- a test that passes counts as one
abbrev pub one : Bool → ℕ
one passes = cond passes 1 0

-- with a cut of some value
abbrev pub with_cut : CutCounts → ℕ → CutCounts
with_cut c v =
    record {
      low = c.low + one (is_low v);
      printable = c.printable + one (is_printable v);
      high = c.high + one (is_high v);
    }

-- with a chunk
unfoldable pub with_chunk : CutCounts → FirstChunk → CutCounts
with_chunk c chunk = cond chunk.cut (with_cut c chunk.value) c
