-- How far a scan has come.
use Rattle.std.specs.Prelude.{◌<◌, ◌≡◌, length}
use Rattle.scan.specs.declared.run.Run.{Run}
use Rattle.scan.specs.internal.Run.{rest, cut_at, Further}
use Rattle.block_scan.specs.internal.Peaks.{AtLargest}

-- the chunk of a run ends at its deadline
abbrev pub CutAtDeadline : Run → Type 0
CutAtDeadline r = cut_at r ≡ rest r

-- a run further on in the part; inside the part it is past its largest byte
pub record Advanced (r next : Run) : Type 0 where
  pub further : Further r next
  pub largest : next.at < length next.part.now → AtLargest next

-- a run at the end of the part
pub record Ended (r next : Run) : Type 0 where
  pub further : Further r next
  pub end : next.at ≡ length next.part.now
