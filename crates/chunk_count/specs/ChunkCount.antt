-- How many chunks a job has.
use Rattle.std.specs.Prelude.{ℕ, cond, List, length}
use Rattle.chunker.specs.Scanner.{window_allowed}
use Rattle.chunker.specs.Chunks.{chunks}

-- the last chunk, which no cut need end, counts as one; 0 where the window is not allowed
unfoldable pub chunk_count : ℕ → List ℕ → ℕ
chunk_count w job = cond (window_allowed w) (length (chunks w job)) 0
