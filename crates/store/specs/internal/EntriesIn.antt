-- The entries of a store that is not refused.
use Rattle.std.specs.Prelude.{ℕ, ◌+◌, ◌*◌, ◌≤◌, ◌<◌, List, length}
use Rattle.directory.specs.Entry.{stride, offset_at, length_at}

-- the first n entries stand in the directory, and their stretches, none of them empty, in the pool
pub record EntriesIn (pool directory : List ℕ) (n : ℕ) : Type 0 where
  pub entered : n * stride ≤ length directory
  pub some : (i : ℕ) → i < n → 1 ≤ length_at directory i
  pub inside : (i : ℕ) → i < n → offset_at directory i + length_at directory i ≤ length pool
