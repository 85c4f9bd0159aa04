-- The numbers of a recipe that is not refused.
use Rattle.std.specs.Prelude.{ℕ, ◌+◌, ◌*◌, ◌≤◌, ◌<◌, List, length, get_or}
use Rattle.directory.specs.Entry.{stride, offset_at, length_at}

-- each number of a recipe has an entry in the directory, and its bytes in the pool
pub record Located (pool directory recipe : List ℕ) : Type 0 where
  pub entered : (i : ℕ) → i < length recipe → get_or recipe i 0 * stride + 1 < length directory
  pub inside : (i : ℕ) → i < length recipe → let number = get_or recipe i 0 in
      offset_at directory number + length_at directory number ≤ length pool
