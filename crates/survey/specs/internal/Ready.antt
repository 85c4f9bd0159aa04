-- What the functions of a survey under way may assume.
use Rattle.std.specs.Prelude.{ℕ, ◌+◌, ◌≤◌, ◌≡◌, true, List, length}
use Rattle.gear.specs.Gear.{chains}
use Rattle.scan.specs.Limits.{chunk_limit}
use Rattle.store.specs.declared.Head.{Head}
use Rattle.store.specs.Limits.{pool_limit, directory_limit, recipe_limit, job_limit}
use Rattle.store.specs.Memory.{contents}
use Rattle.store.specs.internal.EntriesIn.{EntriesIn}
use Rattle.index.specs.Grounds.{meets}
use Rattle.survey.specs.internal.Snapshot.{Snapshot}

-- what is lent and only read is within the limits, and the index meets the store
pub record InOrder (head : Head) (pool directory index job : List ℕ) : Type 0 where
  pub entries : EntriesIn pool directory head.chunks.0
  pub pool_length : length pool ≤ pool_limit
  pub directory_length : length directory ≤ directory_limit
  pub index_length : chains + head.chunks.0 ≤ length index
  pub indexed : meets index (contents pool directory head.chunks.0) ≡ true
  pub job_length : length job ≤ job_limit

-- what is counted so far is within memory, and the recipe within its limit
pub record Counted (pool : List ℕ) (f : Snapshot) : Type 0 where
  pub recipe_length : length f.recipe ≤ recipe_limit
  pub filled : f.progress.filled.0 ≤ length pool
  pub chunks : f.progress.chunks.0 ≤ directory_limit

-- the chunk is not empty, no longer than any may be, and may still be counted
pub record Next (job : List ℕ) (f : Snapshot) (chunk : List ℕ) : Type 0 where
  pub some : 1 ≤ length chunk
  pub small : length chunk ≤ chunk_limit
  pub counts : f.progress.new_bytes + f.progress.repeated_bytes + length chunk ≤ length job
