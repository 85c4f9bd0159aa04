-- What the pass that stores a job's new chunks may assume.
use Rattle.std.specs.Prelude.{ℕ, ◌+◌, ◌*◌, ◌≤◌, List, length, take}
use Rattle.gear.specs.Gear.{chains}
use Rattle.chunker.specs.Chunks.{total}
use Rattle.directory.specs.Entry.{stride, entries}
use Rattle.store.specs.declared.Head.{Head}
use Rattle.store.specs.Limits.{pool_limit, directory_limit, recipe_limit, job_limit}
use Rattle.marks.specs.Marks.{sizes, new_chunks}

-- memory is within the limits, the chunks of the first `used` marks lie in the job, and there is room for the new ones
pub record Storable (head : Head) (pool directory index recipe : List ℕ) (used : ℕ) (job : List ℕ) : Type 0 where
  pub pool_length : length pool ≤ pool_limit
  pub directory_length : length directory ≤ directory_limit
  pub index_length : chains + entries directory ≤ length index
  pub recipe_length : length recipe ≤ recipe_limit
  pub job_length : length job ≤ job_limit
  pub used_places : used ≤ length recipe
  pub inside : sizes (take used recipe) ≤ length job
  pub bytes : head.filled.0 + total (new_chunks job 0 (take used recipe)) ≤ length pool
  pub entries : (head.chunks.0 + length (new_chunks job 0 (take used recipe))) * stride ≤ length directory
