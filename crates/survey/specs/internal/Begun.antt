-- What a survey of a job may assume: none of the grounds 1, 3 to 5, 11 and 12 holds.
use Rattle.std.specs.Prelude.{ℕ, ◌≤◌, ◌≡◌, true, List, length}
use Rattle.chunker.specs.Scanner.{window_allowed}
use Rattle.store.specs.declared.Head.{Head}
use Rattle.store.specs.Limits.{pool_limit, directory_limit, recipe_limit, job_limit}
use Rattle.store.specs.Grounds.{fits}
use Rattle.store.specs.Memory.{contents}
use Rattle.index.specs.Grounds.{length_allowed, meets}

pub record Begun (head : Head) (pool directory index recipe job : List ℕ) : Type 0 where
  pub window : window_allowed head.window ≡ true
  pub fitting : fits head pool directory ≡ true
  pub pool_length : length pool ≤ pool_limit
  pub directory_length : length directory ≤ directory_limit
  pub index_length : length_allowed directory index ≡ true
  pub indexed : meets index (contents pool directory head.chunks.0) ≡ true
  pub recipe_length : length recipe ≤ recipe_limit
  pub job_length : length job ≤ job_limit
