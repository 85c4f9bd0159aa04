-- The grounds that a quote or a take tests before the job's first chunk, test by test.
use Prim.Native.Nat.{ℕ}
use mathlib.Core.Path.{◌≡◌}
use mathlib.Core.Bool.{true, cond}
use mathlib.Core.List.{List, [], ◌∷◌}
use Rattle.refusal.specs.Number.{accepted}
use Rattle.refusal.specs.Grounds.{first}
use Rattle.refusal.specs.declared.Refusal.TheVariants.{Window, JobLength, MemoryLimit, Head as HeadMisfit, IndexLength, Index}
use Rattle.refusal.proofs.laws.Grounds.{none_holds, passed, first_append}
use Rattle.chunker.specs.Scanner.{window_allowed, window_ground}
use Rattle.store.specs.declared.Head.{Head}
use Rattle.store.specs.Grounds.{fits, memory_allowed, recipe_allowed, memory_ground, recipe_ground, head_ground, store_ground}
use Rattle.store.specs.Memory.{contents}
use Rattle.index.specs.Grounds.{length_allowed, meets, index_length_ground, index_ground}
use Rattle.admission.specs.Grounds.{job_allowed, job_ground, admission_ground}

-- none of the grounds 1, 3 to 5, 11 and 12 holds
pub record Passed (head : Head) (pool directory index recipe job : List ℕ) : Type 0 where
  pub window : window_allowed head.window ≡ true
  pub job_length : job_allowed job ≡ true
  pub store_memory : memory_allowed pool directory ≡ true
  pub recipe_memory : recipe_allowed recipe ≡ true
  pub fitting : fits head pool directory ≡ true
  pub index_length : length_allowed directory index ≡ true
  pub indexed : meets index (contents pool directory head.chunks.0) ≡ true

module _ (head : Head) (pool directory index recipe job : List ℕ) where
  -- it is so where the first that holds is none
  pub all_passed : accepted (admission_ground head pool directory index recipe job) ≡ true
      → Passed head pool directory index recipe job
  unfolding admission_ground
  all_passed h =
      let none = none_holds
      (window_ground head.window
      ∷ job_ground job
      ∷ recipe_ground recipe
      ∷ memory_ground pool directory
      ∷ head_ground head pool directory
      ∷ index_length_ground directory index
      ∷ index_ground index (contents pool directory head.chunks.0)
      ∷ [])
      h in
      record {
        window = passed (window_allowed head.window) Window none.0;
        job_length = passed (job_allowed job) JobLength none.1.0;
        recipe_memory = passed (recipe_allowed recipe) MemoryLimit none.1.1.0;
        store_memory = passed (memory_allowed pool directory) MemoryLimit none.1.1.1.0;
        fitting = passed (fits head pool directory) HeadMisfit none.1.1.1.1.0;
        index_length = passed (length_allowed directory index) IndexLength none.1.1.1.1.1.0;
        indexed = passed (meets index (contents pool directory head.chunks.0)) Index none.1.1.1.1.1.1.0;
      }

  -- where none of 1, 3 and the recipe's part of 4 holds, a job is refused by the store's grounds, and then by the index's
  pub store_first : window_allowed head.window ≡ true → job_allowed job ≡ true → recipe_allowed recipe ≡ true
      → admission_ground head pool directory index recipe job
      ≡ cond (accepted (store_ground head pool directory))
      (first (index_length_ground directory index ∷ index_ground index (contents pool directory head.chunks.0) ∷ []))
      (store_ground head pool directory)
  unfolding admission_ground store_ground
  store_first w j r =
      rw (w, j, r)
      (first_append (memory_ground pool directory ∷ head_ground head pool directory ∷ [])
      (index_length_ground directory index ∷ index_ground index (contents pool directory head.chunks.0) ∷ []))
