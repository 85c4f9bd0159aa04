-- The grounds on which a quote or a take is turned away before its first chunk.
use Rattle.std.specs.Prelude.{ℕ, Bool, ◌&&◌, List, [], ◌∷◌, leb, length, Option}
use Rattle.refusal.specs.Grounds.{unless, first}
use Rattle.refusal.specs.declared.Refusal.{Refusal}
use Rattle.refusal.specs.declared.Refusal.TheVariants.{JobLength}
use Rattle.chunker.specs.Scanner.{window_ground}
use Rattle.store.specs.declared.Head.{Head}
use Rattle.store.specs.Limits.{job_limit}
use Rattle.store.specs.Grounds.{memory_ground, recipe_ground, head_ground}
use Rattle.store.specs.Memory.{contents}
use Rattle.index.specs.Grounds.{index_length_ground, index_ground}

-- "The job is empty or longer than 16,777,216 bytes" does not hold
unfoldable pub job_allowed : List ℕ → Bool
job_allowed job = leb 1 (length job) && leb (length job) job_limit

-- ground 3
abbrev pub job_ground : List ℕ → Option Refusal
job_ground job = unless (job_allowed job) JobLength

-- "admission 1 and 3 to 8", and 11 and 12 "both after 5 and before 6": the first of the grounds 1, 3 to 5, 11 and 12 that holds
unfoldable pub admission_ground : Head → List ℕ → List ℕ → List ℕ → List ℕ → List ℕ → Option Refusal
admission_ground head pool directory index recipe job =
    first
    (window_ground head.window
    ∷ job_ground job
    ∷ recipe_ground recipe
    ∷ memory_ground pool directory
    ∷ head_ground head pool directory
    ∷ index_length_ground directory index
    ∷ index_ground index (contents pool directory head.chunks.0)
    ∷ [])
