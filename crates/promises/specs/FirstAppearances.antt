-- Demand 2: new chunks are the first appearances.
use Rattle.std.specs.Prelude.{ℕ, ◌+◌, ◌≡◌, cond, List, [], ◌∷◌, ◌++◌, length}
use Rattle.chunker.specs.Chunks.{chunks, total}
use Rattle.store.specs.Contents.{has}

-- "a piece is thus new when no job accepted before, and no earlier place of this job, has it": those of a job's chunks, in their
-- order, where `earlier` are the chunks of the jobs accepted before and of the earlier places of this job
unfoldable pub first_appearances : List (List ℕ) → List (List ℕ) → List (List ℕ)
first_appearances earlier [] = []
first_appearances earlier (c ∷ cs) =
    let later = first_appearances (earlier ++ (c ∷ [])) cs in
    cond (has earlier c) later (c ∷ later)

-- the others
unfoldable pub later_appearances : List (List ℕ) → List (List ℕ) → List (List ℕ)
later_appearances earlier [] = []
later_appearances earlier (c ∷ cs) =
    let later = later_appearances (earlier ++ (c ∷ [])) cs in
    cond (has earlier c) (c ∷ later) later

-- "For an accepted job, new bytes is the sum of the lengths of its new pieces, and repeated bytes that of the others":
-- together they are the bytes of the job
pub record FirstAppearances (w : ℕ) (earlier : List (List ℕ)) (job : List ℕ) (new repeated : ℕ) : Type 0 where
  pub first : new ≡ total (first_appearances earlier (chunks w job))
  pub others : repeated ≡ total (later_appearances earlier (chunks w job))
  pub all : new + repeated ≡ length job
