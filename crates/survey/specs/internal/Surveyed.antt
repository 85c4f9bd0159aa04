-- What a survey of a job answers, and how it leaves the recipe.
use Rattle.std.specs.Prelude.{ℕ, ◌+◌, List, [], length}
use Rattle.chunker.specs.Chunks.{total}
use Rattle.store.specs.declared.Head.{Head}
use Rattle.store.specs.Contents.{added, repeated}
use Rattle.store.specs.Memory.{contents}
use Rattle.marks.specs.Marks.{marks}
use Rattle.survey.specs.declared.Progress.{Progress}
use Rattle.survey.specs.Walk.{job_walk, noted}
use Rattle.survey.specs.internal.Snapshot.{Snapshot, snapshot, Outcome, ends}

-- what is counted after so many chunks, of which some are new and the others repeated
abbrev pub progress_with : Head → ℕ → List (List ℕ) → List (List ℕ) → Progress
progress_with head count new others =
    record {
      chunks = record { 0 = head.chunks.0 + length new };
      filled = record { 0 = head.filled.0 + total new };
      recipe_length = count;
      new_bytes = total new;
      repeated_bytes = total others;
    }

-- what is counted after chunks in a store
abbrev pub progress_after : Head → List (List ℕ) → List (List ℕ) → Progress
progress_after head held cs = progress_with head (length cs) (added held cs) (repeated held cs)

-- a survey after some of the job's chunks: what is counted, and their marks in the recipe
abbrev pub survey_after : Head → List ℕ → List ℕ → List ℕ → List (List ℕ) → Snapshot
survey_after head pool directory recipe cs =
    let held = contents pool directory head.chunks.0 in
    snapshot (progress_after head held cs) (noted recipe (marks held [] cs))

-- after all that the walk passes, with its refusal
unfoldable pub surveyed : Head → List ℕ → List ℕ → List ℕ → List ℕ → Outcome
surveyed head pool directory recipe job =
    let whole = job_walk head pool directory recipe job in
    ends whole.refusal (survey_after head pool directory recipe whole.passed)
