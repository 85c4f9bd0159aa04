-- A revision that changes several fields of a job, and the ceiling on its charge.
use Rattle.std.specs.Prelude.{ℕ, ◌+◌, ◌*◌, List, [], ◌∷◌, ◌++◌, length}
use Rattle.chunker.specs.KeptMaximum.{KeptMaximum}

-- a stretch of the old job and the changed one that replaces it, either of which may be empty; the kept stretch after it,
-- and a place of that
pub record Field : Type 0 where
  pub replaced : List ℕ
  pub changed : List ℕ
  pub kept : List ℕ
  pub place : ℕ

-- "keeps an opening, possibly empty, and then several stretches in their order, the last reaching the end of both jobs": a
-- job, by the stretch that stands in each field
abbrev pub filled : (Field → List ℕ) → List ℕ → List Field → List ℕ
filled stretch opening [] = opening
filled stretch opening (f ∷ fs) = opening ++ (stretch f ++ filled stretch f.kept fs)

-- the old job
abbrev pub old_job : List ℕ → List Field → List ℕ
old_job opening fields = filled (λ f. f.replaced) opening fields

-- the revision
abbrev pub revision : List ℕ → List Field → List ℕ
revision opening fields = filled (λ f. f.changed) opening fields

-- "each holding such a large byte with its two windows inside the stretch"
abbrev pub AllKept : ℕ → List Field → Type 0
AllKept w [] = Unit {0}
AllKept w (f ∷ fs) = KeptMaximum w f.kept f.place × AllKept w fs

-- "the sum, over the changed stretches, of changed length + k of the kept stretch after it + 257 × w"
abbrev pub ceiling_of : ℕ → List Field → ℕ
ceiling_of w [] = 0
ceiling_of w (f ∷ fs) = (length f.changed + f.place + 257 * w) + ceiling_of w fs

-- some fields and a last one as a single field: all between the opening and the last kept stretch is changed
abbrev pub joined : List Field → Field → Field
joined fs last =
    record {
      replaced = old_job [] fs ++ last.replaced;
      changed = revision [] fs ++ last.changed;
      kept = last.kept;
      place = last.place;
    }
