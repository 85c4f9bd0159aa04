-- What a job saves on the link.
use Rattle.std.specs.Prelude.{ℕ, List, ℤ, length}
use Rattle.chunker.specs.Chunks.{chunks, total}
use Rattle.tariff.specs.Tariff.{saving_of}
use Rattle.promises.specs.FirstAppearances.{first_appearances}

-- "job length − new bytes − 72 × packets": by the bytes of its first appearances, and a recipe number for each of its chunks
abbrev pub job_saving : ℕ → List (List ℕ) → List ℕ → ℤ
job_saving w earlier job =
    saving_of (length job) (total (first_appearances earlier (chunks w job))) (length (chunks w job))
