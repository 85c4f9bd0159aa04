-- Rebuilding over numbers.
use Rattle.std.specs.Prelude.{ℕ, List, [], ◌∷◌}
use Rattle.refusal.specs.Number.{number_of}
use Rattle.rebuild.specs.Rebuilding.{rebuilt}
use Rattle.numbers.specs.Storing.{head_of}

-- what a rebuilding answers and writes
pub record JobRebuilding : Type 0 where
  pub refusal : ℕ
  pub output : List ℕ
  pub written : List ℕ

-- "A refused rebuilding leaves the output untouched"
unfoldable pub job_rebuilt : List ℕ → List ℕ → List ℕ → List ℕ → List ℕ → JobRebuilding
job_rebuilt n pool directory recipe output =
    let r = rebuilt (head_of n) pool directory recipe output in
    record { refusal = number_of r.answer.refusal; output = r.output; written = r.answer.written ∷ [] }
