-- The answer to a job that was surveyed, by what the survey counted.
use Rattle.std.specs.Prelude.{ℕ, cond, None, Option}
use Rattle.refusal.specs.Number.{accepted}
use Rattle.refusal.specs.declared.Refusal.{Refusal}
use Rattle.cut_counts.specs.declared.CutCounts.{CutCounts}
use Rattle.store.specs.declared.Head.{Head}
use Rattle.survey.specs.declared.Progress.{Progress}
use Rattle.tariff.specs.Tariff.{saving_of}
use Rattle.admission.specs.declared.Quoted.{Quoted}
use Rattle.admission.specs.Quote.{refused}

-- what is counted
abbrev pub counted_by : ℕ → Progress → CutCounts → Quoted
counted_by job_length p cuts =
    record {
      refusal = None;
      recipe_length = p.recipe_length;
      new_bytes = p.new_bytes;
      repeated_bytes = p.repeated_bytes;
      saving = saving_of job_length p.new_bytes p.recipe_length;
      cuts = cuts;
    }

-- where no chunk was refused
unfoldable pub answered : ℕ → Option Refusal → Progress → CutCounts → Quoted
answered job_length refusal p cuts = cond (accepted refusal) (counted_by job_length p cuts) (refused refusal)

-- the next chunk number and pool offset as a head
abbrev pub head_after : Head → Progress → Head
head_after head p = record { window = head.window; chunks = p.chunks; filled = p.filled }
