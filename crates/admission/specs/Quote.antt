-- A quote: the answer, and the recipe at exit, by the store as a list of chunks.
use Rattle.std.specs.Prelude.{ℕ, cond, List, pos, length, take, None, Option}
use Rattle.refusal.specs.Number.{accepted}
use Rattle.refusal.specs.declared.Refusal.{Refusal}
use Rattle.chunker.specs.Chunks.{total}
use Rattle.store.specs.declared.Head.{Head}
use Rattle.store.specs.Contents.{added, repeated, numbers}
use Rattle.store.specs.Memory.{contents}
use Rattle.survey.specs.Walk.{Walk, job_walk, noted}
use Rattle.tariff.specs.Tariff.{saving_of}
use Rattle.cut_counts.specs.CutCounts.{cut_counts}
use Rattle.admission.specs.declared.Quoted.{Quoted}
use Rattle.admission.specs.Grounds.{admission_ground}

-- "lengths and counts, 0 if refused"
abbrev pub refused : Option Refusal → Quoted
refused refusal =
    record {
      refusal = refusal;
      recipe_length = 0;
      new_bytes = 0;
      repeated_bytes = 0;
      saving = pos 0;
      cuts = record { low = 0; printable = 0; high = 0 };
    }

-- "the recipe length and the three counts" of a job with the chunks cs: "new bytes is the sum of the lengths of its new pieces,
-- and repeated bytes that of the others"; and "three counts of cuts", which go by the job alone
abbrev pub counted : ℕ → List ℕ → List (List ℕ) → List (List ℕ) → Quoted
counted w job held cs =
    record {
      refusal = None;
      recipe_length = length cs;
      new_bytes = total (added held cs);
      repeated_bytes = total (repeated held cs);
      saving = saving_of (length job) (total (added held cs)) (length cs);
      cuts = cut_counts w job;
    }

-- what a quote answers, and how it leaves the recipe
pub record Quotation : Type 0 where
  pub answer : Quoted
  pub recipe : List ℕ

-- "Its recipe is the numbers that this admission left, as many as the recipe length it reports"
abbrev pub recipe_of : Quotation → List ℕ
recipe_of q = take q.answer.recipe_length q.recipe

-- what the walk over a job's chunks gives: the counts, or the ground on which a chunk is refused; and in the recipe "the
-- numbers of the earlier pieces"
abbrev pub walked : ℕ → List ℕ → List (List ℕ) → List ℕ → Walk → Quotation
walked w job held recipe whole =
    record {
      answer = cond (accepted whole.refusal) (counted w job held whole.passed) (refused whole.refusal);
      recipe = noted recipe (numbers held whole.passed);
    }

-- "a quote reads store and job and gives the recipe length and the three counts while writing only the recipe"; "a refusal
-- before 6 leaves all lent memory untouched"
unfoldable pub quoted : Head → List ℕ → List ℕ → List ℕ → List ℕ → List ℕ → Quotation
quoted head pool directory index recipe job =
    let refusal = admission_ground head pool directory index recipe job in
    let held = contents pool directory head.chunks.0 in
    cond (accepted refusal) (walked head.window job held recipe (job_walk head pool directory recipe job))
    (record { answer = refused refusal; recipe = recipe })
