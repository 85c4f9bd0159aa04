-- Demand 2: a job given back.
use Rattle.std.specs.Prelude.{ℕ, ◌≡◌, List, ◌++◌, length, drop, None}
use Rattle.rebuild.specs.Rebuilding.{Rebuilding}

-- "the recipe of each accepted job, given a long enough output, gives back that job's bytes", "Output past the job is
-- untouched": of a rebuilding into the lent output
pub record GivesBack (job lent : List ℕ) (r : Rebuilding) : Type 0 where
  pub refusal : r.answer.refusal ≡ None
  pub written : r.answer.written ≡ length job
  pub output : r.output ≡ job ++ drop (length job) lent
