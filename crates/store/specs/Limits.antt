-- The limits of lent memory and of a job.
use Rattle.std.specs.Prelude.{ℕ}

-- "The pool has over 67,108,864 bytes"
abbrev pub pool_limit : ℕ
pool_limit = 67108864

-- "the directory over 131,070 numbers"
abbrev pub directory_limit : ℕ
directory_limit = 131070

-- "the recipe over 65,535 numbers"
abbrev pub recipe_limit : ℕ
recipe_limit = 65535

-- "The job is empty or longer than 16,777,216 bytes"
abbrev pub job_limit : ℕ
job_limit = 16777216
