-- Demand 3: the ceiling on the charge of a revision, and what lines up again.
use Rattle.std.specs.Prelude.{ℕ, zero, suc, ◌+◌, ◌*◌, ◌-◌, ◌≤◌, ◌≡◌, List, [], ◌∷◌, ◌++◌, length}
use Rattle.chunker.specs.Chunks.{chunks, starting_after}
use Rattle.chunker.specs.KeptMaximum.{LinedUp}
use Rattle.admission.specs.Quote.{Quotation, recipe_of}

-- of a recipe, the numbers of the chunks that start after place n of the job; the job's chunks and their numbers are in
-- step
abbrev pub numbers_after : ℕ → List (List ℕ) → List ℕ → List ℕ
numbers_after n [] numbers = []
numbers_after n (c ∷ cs) [] = []
numbers_after zero (c ∷ cs) (x ∷ xs) = x ∷ xs
numbers_after (suc n) (c ∷ cs) (x ∷ xs) = numbers_after (suc n - length c) cs xs

-- "The old job is a beginning, a replaced stretch and an ending, laid end to end; the revision is that beginning, the
-- changed stretch and that ending": what is promised of the revision's charge and of the recipes of both
pub record Promised (w : ℕ) (beginning replaced changed ending : List ℕ) (k charge : ℕ) (old_recipe new_recipe : List ℕ)
    : Type 0 where
  -- "the charge .. is at most the changed stretch's length + k + 257 × w"
  pub ceiling : charge ≤ length changed + k + 257 * w
  -- "from place k + w of the ending on both jobs have exactly the same cuts"
  pub lined_up : LinedUp w (beginning ++ replaced) (beginning ++ changed) ending k
  -- "the pieces starting after it are equally many, with the same numbers in the same order"
  pub same_numbers :
      numbers_after (length (beginning ++ replaced) + (k + w)) (chunks w (beginning ++ (replaced ++ ending))) old_recipe
      ≡ numbers_after (length (beginning ++ changed) + (k + w)) (chunks w (beginning ++ (changed ++ ending))) new_recipe
  -- .. and there is a number for each of them
  pub equally_many :
      length
      (numbers_after (length (beginning ++ replaced) + (k + w)) (chunks w (beginning ++ (replaced ++ ending))) old_recipe)
      ≡ length (starting_after (length (beginning ++ replaced) + (k + w)) (chunks w (beginning ++ (replaced ++ ending))))

-- of a revision that is quoted or taken, and an old job that was taken
abbrev pub PromisedOf : ℕ → List ℕ → List ℕ → List ℕ → List ℕ → ℕ → Quotation → Quotation → Type 0
PromisedOf w beginning replaced changed ending k old new =
    Promised w beginning replaced changed ending k new.answer.new_bytes (recipe_of old) (recipe_of new)
