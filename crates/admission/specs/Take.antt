-- A take: the answer, and each lent list at exit.
use Rattle.std.specs.Prelude.{ℕ, cond, List}
use Rattle.refusal.specs.Number.{accepted}
use Rattle.chunker.specs.Chunks.{chunks}
use Rattle.store.specs.declared.Head.{Head}
use Rattle.store.specs.Contents.{added}
use Rattle.store.specs.Memory.{contents}
use Rattle.storing.specs.Storing.{head_with, pool_with, directory_with, index_with}
use Rattle.admission.specs.declared.Taken.{Taken}
use Rattle.admission.specs.Quote.{Quotation, quoted}

-- what a take answers, and how it leaves the memory that it was lent
pub record Taking : Type 0 where
  pub answer : Taken
  pub pool : List ℕ
  pub directory : List ℕ
  pub index : List ℕ
  pub recipe : List ℕ

-- what a take answers, but for the head, and how it leaves the recipe
abbrev pub quotation_of : Taking → Quotation
quotation_of t = record { answer = t.answer.quoted; recipe = t.recipe }

-- "a take stores the job": the new ones of its chunks
abbrev pub new_of : Head → List ℕ → List ℕ → List ℕ → List (List ℕ)
new_of head pool directory job = added (contents pool directory head.chunks.0) (chunks head.window job)

-- the quote's answer and recipe, and the new chunks in the store
abbrev pub stores : Head → List ℕ → List ℕ → List ℕ → List (List ℕ) → Quotation → Taking
stores head pool directory index new q =
    record {
      answer = record { quoted = q.answer; head = head_with head new };
      pool = pool_with head pool new;
      directory = directory_with head directory new;
      index = index_with head index new;
      recipe = q.recipe;
    }

-- "A take refused by 6 to 8 now leaves pool and directory untouched, and the recipe as its quote left it"; "a refused one
-- leaves the index"
abbrev pub refuses : Head → List ℕ → List ℕ → List ℕ → Quotation → Taking
refuses head pool directory index q =
    record {
      answer = record { quoted = q.answer; head = head };
      pool = pool;
      directory = directory;
      index = index;
      recipe = q.recipe;
    }

-- "On the same inputs a quote and a take give equal lengths and counts, 0 if refused, equal recipes and the same refusal"
unfoldable pub taken : Head → List ℕ → List ℕ → List ℕ → List ℕ → List ℕ → Taking
taken head pool directory index recipe job =
    let q = quoted head pool directory index recipe job in
    cond (accepted q.answer.refusal) (stores head pool directory index (new_of head pool directory job) q)
    (refuses head pool directory index q)
