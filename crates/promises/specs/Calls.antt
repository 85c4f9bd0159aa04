-- A C program's calls on one store, one after another: each gets the head, the pool, the directory and the index that the
-- one before it left.
use Rattle.std.specs.Prelude.{ℕ, zero, suc, ◌≡◌, cond, List, [], ◌∷◌, ◌++◌, eqb, length, take, drop, get_or}
use Rattle.chunker.specs.Chunks.{chunks}
use Rattle.cut_counts.specs.CutCounts.{cut_counts}
use Rattle.directory.specs.Entry.{entries}
use Rattle.index.specs.Index.{fresh_index}
use Rattle.promises.specs.History.{Event, quoting, taking, reading, event_at}
use Rattle.promises.specs.FirstAppearances.{FirstAppearances}
use Rattle.promises.specs.Saving.{job_saving}
use Rattle.promises.specs.Promise.{Promised}
use Rattle.hirunvel.specs.Storing.{StoreQuotation, StoreTaking, store_opened, store_quoted, store_taken}
use Rattle.hirunvel.specs.Rebuilding.{JobRebuilding, job_rebuilt}

-- what a C program keeps of a store
pub record Memory : Type 0 where
  pub head : List ℕ
  pub pool : List ℕ
  pub directory : List ℕ
  pub index : List ℕ

-- after hirunvel_store_open, with any pool and directory, and an index whose every byte is FF
abbrev pub opened : ℕ → List ℕ → List ℕ → Memory
opened w pool directory =
    record { head = (store_opened w).head; pool = pool; directory = directory; index = fresh_index (entries directory) }

-- a call of hirunvel_store_quote
abbrev pub quote_call : Memory → List ℕ → List ℕ → StoreQuotation
quote_call m job recipe = store_quoted m.head m.pool m.directory m.index recipe job

-- a call of hirunvel_store_take
abbrev pub take_call : Memory → List ℕ → List ℕ → StoreTaking
take_call m job recipe = store_taken m.head m.pool m.directory m.index recipe job

-- what a take tells
abbrev pub told_by : StoreTaking → StoreQuotation
told_by t = record { refusal = t.refusal; recipe = t.recipe; counts = t.counts; saving = t.saving }

-- what a call leaves; hirunvel_store_quote, hirunvel_store_look and hirunvel_rebuild write none of it
unfoldable pub leaves : Memory → Event → Memory
leaves m (quoting job recipe) = m
leaves m (taking job recipe) =
    let t = take_call m job recipe in
    record { head = t.head; pool = t.pool; directory = t.directory; index = t.index }
leaves m reading = m

-- the chunks of a job whose take returns 0
abbrev pub chunks_of : ℕ → Memory → Event → List (List ℕ)
chunks_of w m (quoting job recipe) = []
chunks_of w m (taking job recipe) = cond (eqb (take_call m job recipe).refusal 0) (chunks w job) []
chunks_of w m reading = []

module _ (m : Memory) (calls : List Event) where
  -- what the program has before a call, counted from 0
  unfoldable pub before : ℕ → Memory
  before zero = m
  before (suc j) = leaves (before j) (event_at calls j)

  -- the chunks of the jobs that earlier calls took
  unfoldable pub chunks_before : ℕ → ℕ → List (List ℕ)
  chunks_before w zero = []
  chunks_before w (suc j) = chunks_before w j ++ chunks_of w (before j) (event_at calls j)

-- a call takes a job, and what it tells
pub data TakesCall (m : Memory) : Event → List ℕ → StoreQuotation → Type 0 where
  takes_call : {job recipe : List ℕ} → TakesCall m (taking job recipe) job (told_by (take_call m job recipe))

-- a call quotes a job or takes it, and what it tells
pub data AsksCall (m : Memory) : Event → List ℕ → StoreQuotation → Type 0 where
  quote_called : {job recipe : List ℕ} → AsksCall m (quoting job recipe) job (quote_call m job recipe)
  take_called : {job recipe : List ℕ} → AsksCall m (taking job recipe) job (told_by (take_call m job recipe))

-- call i takes the job and returns 0
pub record TakenCall (m : Memory) (calls : List Event) (i : ℕ) (job : List ℕ) (c : StoreQuotation) : Type 0 where
  pub stands : TakesCall (before m calls i) (event_at calls i) job c
  pub accepted : c.refusal ≡ 0

-- call j quotes or takes the job and returns 0
pub record AskedCall (m : Memory) (calls : List Event) (j : ℕ) (job : List ℕ) (c : StoreQuotation) : Type 0 where
  pub stands : AsksCall (before m calls j) (event_at calls j) job c
  pub accepted : c.refusal ≡ 0

-- the recipe is the first counts[0] numbers that the call left
abbrev pub recipe_of : StoreQuotation → List ℕ
recipe_of c = take (get_or c.counts 0 0) c.recipe

-- the charge is counts[1]
abbrev pub charge_of : StoreQuotation → ℕ
charge_of c = get_or c.counts 1 0

-- demand 2: "New bytes count exactly the first appearances; new plus repeated bytes are the accepted job's length"
abbrev pub Counts : ℕ → Memory → List Event → ℕ → List ℕ → StoreQuotation → Type 0
Counts w m calls j job c = FirstAppearances w (chunks_before m calls w j) job (charge_of c) (get_or c.counts 2 0)

-- "Saving becomes job length − new bytes − 72 × packets": saving[0]
abbrev pub Saves : ℕ → Memory → List Event → ℕ → List ℕ → StoreQuotation → Type 0
Saves w m calls j job c = c.saving ≡ job_saving w (chunks_before m calls w j) job ∷ []

-- "three counts of cuts: value below 20, 20 to 7E, above 7E": counts[3], counts[4] and counts[5]
abbrev pub CountsCuts : ℕ → List ℕ → StoreQuotation → Type 0
CountsCuts w job c =
    drop 3 c.counts ≡ (cut_counts w job).low ∷ (cut_counts w job).printable ∷ (cut_counts w job).high ∷ []

-- demand 2: "the recipe of each accepted job, given a long enough output, gives back that job's bytes"
pub record GivesBack (job output : List ℕ) (r : JobRebuilding) : Type 0 where
  pub refusal : r.refusal ≡ 0
  pub written : r.written ≡ length job ∷ []
  pub bytes : r.output ≡ job ++ drop (length job) output

-- a call of hirunvel_rebuild
abbrev pub rebuild : Memory → List ℕ → List ℕ → JobRebuilding
rebuild m recipe output = job_rebuilt m.head m.pool m.directory recipe output

-- demand 3, of a call that takes the old job and a later one that quotes or takes the revision
abbrev pub PromisedCalls : ℕ → List ℕ → List ℕ → List ℕ → List ℕ → ℕ → StoreQuotation → StoreQuotation → Type 0
PromisedCalls w beginning replaced changed ending k old new =
    Promised w beginning replaced changed ending k (charge_of new) (recipe_of old) (recipe_of new)
