-- The store's functions over numbers.
use Rattle.std.specs.Prelude.{ℕ, cond, List, [], ◌∷◌, ℤ}
use Rattle.refusal.specs.Number.{number_of, accepted}
use Rattle.admission.specs.declared.Taken.{Taken}
use Rattle.directory.specs.Entry.{offset_at, length_at}
use Rattle.store.specs.Opening.{opened}
use Rattle.admission.specs.Quote.{quoted}
use Rattle.admission.specs.Take.{taken}
use Rattle.store.specs.Grounds.{look_ground}
use Rattle.numbers.specs.Storing.{head_of, head_numbers, counts_of}

-- what an opening answers and writes
pub record StoreOpening : Type 0 where
  pub refusal : ℕ
  pub head : List ℕ

-- "A refused opening gives all zeros"
unfoldable pub store_opened : ℕ → StoreOpening
store_opened w = record { refusal = number_of (opened w).refusal; head = head_numbers (opened w).head }

-- what a quote answers, and how it leaves the recipe
pub record StoreQuotation : Type 0 where
  pub refusal : ℕ
  pub recipe : List ℕ
  pub counts : List ℕ
  pub saving : List ℤ

-- "a quote reads store and job and gives the recipe length and the three counts while writing only the recipe"
unfoldable pub store_quoted : List ℕ → List ℕ → List ℕ → List ℕ → List ℕ → List ℕ → StoreQuotation
store_quoted n pool directory index recipe job =
    let q = quoted (head_of n) pool directory index recipe job in
    record {
      refusal = number_of q.answer.refusal;
      recipe = q.recipe;
      counts = counts_of q.answer;
      saving = q.answer.saving ∷ [];
    }

-- what a take answers, and how it leaves the memory that it was lent
pub record StoreTaking : Type 0 where
  pub refusal : ℕ
  pub head : List ℕ
  pub pool : List ℕ
  pub directory : List ℕ
  pub index : List ℕ
  pub recipe : List ℕ
  pub counts : List ℕ
  pub saving : List ℤ

-- "A refused admission hands the head back unchanged"
abbrev pub head_after : List ℕ → Taken → List ℕ
head_after n t = cond (accepted t.quoted.refusal) (head_numbers t.head) n

-- "a take stores the job", "give equal lengths and counts, 0 if refused"
unfoldable pub store_taken : List ℕ → List ℕ → List ℕ → List ℕ → List ℕ → List ℕ → StoreTaking
store_taken n pool directory index recipe job =
    let t = taken (head_of n) pool directory index recipe job in
    record {
      refusal = number_of t.answer.quoted.refusal;
      head = head_after n t.answer;
      pool = t.pool;
      directory = t.directory;
      index = t.index;
      recipe = t.recipe;
      counts = counts_of t.answer.quoted;
      saving = t.answer.quoted.saving ∷ [];
    }

-- what a look answers and writes
pub record StoreLook : Type 0 where
  pub refusal : ℕ
  pub stretch : List ℕ

-- "the answer is the piece's own stretch of the pool": its offset and length; "A refused look shows the empty stretch"
unfoldable pub store_looked : List ℕ → List ℕ → List ℕ → ℕ → StoreLook
store_looked n pool directory number =
    let refusal = look_ground (head_of n) pool directory (record { 0 = number }) in
    cond (accepted refusal)
    (record { refusal = number_of refusal; stretch = offset_at directory number ∷ length_at directory number ∷ [] })
    (record { refusal = number_of refusal; stretch = 0 ∷ 0 ∷ [] })
