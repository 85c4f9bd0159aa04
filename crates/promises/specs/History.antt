-- What can happen to a store, one thing after another: "Each admission gets the head that the one before handed back,
-- refused or not, with pool and directory as that one left them"; the index too.
use Rattle.std.specs.Prelude.{ℕ, zero, suc, ◌≡◌, Bool, true, false, cond, List, [], ◌∷◌, ◌++◌, get_or}
use Rattle.refusal.specs.Number.{accepted}
use Rattle.chunker.specs.Bytes.{Bytes}
use Rattle.chunker.specs.Chunks.{chunks}
use Rattle.directory.specs.Entry.{entries}
use Rattle.store.specs.declared.Head.{Head}
use Rattle.store.specs.Memory.{contents}
use Rattle.store.specs.Opening.{fresh}
use Rattle.index.specs.Index.{fresh_index}
use Rattle.admission.specs.Quote.{Quotation, quoted}
use Rattle.admission.specs.Take.{Taking, quotation_of, taken}

pub data Event : Type 0 where
  -- a job is quoted, and lent memory for its recipe
  quoting : (job recipe : List ℕ) → Event
  -- a job is taken, and lent memory for its recipe
  taking : (job recipe : List ℕ) → Event
  -- a look or a rebuilding, which writes neither head nor pool nor directory nor index
  reading : Event

pub record State : Type 0 where
  pub head : Head
  pub pool : List ℕ
  pub directory : List ℕ
  pub index : List ℕ

-- "The list starts from a fresh head and any lent pool and directory, whatever they hold", and from a fresh index
abbrev pub start : ℕ → List ℕ → List ℕ → State
start w pool directory =
    record { head = fresh w; pool = pool; directory = directory; index = fresh_index (entries directory) }

-- the chunks that the store holds in a state
abbrev pub holds : State → List (List ℕ)
holds s = contents s.pool s.directory s.head.chunks.0

-- a quote in a state: what it answers, and how it leaves the recipe
abbrev pub quote_in : State → List ℕ → List ℕ → Quotation
quote_in s job recipe = quoted s.head s.pool s.directory s.index recipe job

-- a take in a state
abbrev pub take_in : State → List ℕ → List ℕ → Taking
take_in s job recipe = taken s.head s.pool s.directory s.index recipe job

-- the state that an event leaves; a quote writes only the recipe
unfoldable pub leaves : State → Event → State
leaves s (quoting job recipe) = s
leaves s (taking job recipe) =
    let t = take_in s job recipe in
    record { head = t.answer.head; pool = t.pool; directory = t.directory; index = t.index }
leaves s reading = s

-- "Only a take that reports no refusal makes a job accepted; a quote alone never does"
abbrev pub accepts : State → Event → Bool
accepts s (quoting job recipe) = false
accepts s (taking job recipe) = accepted (take_in s job recipe).answer.quoted.refusal
accepts s reading = false

-- the chunks of an event's job
abbrev pub chunks_of : ℕ → Event → List (List ℕ)
chunks_of w (quoting job recipe) = chunks w job
chunks_of w (taking job recipe) = chunks w job
chunks_of w reading = []

-- the event at a place of a list, counted from 0; past the end nothing is written
abbrev pub event_at : List Event → ℕ → Event
event_at events j = get_or events j reading

module _ (s : State) (events : List Event) where
  -- the state before a place; past the end that is the state after the whole list
  unfoldable pub before : ℕ → State
  before zero = s
  before (suc j) = leaves (before j) (event_at events j)

  -- the chunks of the jobs accepted before a place, in order; "refused jobs count for nothing"
  unfoldable pub chunks_before : ℕ → List (List ℕ)
  chunks_before zero = []
  chunks_before (suc j) =
      chunks_before j ++ cond (accepts (before j) (event_at events j)) (chunks_of s.head.window (event_at events j)) []

-- an event takes a job: what it answers, and how it leaves the recipe
pub data Takes (s : State) : Event → List ℕ → Quotation → Type 0 where
  takes : {job recipe : List ℕ} → Takes s (taking job recipe) job (quotation_of (take_in s job recipe))

-- an event asks for a job: it quotes it or takes it
pub data Asks (s : State) : Event → List ℕ → Quotation → Type 0 where
  by_quote : {job recipe : List ℕ} → Asks s (quoting job recipe) job (quote_in s job recipe)
  by_take : {job recipe : List ℕ} → Asks s (taking job recipe) job (quotation_of (take_in s job recipe))

-- at place i of the list the job is taken, and not refused
pub record TakenAt (s : State) (events : List Event) (i : ℕ) (job : List ℕ) (q : Quotation) : Type 0 where
  pub stands : Takes (before s events i) (event_at events i) job q
  pub accepted : accepted q.answer.refusal ≡ true

-- at place j the job is quoted or taken, and not refused
pub record AskedAt (s : State) (events : List Event) (j : ℕ) (job : List ℕ) (q : Quotation) : Type 0 where
  pub stands : Asks (before s events j) (event_at events j) job q
  pub accepted : accepted q.answer.refusal ≡ true

-- "A job is a byte stream": the job of an event is
abbrev pub BytesIn : Event → Type 0
BytesIn (quoting job recipe) = Bytes job
BytesIn (taking job recipe) = Bytes job
BytesIn reading = Unit {0}

-- the job of every event is
abbrev pub AllBytes : List Event → Type 0
AllBytes [] = Unit {0}
AllBytes (e ∷ es) = BytesIn e × AllBytes es
