-- What an event does to a store as a list of chunks, and what the store holds at each place of a list of events.
use Prim.Native.Nat.{ℕ, zero, suc, ◌+◌, ◌-◌, ◌≤◌, ◌<◌}
use native.Mathlib.Omega.{arith}
use native.Mathlib.Nat.{add-zero, add-suc}
use mathlib.Core.Path.{◌≡◌, refl, ap, sym, ◌∙◌, subst}
use mathlib.Core.Bool.{Bool, true, false, cond}
use mathlib.Core.List.{List, [], ◌∷◌, ◌++◌, map}
use lib.ListN.{length, length-replicate}
use borrow.Author.Tests.{eq-eqb}
use Rattle.refusal.specs.Number.{accepted}
use Rattle.chunker.specs.Bytes.{Bytes}
use Rattle.chunker.specs.Scanner.{window_allowed}
use Rattle.chunker.specs.Chunks.{chunks}
use Rattle.gear.specs.Gear.{chains}
use Rattle.directory.specs.Entry.{entries}
use Rattle.store.specs.Contents.{number, grown, added}
use Rattle.store.specs.Grounds.{fits, memory_allowed}
use Rattle.store.specs.Limits.{recipe_limit}
use Rattle.store.specs.Memory.{chunks_from}
use Rattle.store.proofs.laws.Memory.{contents_length}
use Rattle.store.proofs.laws.grounds.Fitting.{fresh_fits}
use Rattle.index.specs.Index.{fresh_index, enter_all}
use Rattle.index.specs.Grounds.{length_allowed, meets}
use Rattle.index.proofs.laws.Entering.{enter_all_append}
use Rattle.index.proofs.theorems.Entering.{fresh_meets}
use Rattle.store.proofs.laws.contents.Additions.{grown_added}
use Rattle.store.proofs.laws.contents.Growth.{Among, grown_keeps, grown_has, grown_append, numbers_grown}
use Rattle.admission.specs.Quote.{Quotation, recipe_of}
use Rattle.admission.proofs.laws.Asked.{Asked, passed, asked, chunks_few}
use Rattle.admission.proofs.laws.Takes.{adds, untouched}
use Rattle.admission.proofs.theorems.QuoteAndTake.{same_quotation, same_refusal}
use Rattle.promises.specs.History.{Event, quoting, taking, reading, State, start, holds, quote_in, leaves, accepts, chunks_of, event_at}
use Rattle.promises.specs.History.{before, chunks_before, Takes, takes, Asks, by_quote, by_take, TakenAt, AskedAt, BytesIn, AllBytes}

-- head and index fit pool and directory: none of the grounds 5, 11 and 12 holds
pub record Fitting (s : State) : Type 0 where
  pub head : fits s.head s.pool s.directory ≡ true
  pub index_length : length_allowed s.directory s.index ≡ true
  pub indexed : meets s.index (holds s) ≡ true

-- the chunks that an event adds in a state
abbrev pub added_chunks : State → Event → List (List ℕ)
added_chunks s e = cond (accepts s e) (chunks_of s.head.window e) []

-- the state t comes from the state s by the chunks cs
pub record Grows (s t : State) (cs : List (List ℕ)) : Type 0 where
  pub fitting : Fitting t
  pub window : t.head.window ≡ s.head.window
  pub held : holds t ≡ grown (holds s) cs
  pub pool_length : length t.pool ≡ length s.pool
  pub directory_length : length t.directory ≡ length s.directory
  -- an index that is that of the store's chunks, entered one after another into some first one, stays so
  pub in_order : (first : List ℕ) → s.index ≡ enter_all first 0 (holds s) → t.index ≡ enter_all first 0 (holds t)

-- no chunks change nothing
grows_none : (s : State) → Fitting s → Grows s s []
unfolding grown
grows_none s f =
    record {
      fitting = f;
      window = refl;
      held = refl;
      pool_length = refl;
      directory_length = refl;
      in_order = λ first e. e;
    }

-- chunks are added one list after the other
grows_then : (s t u : State) (cs ds : List (List ℕ)) → Grows s t cs → Grows t u ds → Grows s u (cs ++ ds)
grows_then s t u cs ds g h =
    record {
      fitting = h.fitting;
      window = h.window ∙ g.window;
      held = rw (grown_append (holds s) cs ds, ← g.held) h.held;
      pool_length = h.pool_length ∙ g.pool_length;
      directory_length = h.directory_length ∙ g.directory_length;
      in_order = λ first e. h.in_order first (g.in_order first e);
    }

-- states with the same head, pool, directory and index
same_state : (s t : State) → t.head ≡ s.head → t.pool ≡ s.pool → t.directory ≡ s.directory
    → t.index ≡ s.index → t ≡ s
same_state s t h p d i = rw (h, p, d, i)

-- whether an index has its length depends on lengths only
length_allowed_same : (directory index directory' index' : List ℕ) → length directory' ≡ length directory
    → length index' ≡ length index → length_allowed directory index ≡ true → length_allowed directory' index' ≡ true
unfolding length_allowed
length_allowed_same directory index directory' index' d i h = rw (d, i) h

-- the next chunks, entered after those that the store holds
entered_after : (first index : List ℕ) (held cs : List (List ℕ)) (n : ℕ) → length held ≡ n
    → index ≡ enter_all first 0 held → enter_all index n (added held cs) ≡ enter_all first 0 (grown held cs)
entered_after first index held cs n count e =
    let after : 0 + length held ≡ n = omega arith in
    rw (grown_added held cs, e, enter_all_append first 0 held (added held cs), after)

-- a take adds the chunks of its job, or nothing
grows_take : (s : State) → Fitting s → (job recipe : List ℕ) → Bytes job
    → Grows s (leaves s (taking job recipe)) (added_chunks s (taking job recipe))
unfolding leaves grown
grows_take s f job recipe b = step (accepts s (taking job recipe)) refl
  where
    same : accepts s (taking job recipe) ≡ accepted (quote_in s job recipe).answer.refusal
    same = ap accepted (same_refusal s.head s.pool s.directory s.index recipe job)

    step : (t : Bool) → accepts s (taking job recipe) ≡ t
        → Grows s (leaves s (taking job recipe)) (cond t (chunks s.head.window job) [])
    step true h =
        let a = adds s.head s.pool s.directory s.index recipe job (sym same ∙ h) b in
        record {
          fitting = record {
            head = a.fitting;
            index_length = length_allowed_same s.directory s.index _ _ (cc) (cc) f.index_length;
            indexed = a.indexed;
          };
          window = a.window;
          held = a.held;
          pool_length = a.pool_length;
          directory_length = a.directory_length;
          in_order = λ first e.
              rw a.held
              (a.entered
              ∙ entered_after first s.index (holds s) (chunks s.head.window job) s.head.chunks.0
              (contents_length s.pool s.directory 0 s.head.chunks.0) e);
        }
    step false h =
        let u = untouched s.head s.pool s.directory s.index recipe job (sym same ∙ h) in
        let left = same_state s (leaves s (taking job recipe)) (cc) (cc) (cc) (cc) in
        rw left (grows_none s f)

-- what each event adds
grows_once : (s : State) → Fitting s → (e : Event) → BytesIn e → Grows s (leaves s e) (added_chunks s e)
unfolding leaves
grows_once s f (quoting job recipe) b = grows_none s f
grows_once s f (taking job recipe) b = grows_take s f job recipe b
grows_once s f reading b = grows_none s f

-- the job of the event at each place is bytes
pub bytes_in : (events : List Event) → AllBytes events → (j : ℕ) → BytesIn (event_at events j)
bytes_in [] b j = tt
bytes_in (e ∷ es) b zero = b.0
bytes_in (e ∷ es) b (suc j) = bytes_in es b.1 j

-- so is the job that is asked for
pub asked_bytes : {s : State} {e : Event} {job : List ℕ} {q : Quotation} → Asks s e job q → BytesIn e → Bytes job
asked_bytes by_quote b = b
asked_bytes by_take b = b

module _ (s : State) (f : Fitting s) (events : List Event) (b : AllBytes events) where
  -- at each place of a list of events, the store has grown by the chunks of the jobs accepted before
  pub grows : (i : ℕ) → Grows s (before s events i) (chunks_before s events i)
  unfolding before chunks_before
  grows zero = grows_none s f
  grows (suc i) =
      let g = grows i in
      let t = before s events i in
      let once = grows_once t g.fitting (event_at events i) (bytes_in events b i) in
      grows_then s t _ (chunks_before s events i) _ g (rw g.window at once)

  -- from a place to a later one it has grown by some chunks
  grows_by : (i n : ℕ) → (cs : List (List ℕ)) × Grows (before s events i) (before s events (i + n)) cs
  unfolding before
  grows_by i zero = rw add-zero ([], grows_none _ (grows i).fitting)
  grows_by i (suc n) =
      let g = grows_by i n in
      let t = before s events (i + n) in
      rw add-suc (
        g.0 ++ added_chunks t (event_at events (i + n)),
        grows_then (before s events i) t _ g.0 _ g.1
            (grows_once t g.1.fitting (event_at events (i + n)) (bytes_in events b (i + n))),
      )

  pub grows_between : (i j : ℕ) → i ≤ j → (cs : List (List ℕ)) × Grows (before s events i) (before s events j) cs
  grows_between i j h = let whole : i + (j - i) ≡ j = omega arith in rw whole at (grows_by i (j - i))

-- a take asks
pub taking_asks : {s : State} {e : Event} {job : List ℕ} {q : Quotation} → Takes s e job q → Asks s e job q
taking_asks takes = by_take

pub taken_asked : {s : State} {events : List Event} {i : ℕ} {job : List ℕ} {q : Quotation} → TakenAt s events i job q
    → AskedAt s events i job q
taken_asked a = record { stands = taking_asks a.stands; accepted = a.accepted }

-- what is asked in a state is a quote there, whether or not the job is taken
pub as_quoted : {s : State} {e : Event} {job : List ℕ} {q : Quotation} → Asks s e job q
    → (recipe : List ℕ) × (q ≡ quote_in s job recipe)
as_quoted (by_quote {job} {recipe}) = (recipe, refl)
as_quoted {s} (by_take {job} {recipe}) = (recipe, same_quotation s.head s.pool s.directory s.index recipe job)

-- the chunks that a take which is not refused adds
pub taken_chunks : {s : State} {e : Event} {job : List ℕ} {q : Quotation} → Takes s e job q
    → accepted q.answer.refusal ≡ true → added_chunks s e ≡ chunks s.head.window job
taken_chunks takes h = rw h

-- a recipe names a job's chunks: the store holds them, and the recipe is their numbers
pub record Named (w : ℕ) (t : State) (job recipe : List ℕ) : Type 0 where
  pub among : Among (chunks w job) (holds t)
  pub numbers : recipe ≡ map (number (holds t)) (chunks w job)

-- what is told of a job that is quoted or taken at a place, by the window that the list starts with
pub record ToldAt (w : ℕ) (t : State) (job : List ℕ) (q : Quotation) : Type 0 where
  pub allowed : window_allowed w ≡ true
  pub memory : memory_allowed t.pool t.directory ≡ true
  pub tells : Asked w (holds t) job q
  pub short : length (chunks w job) ≤ recipe_limit

module _ (s : State) (f : Fitting s) (events : List Event) (b : AllBytes events) where
  module _ (j : ℕ) (job : List ℕ) (q : Quotation) (a : AskedAt s events j job q) where
    pub told_at : ToldAt s.head.window (before s events j) job q
    told_at =
        let t = before s events j in
        let window = (grows s f events b j).window in
        let r = as_quoted a.stands in
        let h : accepted (quote_in t job r.0).answer.refusal ≡ true = rw (← r.1) a.accepted in
        let p = passed t.head t.pool t.directory t.index r.0 job h in
        let told = asked t.head t.pool t.directory t.index r.0 job h in
        let few = chunks_few t.head t.pool t.directory t.index r.0 job h in
        record {
          allowed = subst (λ v. window_allowed v ≡ true) window p.window;
          memory = p.store_memory;
          tells = rw r.1 (subst (λ v. Asked v (holds t) job (quote_in t job r.0)) window told);
          short = subst (λ v. length (chunks v job) ≤ recipe_limit) window few;
        }

    -- the job is bytes
    pub bytes_at : Bytes job
    bytes_at = asked_bytes a.stands (bytes_in events b j)

  module _ (i : ℕ) (job : List ℕ) (q : Quotation) (a : TakenAt s events i job q) where
    -- the job that is taken at a place adds its chunks
    pub next_holds : holds (before s events (suc i)) ≡ grown (holds (before s events i)) (chunks s.head.window job)
    unfolding before
    next_holds =
        let g = grows s f events b i in
        let once = (grows_once (before s events i) g.fitting (event_at events i) (bytes_in events b i)).held in
        rw (taken_chunks a.stands a.accepted, g.window) at once

    -- its recipe names the job's chunks at each later place
    pub named_at : (j : ℕ) → i < j → Named s.head.window (before s events j) job (recipe_of q)
    named_at j h =
        let cs = chunks s.head.window job in
        let told = told_at i job q (taken_asked a) in
        let g = grows_between s f events b (suc i) j h in
        let next = holds (before s events (suc i)) in
        let had : Among cs next = rw next_holds (grown_has (holds (before s events i)) cs) in
        let numbers : recipe_of q ≡ map (number next) cs = rw next_holds told.tells.recipe in
        record {
          among = λ c k. rw g.1.held (grown_keeps next g.0 c (had c k));
          numbers = rw g.1.held (numbers ∙ sym (numbers_grown next g.0 cs had));
        }

-- a fresh head and a fresh index fit any pool and directory
pub start_fits : (w : ℕ) (pool directory : List ℕ) → Fitting (start w pool directory)
unfolding chunks_from length_allowed fresh_index
start_fits w pool directory =
    record {
      head = fresh_fits w pool directory;
      index_length = eq-eqb _ _ (length-replicate (chains + entries directory) _);
      indexed = fresh_meets (entries directory);
    }

-- the index of a store that started fresh is that of its chunks, entered in order
pub index_in_order : (w : ℕ) (pool directory : List ℕ) (events : List Event) → AllBytes events → (i : ℕ)
    → (before (start w pool directory) events i).index
    ≡ enter_all (fresh_index (entries directory)) 0 (holds (before (start w pool directory) events i))
unfolding chunks_from enter_all
index_in_order w pool directory events b i =
    (grows (start w pool directory) (start_fits w pool directory) events b i).in_order (fresh_index (entries directory)) refl

-- what a store that started fresh holds before each place
pub standing : (w : ℕ) (pool directory : List ℕ) (events : List Event) → AllBytes events → (i : ℕ)
    → holds (before (start w pool directory) events i) ≡ grown [] (chunks_before (start w pool directory) events i)
unfolding chunks_from
standing w pool directory events b i =
    (grows (start w pool directory) (start_fits w pool directory) events b i).held
