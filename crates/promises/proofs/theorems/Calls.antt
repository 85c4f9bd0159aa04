-- Demands 2 and 3, the ceiling of several fields, the saving, the counts of cuts and the index, of a C program's calls on one store.
use Prim.Native.Nat.{ℕ, zero, suc, ◌≤◌, ◌<◌}
use native.Mathlib.Omega.{arith}
use mathlib.Core.Path.{◌≡◌, refl, ap, ap₂, sym, ◌∙◌, subst}
use mathlib.Core.Bool.{Bool, true, false, cond}
use mathlib.Core.List.{List, [], ◌∷◌, ◌++◌}
use lib.ListN.{length}
use borrow.Author.Tests.{eq-eqb}
use Rattle.refusal.specs.Number.{number_of, accepted}
use Rattle.refusal.proofs.laws.NoGround.{accepted_number}
use Rattle.chunker.specs.Scanner.{window_allowed}
use Rattle.chunker.specs.KeptMaximum.{KeptMaximum}
use Rattle.cut_counts.specs.declared.CutCounts.{CutCounts}
use Rattle.store.specs.Opening as store
use Rattle.admission.specs.Quote.{Quotation}
use Rattle.admission.proofs.laws.Takes.{untouched}
use Rattle.admission.proofs.theorems.QuoteAndTake.{same_quotation, same_refusal}
use Rattle.promises.specs.History as history
use Rattle.promises.specs.History.{Event, quoting, taking, reading, State, start, event_at, quote_in, Takes, takes, Asks, by_quote, by_take}
use Rattle.promises.specs.History.{TakenAt, AskedAt, AllBytes}
use Rattle.promises.proofs.laws.Fields.{old_joined, revision_joined}
use Rattle.promises.specs.Fields.{Field, old_job, revision, AllKept, ceiling_of, joined}
use Rattle.promises.proofs.theorems.FirstAppearances.{first_appearances_lem}
use Rattle.promises.proofs.theorems.Saving.{saves}
use Rattle.promises.proofs.theorems.CutCounts.{counts_cuts}
use Rattle.promises.proofs.theorems.GivesBack.{gives_back}
use Rattle.promises.proofs.theorems.SeveralFields.{several_fields}
use Rattle.promises.proofs.theorems.Promise.{promise}
use Rattle.promises.specs.IndexStays.{NotIndex}
use Rattle.promises.proofs.theorems.IndexStays.{index_stays}
use Rattle.numbers.specs.Storing.{head_of, head_numbers, counts_of}
use Rattle.hirunvel.specs.Storing.{StoreQuotation, store_opened, store_quoted, store_taken}
use Rattle.hirunvel.specs.Rebuilding.{job_rebuilt}
use Rattle.promises.specs.Calls.{Memory, opened, quote_call, take_call, told_by, leaves, chunks_of, before, chunks_before, TakesCall, takes_call, AsksCall, quote_called, take_called}
use Rattle.promises.specs.Calls.{TakenCall, AskedCall, recipe_of, charge_of, Counts, Saves, CountsCuts, GivesBack, rebuild, PromisedCalls}

-- a store's state as a C program keeps it
abbrev pub memory_of : State → Memory
memory_of s = record { head = head_numbers s.head; pool = s.pool; directory = s.directory; index = s.index }

-- a quotation as a C program gets it
abbrev pub numbers_of : Quotation → StoreQuotation
numbers_of q =
    record {
      refusal = number_of q.answer.refusal;
      recipe = q.recipe;
      counts = counts_of q.answer;
      saving = q.answer.saving ∷ [];
    }

-- a call that takes a job is a take
takes_called : {s : State} {e : Event} {job : List ℕ} {c : StoreQuotation} → TakesCall (memory_of s) e job c
    → (q : Quotation) × Takes s e job q × (c ≡ numbers_of q)
unfolding store_taken
takes_called takes_call = (_, takes, refl)

-- one that quotes or takes it is a quote or a take
asks_called : {s : State} {e : Event} {job : List ℕ} {c : StoreQuotation} → AsksCall (memory_of s) e job c
    → (q : Quotation) × Asks s e job q × (c ≡ numbers_of q)
unfolding store_quoted store_taken
asks_called quote_called = (_, by_quote, refl)
asks_called take_called = (_, by_take, refl)

-- a call leaves what the event leaves: "the head written is the head handed back"
call_leaves : (s : State) → (e : Event) → leaves (memory_of s) e ≡ memory_of (history.leaves s e)
unfolding leaves history.leaves store_taken
call_leaves s (quoting job recipe) = refl
call_leaves s reading = refl
call_leaves s (taking job recipe) = by_test (history.accepts s (taking job recipe)) refl
  where
    same : history.accepts s (taking job recipe) ≡ accepted (quote_in s job recipe).answer.refusal
    same = ap accepted (same_refusal s.head s.pool s.directory s.index recipe job)

    by_test : (t : Bool) → history.accepts s (taking job recipe) ≡ t
        → leaves (memory_of s) (taking job recipe) ≡ memory_of (history.leaves s (taking job recipe))
    by_test true h = rw h
    by_test false h = rw (h, (untouched s.head s.pool s.directory s.index recipe job (sym same ∙ h)).same_head)

-- "On the same inputs a quote and a take give equal lengths and counts, 0 if refused, equal recipes and the same refusal": of
-- any head, pool, directory and index
pub quote_tells_called : (m : Memory) (job recipe : List ℕ) → quote_call m job recipe ≡ told_by (take_call m job recipe)
unfolding store_quoted store_taken
quote_tells_called m job recipe = ap numbers_of (sym (same_quotation (head_of m.head) m.pool m.directory m.index recipe job))

module _ (w : ℕ) (allowed : (store_opened w).refusal ≡ 0) (pool directory : List ℕ) (calls : List Event)
    (b : AllBytes calls) where
  -- the program's memory, and the store's state, at the start
  abbrev m : Memory
  m = opened w pool directory

  abbrev s : State
  s = start w pool directory

  -- opening writes a fresh head
  opened_start : m ≡ memory_of s
  unfolding store_opened store.opened
  opened_start = by_test (window_allowed w) refl
    where
      by_test : (t : Bool) → window_allowed w ≡ t → m ≡ memory_of s
      by_test true e = rw e
      by_test false e = absurd (let z : ◌≡◌ {A = ℕ} 1 0 = rw e at allowed in omega arith)

  -- the calls are a history: before each call the program has the state of the store
  pub calls_history : (i : ℕ) → before m calls i ≡ memory_of (history.before s calls i)
  unfolding before history.before
  calls_history zero = opened_start
  calls_history (suc i) =
      ap (λ n. leaves n (event_at calls i)) (calls_history i) ∙ call_leaves (history.before s calls i) (event_at calls i)

  -- a call that takes a job and returns 0 is a take that is not refused
  taken_at : {i : ℕ} {job : List ℕ} {c : StoreQuotation} → TakenCall m calls i job c
      → (q : Quotation) × TakenAt s calls i job q × (c ≡ numbers_of q)
  taken_at {i} {job} {c} a =
      let t = takes_called (subst (λ n. TakesCall n (event_at calls i) job c) (calls_history i) a.stands) in
      (t.0, record { stands = t.1; accepted = accepted_number _ ∙ eq-eqb _ 0 (ap (λ x. x.refusal) (sym t.2) ∙ a.accepted) }, t.2)

  -- one that quotes or takes it and returns 0 is a quote or a take that is not refused
  asked_at : {j : ℕ} {job : List ℕ} {c : StoreQuotation} → AskedCall m calls j job c
      → (q : Quotation) × AskedAt s calls j job q × (c ≡ numbers_of q)
  asked_at {j} {job} {c} a =
      let t = asks_called (subst (λ n. AsksCall n (event_at calls j) job c) (calls_history j) a.stands) in
      (t.0, record { stands = t.1; accepted = accepted_number _ ∙ eq-eqb _ 0 (ap (λ x. x.refusal) (sym t.2) ∙ a.accepted) }, t.2)

  -- the chunks of an event by the call's result
  call_chunks : (t : State) (e : Event)
      → chunks_of w (memory_of t) e ≡ cond (history.accepts t e) (history.chunks_of w e) []
  unfolding store_taken
  call_chunks t (quoting job recipe) = refl
  call_chunks t (taking job recipe) =
      ap (λ b. cond b (history.chunks_of w (taking job recipe)) []) (sym (accepted_number (history.take_in t job recipe).answer.quoted.refusal))
  call_chunks t reading = refl

  -- the jobs that earlier calls took are those accepted before
  chunks_before_lem : (i : ℕ) → chunks_before m calls w i ≡ history.chunks_before s calls i
  unfolding chunks_before history.chunks_before
  chunks_before_lem zero = refl
  chunks_before_lem (suc i) =
      ap₂ ◌++◌ (chunks_before_lem i)
      (ap (λ n. chunks_of w n (event_at calls i)) (calls_history i)
      ∙ call_chunks (history.before s calls i) (event_at calls i))

  -- demand 2: new bytes are the first appearances
  pub counts : (j : ℕ) (job : List ℕ) (c : StoreQuotation) → AskedCall m calls j job c → Counts w m calls j job c
  counts j job c a =
      let t = asked_at a in
      rw (t.2, chunks_before_lem j) (first_appearances_lem w pool directory calls b j job t.0 t.1)

  -- the saving is the tariff's, of the first appearances and of a number for each chunk
  pub saved : (j : ℕ) (job : List ℕ) (c : StoreQuotation) → AskedCall m calls j job c → Saves w m calls j job c
  saved j job c a =
      let t = asked_at a in
      rw (t.2, chunks_before_lem j) (ap (λ z. z ∷ []) (saves w pool directory calls b j job t.0 t.1))

  -- the counts of cuts are the job's
  pub cuts_counted : (j : ℕ) (job : List ℕ) (c : StoreQuotation) → AskedCall m calls j job c → CountsCuts w job c
  cuts_counted j job c a =
      let t = asked_at a in
      rw t.2 (ap (λ (n : CutCounts). n.low ∷ n.printable ∷ n.high ∷ []) (counts_cuts w pool directory calls b j job t.0 t.1))

  -- demand 2: after any later call, the recipe that a take left gives the job back
  pub rebuilds : (i : ℕ) (job : List ℕ) (c : StoreQuotation) → TakenCall m calls i job c → (j : ℕ) → i < j
      → (output : List ℕ) → length job ≤ length output
      → GivesBack job output (rebuild (before m calls j) (recipe_of c) output)
  unfolding job_rebuilt
  rebuilds i job c a j l output room =
      let t = taken_at a in
      let back = gives_back w pool directory calls b i job t.0 t.1 j l output room in
      rw (t.2, calls_history j)
      (record { refusal = ap number_of back.refusal; written = ap (λ n. n ∷ []) back.written; bytes = back.output })

  -- demand 3: of every take of a job, every later quote or take of a revision, each division and each kept maximum
  pub promised : (i j : ℕ) → i < j → (beginning replaced changed ending : List ℕ) (old new : StoreQuotation)
      → TakenCall m calls i (beginning ++ (replaced ++ ending)) old
      → AskedCall m calls j (beginning ++ (changed ++ ending)) new
      → (k : ℕ) → KeptMaximum w ending k → PromisedCalls w beginning replaced changed ending k old new
  promised i j l beginning replaced changed ending old new taken asked k kept =
      let t = taken_at taken in
      let u = asked_at asked in
      rw (t.2, u.2)
      (promise w pool directory calls b i j l beginning replaced changed ending t.0 u.0 t.1 u.1 k kept)

  -- several changed fields: of each division into fields
  pub several_fields_called : (i j : ℕ) → i < j → (opening : List ℕ) (fields : List Field) (old new : StoreQuotation)
      → TakenCall m calls i (old_job opening fields) old → AskedCall m calls j (revision opening fields) new
      → AllKept w fields → charge_of new ≤ ceiling_of w fields
  several_fields_called i j l opening fields old new taken asked kept =
      let t = taken_at taken in
      let u = asked_at asked in
      rw u.2 (several_fields w pool directory calls b i j l t.0 u.0 opening fields t.1 u.1 kept)

  -- what lines up after the last of them
  pub last_field_called : (i j : ℕ) → i < j
      → (opening : List ℕ) (fields : List Field) (last : Field) (old new : StoreQuotation)
      → TakenCall m calls i (old_job opening (fields ++ (last ∷ []))) old
      → AskedCall m calls j (revision opening (fields ++ (last ∷ []))) new
      → KeptMaximum w last.kept last.place
      → PromisedCalls w opening (joined fields last).replaced (joined fields last).changed last.kept last.place old new
  last_field_called i j l opening fields last old new taken asked kept =
      promised i j l opening (joined fields last).replaced (joined fields last).changed last.kept old new
      (rw (old_joined opening fields last) at taken) (rw (revision_joined opening fields last) at asked) last.place kept

  -- the index is never refused: whatever job is handed in after any of the calls, a quote and a take return neither 11 nor 12
  pub index_accepted : (j : ℕ) (job recipe : List ℕ)
      → NotIndex (quote_call (before m calls j) job recipe).refusal × NotIndex (take_call (before m calls j) job recipe).refusal
  unfolding store_quoted store_taken
  index_accepted j job recipe =
      let stays = index_stays w pool directory calls b j in
      rw (calls_history j) (stays.quotes job recipe, stays.takes job recipe)
