-- Over a list of events the index meets every chunk of the store just once, the pass in order accepts it, and no job is refused
-- by the grounds 11 and 12.
use Prim.Native.Nat.{ℕ, suc, ◌+◌, ◌≤◌}
use native.Mathlib.Omega.{arith}
use mathlib.Core.Path.{◌≡◌, refl}
use mathlib.Core.Bool.{Bool, true, false, ◌||◌}
use mathlib.Core.List.{List, [], ◌∷◌}
use lib.Dec.{leb, ltb}
use lib.ListN.{length}
use borrow.Author.Tests.{eqb-true}
use Rattle.refusal.specs.Number.{number_of, accepted}
use Rattle.refusal.specs.Grounds.{unless, first}
use Rattle.refusal.specs.declared.Refusal.{Refusal}
use Rattle.refusal.specs.declared.Refusal.TheVariants.{Window, JobLength, MemoryLimit, Head, RecipeFull, DirectoryFull, PoolFull, IndexLength, Index}
use Rattle.chunker.specs.Scanner.{window_allowed}
use Rattle.chunker.specs.Chunks.{total}
use Rattle.directory.specs.Entry.{entries}
use Rattle.store.specs.Contents.{has, gain}
use Rattle.store.specs.Limits.{directory_limit}
use Rattle.store.specs.Grounds.{memory_allowed, recipe_allowed, fits}
use Rattle.store.proofs.laws.Memory.{contents_length}
use Rattle.store.proofs.laws.grounds.Fitting.{fits_facts}
use Rattle.index.specs.Ordered.{ordered}
use Rattle.index.specs.Grounds.{length_allowed}
use Rattle.index.proofs.theorems.EachChunkOnce.{test}
use Rattle.index.proofs.theorems.OrderedPass.{taken_ordered}
use Rattle.survey.specs.Walk.{Room, chunk_ground, walk}
use Rattle.admission.specs.Grounds.{job_allowed, admission_ground}
use Rattle.admission.specs.Take.{quotation_of}
use Rattle.admission.proofs.laws.Outcomes.{quote_refused}
use Rattle.admission.proofs.laws.Refusals.{quote_refusal}
use Rattle.admission.proofs.theorems.QuoteAndTake.{same_refusal}
use Rattle.promises.specs.History.{Event, State, start, holds, quote_in, take_in, before, AllBytes}
use Rattle.promises.specs.IndexStays.{NotIndex, IndexStays}
use Rattle.promises.proofs.laws.Events.{Fitting, grows, start_fits, index_in_order}
use Rattle.std.specs.Prelude.{Option}

-- the grounds of a chunk by their tests
tests_most : (place entry bytes : Bool)
    → number_of (first (unless place RecipeFull ∷ unless entry DirectoryFull ∷ unless bytes PoolFull ∷ [])) ≤ 8
tests_most false entry bytes = omega arith
tests_most true false bytes = omega arith
tests_most true true false = omega arith
tests_most true true true = omega arith

chunk_most : (room : Room) (used : ℕ) (held : List (List ℕ)) (c : List ℕ) → number_of (chunk_ground room used held c) ≤ 8
unfolding chunk_ground
chunk_most room used held c =
    tests_most (ltb used room.places) (has held c || ltb (length held) room.entries)
    (has held c || leb (total held + length c) room.bytes)

-- a walk refuses no chunk on a ground above 8
walk_most : (room : Room) (used : ℕ) (held cs : List (List ℕ)) → number_of (walk room used held cs).refusal ≤ 8
unfolding walk
walk_most room used held [] = omega arith
walk_most room used held (c ∷ cs) =
    by_test (accepted (chunk_ground room used held c)) refl (walk_most room (suc used) (gain held c) cs)
  where
    by_test : (t : Bool) → accepted (chunk_ground room used held c) ≡ t
        → number_of (walk room (suc used) (gain held c) cs).refusal ≤ 8
        → number_of (walk room used held (c ∷ cs)).refusal ≤ 8
    by_test true h later = rw h later
    by_test false h later = rw h (chunk_most room used held c)

-- the grounds before the first chunk by their tests, where those of the index pass
early_most : (window job recipe memory fitting : Bool)
    → number_of
    (first
    (unless window Window
    ∷ unless job JobLength
    ∷ unless recipe MemoryLimit
    ∷ unless memory MemoryLimit
    ∷ unless fitting Head
    ∷ unless true IndexLength
    ∷ unless true Index
    ∷ []))
    ≤ 5
early_most false job recipe memory fitting = omega arith
early_most true false recipe memory fitting = omega arith
early_most true true false memory fitting = omega arith
early_most true true true false fitting = omega arith
early_most true true true true false = omega arith
early_most true true true true true = omega arith

module _ (s : State) (f : Fitting s) (job recipe : List ℕ) where
  abbrev ground : Option Refusal
  ground = admission_ground s.head s.pool s.directory s.index recipe job

  ground_most : number_of ground ≤ 5
  unfolding admission_ground
  ground_most =
      rw (f.index_length, f.indexed)
      (early_most (window_allowed s.head.window) (job_allowed job) (recipe_allowed recipe)
      (memory_allowed s.pool s.directory) (fits s.head s.pool s.directory))

  -- a quote is refused by one of these grounds or by its walk
  quote_most : number_of (quote_in s job recipe).answer.refusal ≤ 8
  quote_most = by_ground (accepted ground) refl
    where
      by_ground : (t : Bool) → accepted ground ≡ t → number_of (quote_in s job recipe).answer.refusal ≤ 8
      by_ground true h =
          rw (quote_refusal s.head s.pool s.directory s.index recipe job h) (walk_most _ 0 _ _)
      by_ground false h =
          rw (← (quote_refused s.head s.pool s.directory s.index recipe job h)) (omega (arith, ground_most))

  -- a take as its quote
  take_most : number_of (quotation_of (take_in s job recipe)).answer.refusal ≤ 8
  take_most = rw (same_refusal s.head s.pool s.directory s.index recipe job) quote_most

-- no number up to 8 is 11 or 12
not_index : (n : ℕ) → n ≤ 8 → NotIndex n
not_index n h = (λ e. omega arith, λ e. omega arith)

-- at every place of a list from a fresh store; so the grounds 11 and 12 refuse no job of a station that keeps its memory
pub index_stays : (w : ℕ) (pool directory : List ℕ) (events : List Event) → AllBytes events → (j : ℕ)
    → IndexStays (start w pool directory) events j
unfolding length_allowed
index_stays w pool directory events b j =
    let s = start w pool directory in
    let t = before s events j in
    let f = (grows s (start_fits w pool directory) events b j).fitting in
    record {
      sized = eqb-true _ _ f.index_length;
      met = (test t.index (holds t)).0 f.indexed;
      in_order = index_in_order w pool directory events b j;
      quotes = λ job recipe. not_index _ (quote_most t f job recipe);
      takes = λ job recipe. not_index _ (take_most t f job recipe);
    }

-- the pass in order accepts the index at every place, so the walk along the chains is never needed; a directory over the limit is
-- refused by ground 4, before the index is tested
pub stays_ordered : (w : ℕ) (pool directory : List ℕ) (events : List Event) → AllBytes events → length directory ≤ directory_limit
    → (j : ℕ)
    → let t = before (start w pool directory) events j in
    ordered t.index (holds t) ≡ true
stays_ordered w pool directory events b limit j =
    let s = start w pool directory in
    let t = before s events j in
    let g = grows s (start_fits w pool directory) events b j in
    let facts = fits_facts t.head t.pool t.directory g.fitting.head in
    let count = contents_length t.pool t.directory 0 t.head.chunks.0 in
    let room : length (holds t) ≤ entries directory = rw count (rw g.directory_length at facts.counted) in
    rw (index_in_order w pool directory events b j)
    (taken_ordered (entries directory) (holds t) room (omega (arith, room, limit)))
