-- A survey under way, as its loop keeps it: what the places say is the walk so far, and what is still to do gives what was
-- asked.
use Prim.Native.Nat.{ℕ, suc, ◌+◌, ◌/◌, ◌%◌, ◌≤◌}
use native.Mathlib.Omega.{arith}
use native.Mathlib.Nat.{add-zero}
use native.Mathlib.Numerals.{add-one}
use mathlib.Core.Path.{◌≡◌, refl, sym, ap, ap₂, ◌∙◌, subst}
use mathlib.Core.Bool.{Bool, true, false, cond, not, ◌&&◌, ◌||◌, true≢false, false≢true}
use lib.Dec.{eqb}
use mathlib.Core.List.{List, [], ◌∷◌, ◌++◌, append_assoc, append-nil}
use lib.ListN.{length, take, drop, set, replicate, length-replicate, length-set, length-append, length-take, length-drop, drop_of_length-le}
use lib.Seq.{drop-drop}
use Rattle.refusal.specs.Number.{accepted}
use Rattle.gear.specs.Gear.{chains}
use Rattle.chunker.specs.Bytes.{Bytes}
use Rattle.chunker.specs.Chunks.{chunks, total}
use Rattle.chunker.proofs.laws.NextChunk.{NextChunk, no_chunks}
use Rattle.directory.specs.Entry.{entries}
use Rattle.store.specs.declared.Head.{Head}
use Rattle.store.specs.Contents.{gain, grown, added, repeated}
use Rattle.store.specs.Memory.{contents}
use Rattle.index.proofs.laws.Grounds.{length_fits}
use Rattle.store.proofs.laws.grounds.Fitting.{fits_facts, entries_in_lem}
use Rattle.store.proofs.laws.contents.Growth.{grown_append}
use Rattle.store.proofs.laws.contents.Additions.{length_grown, total_both, total_append}
use Rattle.marks.specs.Marks.{no_place, own_chains, own_chain, marks}
use Rattle.marks.specs.internal.Places.{start_stride, Heads, Starts, Placed}
use Rattle.marks.proofs.laws.Marking.{length_marks, Places, next_start}
use Rattle.marks.proofs.laws.Appearing.{linked}
use Rattle.marks.proofs.laws.Keeping.{starts_with, heads_none, starts_none, starts_noted, starts_more}
use Rattle.survey.specs.Walk.{room_in, job_walk, noted}
use Rattle.survey.specs.Walk as walk
use Rattle.survey.specs.internal.Snapshot.{Snapshot, snapshot, Outcome, ends, begun_at, stored, met, chunk_ground, after_chunk, chunk_outcome, heads_after}
use Rattle.survey.specs.internal.Surveyed.{survey_after, surveyed}
use Rattle.survey.specs.internal.Begun.{Begun}
use Rattle.survey.specs.internal.Ready.{InOrder, Counted, Next}
use Rattle.survey.proofs.laws.Walking.{walk_on, walk_stops, chunk_fits}
use Rattle.survey.proofs.laws.chunks.OneChunk.{noted_length, counted, full, places, ground_in, after_in, heads_in}
use Rattle.std.specs.Prelude.{None}

-- the chunks of the job before a position are surveyed; heads and starts are the survey's own
pub record Surveying (head : Head) (pool directory index recipe job : List ℕ) (f : Snapshot) (heads starts : List ℕ) (at : ℕ)
    : Type 0 where
  pub begun : Begun head pool directory index recipe job
  pub bytes : Bytes job
  pub done : List (List ℕ)
  pub whole : chunks head.window job ≡ done ++ chunks head.window (drop at job)
  pub place : total done ≡ at
  pub within : at ≤ length job
  pub state : f ≡ survey_after head pool directory recipe done
  pub used : length done ≤ length recipe
  pub listed : length (grown (contents pool directory head.chunks.0) done) ≤ entries directory
  pub in_pool : total (grown (contents pool directory head.chunks.0) done) ≤ length pool
  pub heads_long : length heads ≡ own_chains
  pub starts_long : length starts ≡ chains
  pub own_heads : Heads job (survey_after head pool directory recipe done).recipe heads (length done)
  pub own_starts : Starts (survey_after head pool directory recipe done).recipe starts (length done)
  pub gives : let on = walk.walk (room_in pool directory recipe) (length done)
      (grown (contents pool directory head.chunks.0) done) (chunks head.window (drop at job)) in
      job_walk head pool directory recipe job ≡ record { refusal = on.refusal; passed = done ++ on.passed }

-- the same counts, heads and starts
pub surveying_same : {head : Head} {pool directory index recipe job : List ℕ} {f g : Snapshot}
    {heads heads' starts starts' : List ℕ} {at : ℕ} → f ≡ g → heads ≡ heads' → starts ≡ starts'
    → Surveying head pool directory index recipe job f heads starts at
    → Surveying head pool directory index recipe job g heads' starts' at
surveying_same e h t s = rw (← e, ← h, ← t) s

-- what is lent and only read is in order
pub in_order : {head : Head} {pool directory index recipe job : List ℕ}
    → Begun head pool directory index recipe job → InOrder head pool directory index job
in_order {head} {pool} {directory} {index} b =
    let facts = fits_facts head pool directory b.fitting in
    record {
      entries = entries_in_lem head pool directory b.fitting;
      pool_length = b.pool_length;
      directory_length = b.directory_length;
      index_length = omega (arith, length_fits directory index b.index_length, facts.counted);
      indexed = b.indexed;
      job_length = b.job_length;
    }

-- nothing is surveyed yet
pub surveying_starts : (head : Head) (pool directory index recipe job : List ℕ)
    → Begun head pool directory index recipe job → Bytes job
    → Surveying head pool directory index recipe job (snapshot (begun_at head) recipe) (replicate own_chains no_place) (replicate chains no_place) 0
unfolding added repeated grown marks
surveying_starts head pool directory index recipe job b bytes =
    let facts = fits_facts head pool directory b.fitting in
    record {
      begun = b;
      bytes = bytes;
      done = [];
      whole = refl;
      place = refl;
      within = omega arith;
      state = rw (add-zero head.chunks.0, add-zero head.filled.0);
      used = omega arith;
      listed = omega (arith, counted head pool directory recipe job b, facts.counted);
      in_pool = omega (arith, full head pool directory recipe job b [], facts.in_pool);
      heads_long = length-replicate own_chains no_place;
      starts_long = length-replicate chains no_place;
      own_heads = heads_none job recipe;
      own_starts = starts_none recipe (replicate chains no_place);
      gives = refl;
    }

-- a list in which a number is set, or not
set_length : (t : Bool) (xs : List ℕ) (i x : ℕ) → length (cond t (set xs i x) xs) ≡ length xs
set_length true xs i x = length-set xs i x
set_length false xs i x = refl

-- the heads and the starts keep their lengths
heads_length : (head : Head) (pool directory job : List ℕ) (f : Snapshot) (heads c : List ℕ)
    → length (heads_after head pool directory job f heads c) ≡ length heads
unfolding heads_after
heads_length head pool directory job f heads c =
    let new = not (stored head pool directory job c || met head pool directory job f c) in
    set_length (accepted (chunk_ground head pool directory job f c) && new) heads (own_chain c) f.progress.recipe_length

starts_with_length : (starts : List ℕ) (place at : ℕ) → length (starts_with starts place at) ≡ length starts
starts_with_length starts place at = set_length (eqb (place % start_stride) 0) starts (place / start_stride) at

module _ {head : Head} {pool directory index recipe job : List ℕ} {f : Snapshot} {heads starts : List ℕ} {at : ℕ}
    (s : Surveying head pool directory index recipe job f heads starts at) where
  -- the chunks of the store, and with the new ones so far
  abbrev held : List (List ℕ)
  held = contents pool directory head.chunks.0

  abbrev store : List (List ℕ)
  store = grown held s.done

  -- no chunk is left
  pub surveying_ends : length job ≤ at → ends None f ≡ surveyed head pool directory recipe job
  unfolding surveyed walk.walk
  surveying_ends end =
      let none : chunks head.window (drop at job) ≡ [] = rw (drop_of_length-le job end) (no_chunks head.window) in
      let all : job_walk head pool directory recipe job ≡ record { refusal = None; passed = s.done } =
      rw (none, append-nil s.done) at s.gives in
      rw all (ap (ends None) s.state)

  module _ (n : ℕ) (next : NextChunk head.window (drop at job) n) where
    -- the next chunk, and those after it
    abbrev chunk : List ℕ
    chunk = take n (drop at job)

    abbrev later : List (List ℕ)
    later = chunks head.window (drop (at + n) job)

    left : chunks head.window (drop at job) ≡ chunk ∷ later
    left = next.first ∙ ap (λ bytes. chunk ∷ chunks head.window bytes) (drop-drop n at job)

    split : chunks head.window job ≡ s.done ++ (chunk ∷ later)
    split = s.whole ∙ ap (λ cs. s.done ++ cs) left

    pub chunk_length : length chunk ≡ n
    chunk_length = simp (length-take, length-drop) (omega (arith, next.within, length-drop at job))

    -- the marks of the chunks before it
    abbrev ms : List ℕ
    ms = marks held [] s.done

    marked_places : Places head.window job held [] s.done (chunk ∷ later)
    marked_places = places head pool directory recipe job s.begun s.bytes s.done chunk later split s.used

    long : length (noted recipe ms) ≡ length recipe
    long = noted_length recipe ms (rw (length_marks held [] s.done) s.used)

    -- it may be surveyed
    pub counted_in : Counted pool f
    counted_in =
        let b = s.begun in
        rw s.state
        (record {
          recipe_length = omega (arith, long, b.recipe_length);
          filled = omega (arith, full head pool directory recipe job b s.done, s.in_pool);
          chunks = omega (arith, counted head pool directory recipe job b, length_grown held s.done, s.listed, b.directory_length);
        })

    pub placed : Placed job f.recipe heads (starts_with starts f.progress.recipe_length at) f.progress.recipe_length
    placed =
        rw s.state
        (record {
          used = omega (arith, long, s.used);
          linked = linked head.window job held s.done (chunk ∷ later) marked_places (drop (length ms) recipe);
          own_heads = s.own_heads;
          own_starts = starts_noted (noted recipe ms) starts (length s.done) at s.own_starts;
        })

    pub next_in : Next job f chunk
    next_in =
        let start = next_start marked_places in
        rw s.state
        (record {
          some = start.some;
          small = start.small;
          counts = omega (arith, total_both held s.done, start.within);
        })

    -- its ground is the walk's
    ground : chunk_ground head pool directory job f chunk
        ≡ walk.chunk_ground (room_in pool directory recipe) (length s.done) store chunk
    ground = rw s.state (ground_in head pool directory recipe job s.begun s.bytes s.done chunk later split s.used)

    -- a refused chunk ends the survey
    surveying_stops : accepted (chunk_ground head pool directory job f chunk) ≡ false
        → ends (chunk_ground head pool directory job f chunk) f ≡ surveyed head pool directory recipe job
    unfolding surveyed
    surveying_stops refused =
        let stop = walk_stops (room_in pool directory recipe) (length s.done) store chunk later (rw ground at refused) in
        let all = rw (left, stop, append-nil s.done) at s.gives in
        rw all (ap₂ ends ground s.state)

    -- after any other it goes on
    surveying_on : accepted (chunk_ground head pool directory job f chunk) ≡ true
        → Surveying head pool directory index recipe job (after_chunk head pool directory job f chunk)
        (heads_after head pool directory job f heads chunk) (starts_with starts f.progress.recipe_length at) (at + n)
    unfolding grown
    surveying_on accepts =
        let room = room_in pool directory recipe in
        let passes = rw ground at accepts in
        let fit = chunk_fits room (length s.done) store chunk passes s.listed s.in_pool in
        let on = walk_on room (length s.done) store chunk later passes in
        let more : grown held (s.done ++ (chunk ∷ [])) ≡ gain store chunk = grown_append held s.done (chunk ∷ []) in
        let count : length (s.done ++ (chunk ∷ [])) ≡ suc (length s.done) =
        length-append s.done (chunk ∷ []) ∙ add-one (length s.done) in
        let state = after_in head pool directory recipe job s.begun s.bytes s.done chunk later split s.used fit.0 in
        let counted : f.progress.recipe_length ≡ length s.done = ap (λ g. g.progress.recipe_length) s.state in
        let rest : List (List ℕ) → List ℕ = λ es. drop (length (marks held [] es)) recipe in
        record {
          begun = s.begun;
          bytes = s.bytes;
          done = s.done ++ (chunk ∷ []);
          whole = split ∙ sym (append_assoc s.done (chunk ∷ []) later);
          place = omega (arith, total_append s.done (chunk ∷ []), s.place, chunk_length);
          within = omega (arith, next.within, s.within, length-drop at job);
          state = ap (λ g. after_chunk head pool directory job g chunk) s.state ∙ state;
          used = omega (arith, count, fit.0);
          listed = rw more fit.1;
          in_pool = rw more fit.2;
          heads_long = heads_after_length ∙ s.heads_long;
          starts_long = starts_with_length starts f.progress.recipe_length at ∙ s.starts_long;
          own_heads = rw s.state
              (heads_in head pool directory recipe job s.begun s.bytes s.done chunk later split s.used heads s.heads_long
              (rw s.state at accepts) s.own_heads);
          own_starts = subst (λ own. Starts (noted recipe (marks held [] (s.done ++ (chunk ∷ [])))) own (length (s.done ++ (chunk ∷ []))))
              (ap₂ (starts_with starts) (sym counted) s.place)
              (starts_more head.window job held s.done chunk later marked_places (rest s.done) (rest (s.done ++ (chunk ∷ []))) starts
              s.starts_long s.own_starts);
          gives = rw (more, count) (rw (left, on, ← (append_assoc s.done (chunk ∷ []) (walk.walk room (suc (length s.done)) (gain store chunk) later).passed)) at s.gives);
        }
      where
        heads_after_length : length (heads_after head pool directory job f heads chunk) ≡ length heads
        heads_after_length = heads_length head pool directory job f heads chunk

    -- the chunk's outcome
    abbrev outcome : Outcome
    outcome = chunk_outcome head pool directory job f chunk

    -- it goes on where no ground holds
    pub outcome_on : accepted outcome.refusal ≡ true
        → Surveying head pool directory index recipe job outcome.snapshot (heads_after head pool directory job f heads chunk)
        (starts_with starts f.progress.recipe_length at) (at + n)
    unfolding chunk_outcome
    outcome_on h = by_ground (accepted (chunk_ground head pool directory job f chunk)) refl
      where
        by_ground : (x : Bool) → accepted (chunk_ground head pool directory job f chunk) ≡ x
            → Surveying head pool directory index recipe job outcome.snapshot (heads_after head pool directory job f heads chunk)
            (starts_with starts f.progress.recipe_length at) (at + n)
        by_ground true e = rw e (surveying_on e)
        by_ground false e = absurd (false≢true (sym e ∙ rw e at h))

    -- and else is what was asked
    pub outcome_stops : accepted outcome.refusal ≡ false → outcome ≡ surveyed head pool directory recipe job
    unfolding chunk_outcome
    outcome_stops h = by_ground (accepted (chunk_ground head pool directory job f chunk)) refl
      where
        by_ground : (x : Bool) → accepted (chunk_ground head pool directory job f chunk) ≡ x
            → outcome ≡ surveyed head pool directory recipe job
        by_ground true e = absurd (true≢false (rw e at h))
        by_ground false e = rw e (surveying_stops e)
