-- What a survey of a job leaves: marks that come to the numbers of the chunks which it passed, and, where it refused none, say
-- which chunks are new.
use Prim.Native.Nat.{ℕ, ◌+◌, ◌^◌, ◌≤◌, ◌<◌}
use native.Mathlib.Omega.{arith}
use mathlib.Core.Path.{◌≡◌, sym, ap, ap₂, ◌∙◌}
use mathlib.Core.Bool.{true, and-eq-true_iff}
use mathlib.Core.List.{List, [], ◌++◌, append-nil}
use lib.ListN.{length, take, drop}
use lib.Seq.{take_at, drop_at, take-length, length-take-le}
use borrow.Author.Tests.{leb-true}
use Rattle.refusal.specs.Number.{accepted}
use Rattle.chunker.specs.Bytes.{Bytes}
use Rattle.chunker.specs.Chunks.{chunks, total}
use Rattle.directory.specs.Entry.{entries}
use Rattle.store.specs.declared.Head.{Head}
use Rattle.store.specs.Contents.{grown, added, numbers}
use Rattle.store.specs.Grounds.{memory_allowed, recipe_allowed}
use Rattle.store.specs.Memory.{contents}
use Rattle.store.proofs.laws.Memory.{contents_length}
use Rattle.store.proofs.laws.grounds.Fitting.{fits_facts}
use Rattle.store.proofs.laws.grounds.Filled.{total_contents}
use Rattle.store.proofs.laws.contents.Additions.{grown_added, length_grown, length_numbers, total_append}
use Rattle.marks.specs.Marks.{marks, new_chunks, settled}
use Rattle.marks.specs.internal.Places.{NamesEarlier}
use Rattle.marks.proofs.laws.Marking.{length_marks, Places}
use Rattle.marks.proofs.laws.Positions.{total_within}
use Rattle.marks.proofs.laws.Appearing.{names_earlier_lem, sizes_marks}
use Rattle.marks.proofs.laws.Settling.{names_first}
use Rattle.marks.proofs.laws.Numbering.{settled_marks}
use Rattle.marks.proofs.laws.Storing.{new_chunks_lem}
use Rattle.storing.specs.internal.Storable.{Storable}
use Rattle.survey.specs.Walk.{Walk, room_in, job_walk, noted}
use Rattle.survey.specs.internal.Begun.{Begun}
use Rattle.survey.specs.internal.Surveyed.{survey_after}
use Rattle.survey.proofs.laws.Walking.{Fits, walk_fits, Prefix, walk_prefix}
use Rattle.survey.proofs.laws.chunks.OneChunk.{noted_length}
use Rattle.index.proofs.laws.Grounds.{length_fits}
use Rattle.admission.specs.Grounds.{job_allowed}
use Rattle.admission.proofs.laws.grounds.Passed.{Passed}

-- where none of the grounds 1, 3 to 5, 11 and 12 holds, a job may be surveyed
pub begun : {head : Head} {pool directory index recipe job : List ℕ} → Passed head pool directory index recipe job
    → Begun head pool directory index recipe job
unfolding job_allowed memory_allowed recipe_allowed
begun p =
    let jobs = simp and-eq-true_iff at p.job_length in
    let stores = simp and-eq-true_iff at p.store_memory in
    let recipes = p.recipe_memory in
    record {
      window = p.window;
      fitting = p.fitting;
      pool_length = omega (arith, leb-true);
      directory_length = omega (arith, leb-true);
      index_length = p.index_length;
      indexed = p.indexed;
      recipe_length = omega (arith, leb-true);
      job_length = omega (arith, leb-true);
    }

module _ (head : Head) (pool directory recipe job : List ℕ) {index : List ℕ}
    (b : Begun head pool directory index recipe job) where
  -- the chunks of the store, and the walk over the job's
  abbrev pub held : List (List ℕ)
  held = contents pool directory head.chunks.0

  abbrev pub whole : Walk
  whole = job_walk head pool directory recipe job

  -- as many chunks as the head says
  counted : length held ≡ head.chunks.0
  counted = contents_length pool directory 0 head.chunks.0

  -- there is room for what it passes
  pub room : Fits (room_in pool directory recipe) 0 held whole.passed
  room =
      let facts = fits_facts head pool directory b.fitting in
      walk_fits (room_in pool directory recipe) 0 held (chunks head.window job) (omega arith)
      (omega (arith, counted, facts.counted)) (omega (arith, total_contents head pool directory b.fitting, facts.in_pool))

  -- the chunks that it passes, and those after them
  up_to : Prefix (chunks head.window job) whole
  up_to = walk_prefix (room_in pool directory recipe) 0 held (chunks head.window job)

  -- the recipe with their marks
  abbrev pub marked : List ℕ
  marked = (survey_after head pool directory recipe whole.passed).recipe

  mark_count : length (marks held [] whole.passed) ≡ length whole.passed
  mark_count = length_marks held [] whole.passed

  pub marked_length : length marked ≡ length recipe
  marked_length = noted_length recipe (marks held [] whole.passed) (omega (arith, mark_count, room.places))

  -- the marks may be settled
  pub used_places_lem : length whole.passed ≤ length marked
  used_places_lem = omega (arith, marked_length, room.places)

  used_length : length (take (length whole.passed) marked) ≡ length whole.passed
  used_length = length-take-le (length whole.passed) marked used_places_lem

  pub few_numbers : head.chunks.0 + length (take (length whole.passed) marked) < 2 ^ 32
  few_numbers =
      omega (arith, used_length, room.places, b.recipe_length, (fits_facts head pool directory b.fitting).counted, b.directory_length)

  -- where it refuses none, there is room for the new chunks
  module _ (accepts : accepted whole.refusal ≡ true) where
    pub all_passed : whole.passed ≡ chunks head.window job
    all_passed = up_to.all accepts

    pub bytes_room : head.filled.0 + total (added held whole.passed) ≤ length pool
    bytes_room =
        let full = total_contents head pool directory b.fitting in
        let sum = total_append held (added held whole.passed) in
        omega (arith, room.bytes, ap total (grown_added held whole.passed), full, sum)

    pub entries_room : head.chunks.0 + length (added held whole.passed) ≤ entries directory
    entries_room = omega (arith, room.entries, length_grown held whole.passed, counted)

  -- the marks of a job of bytes
  module _ (bytes : Bytes job) where
    places : Places head.window job held [] whole.passed up_to.rest
    places =
        record {
          allowed = b.window;
          bytes = bytes;
          long = b.job_length;
          few = omega (arith, counted, (fits_facts head pool directory b.fitting).counted, b.directory_length);
          short = omega (arith, room.places, b.recipe_length);
          whole = up_to.whole;
        }

    -- may be settled
    pub earlier_named : NamesEarlier (take (length whole.passed) marked) (length (take (length whole.passed) marked))
    earlier_named = names_first used_places_lem (names_earlier_lem head.window job held whole.passed up_to.rest places _)

    -- and come to the numbers
    pub settled_recipe_lem : settled head.chunks.0 [] (take (length whole.passed) marked) ++ drop (length whole.passed) marked
        ≡ noted recipe (numbers held whole.passed)
    unfolding grown numbers
    settled_recipe_lem =
        let ms = marks held [] whole.passed in
        let ns = numbers held whole.passed in
        let n = length whole.passed in
        let first = take_at ms (drop (length ms) recipe) n mark_count in
        let rest = drop_at ms (drop (length ms) recipe) n mark_count in
        let same : length ms ≡ length ns = mark_count ∙ sym (length_numbers held whole.passed) in
        let told = settled_marks head.window job held [] whole.passed up_to.rest places in
        ap₂ ◌++◌ (ap (settled head.chunks.0 []) first ∙ ap (λ k. settled k [] ms) (sym counted) ∙ told)
        (rest ∙ ap (λ k. drop k recipe) same)

    -- where it refuses none, the new chunks may be stored
    module _ (accepts : accepted whole.refusal ≡ true) where
      all_places : Places head.window job held [] whole.passed []
      all_places =
          record {
            allowed = b.window;
            bytes = bytes;
            long = b.job_length;
            few = places.few;
            short = places.short;
            whole = sym (all_passed accepts) ∙ sym (append-nil whole.passed);
          }

      pub new_marked : new_chunks job 0 (take (length whole.passed) marked) ≡ added held whole.passed
      unfolding grown
      new_marked =
          let ms = marks held [] whole.passed in
          ap (new_chunks job 0) (take_at ms (drop (length ms) recipe) (length whole.passed) mark_count)
          ∙ new_chunks_lem head.window job held [] whole.passed [] all_places

      pub storable : Storable head pool directory index (take (length whole.passed) marked) (length (take (length whole.passed) marked)) job
      storable =
          let ms = marks held [] whole.passed in
          let marked_first = take_at ms (drop (length ms) recipe) (length whole.passed) mark_count in
          let sized = sizes_marks [] whole.passed [] all_places in
          record {
            pool_length = b.pool_length;
            directory_length = b.directory_length;
            index_length = omega (arith, length_fits directory index b.index_length);
            recipe_length = omega (arith, used_length, room.places, b.recipe_length);
            job_length = b.job_length;
            used_places = omega arith;
            inside = rw (take-length, marked_first, sized) (total_within head.window b.window whole.passed job [] all_places.whole);
            bytes = rw (take-length, new_marked) (bytes_room accepts);
            entries = rw (take-length, new_marked) (omega (arith, entries_room accepts));
          }
