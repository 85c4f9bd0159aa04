-- One chunk of a survey, by the marks of the chunks before it, is one chunk of the walk.
use Prim.Native.Nat.{ℕ, suc, ◌+◌, ◌≤◌, ◌<◌}
use native.Mathlib.Omega.{arith}
use native.Mathlib.Nat.{add-zero, add_assoc}
use native.Mathlib.Numerals.{add-one}
use mathlib.Core.Path.{◌≡◌, refl, sym, ap, ap₂, ◌∙◌}
use mathlib.Core.Bool.{Bool, true, false, cond, not, ◌||◌}
use mathlib.Core.List.{List, [], ◌∷◌, ◌++◌, append_assoc, append-nil}
use lib.Dec.{ltb}
use lib.ListN.{length, drop, set, length-append, length-drop}
use lib.Seq.{take_at, drop-drop, drop-append-add, set_split}
use borrow.Author.Tests.{lt-ltb, le-ltb}
use Rattle.chunker.specs.Bytes.{Bytes}
use Rattle.chunker.specs.Chunks.{chunks, total}
use Rattle.store.specs.declared.Head.{Head}
use Rattle.store.specs.Contents.{number, has, grown, added, repeated}
use Rattle.store.specs.Memory.{contents}
use Rattle.store.proofs.laws.Memory.{contents_length}
use Rattle.store.proofs.laws.grounds.Fitting.{fits_facts}
use Rattle.store.proofs.laws.grounds.Filled.{total_contents}
use Rattle.store.proofs.laws.contents.Numbering.{number_below, number_next}
use Rattle.store.proofs.laws.contents.Growth.{has_grown}
use Rattle.store.proofs.laws.contents.Additions.{added_append, repeated_append, grown_added, length_grown, total_append}
use Rattle.marks.specs.Marks.{mark_of, repeat_code, first_code, own_chain, own_chains, last_of, mark, marks}
use Rattle.marks.specs.Marks as marks
use Rattle.marks.specs.internal.Places.{Heads}
use Rattle.marks.proofs.laws.Marking.{length_marks, marks_last, Places, next_start}
use Rattle.marks.proofs.laws.Appearing.{number_firsts, recipe_firsts}
use Rattle.marks.proofs.laws.Keeping.{heads_known, heads_new}
use Rattle.survey.specs.Walk as walk
use Rattle.survey.specs.Walk.{room_in, noted}
use Rattle.survey.specs.internal.Snapshot.{Snapshot, snapshot, with_repeated, with_new, firsts_in, place_in, stored, met}
use Rattle.survey.specs.internal.Snapshot.{chunk_ground, code_in, after_chunk, heads_after}
use Rattle.refusal.specs.Number.{accepted}
use Rattle.survey.specs.internal.Surveyed.{progress_with, progress_after, survey_after}
use Rattle.survey.specs.internal.Begun.{Begun}

-- a chunk is among chunks where its number is below their count
known_below : (held : List (List ℕ)) (c : List ℕ) → ltb (number held c) (length held) ≡ has held c
known_below held c = by_test (has held c) refl
  where
    by_test : (t : Bool) → has held c ≡ t → ltb (number held c) (length held) ≡ t
    by_test true h = lt-ltb _ _ (number_below held c h)
    by_test false h = le-ltb (number held c) (length held) (omega (arith, number_next held c h))

-- one number more at the recipe's first places
noted_more : (recipe ns : List ℕ) (m : ℕ) → length ns < length recipe
    → set (noted recipe ns) (length ns) m ≡ noted recipe (ns ++ (m ∷ []))
noted_more recipe ns m l =
    let rest = drop (length ns) recipe in
    let inside : length ns < length (ns ++ rest) = omega (arith, length-append ns rest, length-drop (length ns) recipe) in
    let after : drop (suc (length ns)) (ns ++ rest) ≡ drop (length (ns ++ (m ∷ []))) recipe =
    rw (← (add-one (length ns)), length-append ns (m ∷ []))
    (drop-append-add ns rest 1 ∙ drop-drop 1 (length ns) recipe) in
    set_split (ns ++ rest) (length ns) m inside ∙ ap₂ (λ (xs ys : List ℕ). xs ++ (m ∷ ys)) (take_at ns rest (length ns) refl) after
    ∙ sym (append_assoc ns (m ∷ []) (drop (length (ns ++ (m ∷ []))) recipe))

-- at the place after so many
noted_at : (recipe ns : List ℕ) (m n : ℕ) → length ns ≡ n → n < length recipe
    → set (noted recipe ns) n m ≡ noted recipe (ns ++ (m ∷ []))
noted_at recipe ns m n e l = ap (λ k. set (noted recipe ns) k m) (sym e) ∙ noted_more recipe ns m (omega arith)

-- places beyond stay as they are
pub noted_length : (recipe ns : List ℕ) → length ns ≤ length recipe → length (noted recipe ns) ≡ length recipe
noted_length recipe ns l =
    omega (arith, length-append ns (drop (length ns) recipe), length-drop (length ns) recipe)

module _ (head : Head) (pool directory recipe job : List ℕ) {index : List ℕ}
    (b : Begun head pool directory index recipe job) where
  -- the chunks of the store
  abbrev held : List (List ℕ)
  held = contents pool directory head.chunks.0

  -- the survey after some of the job's chunks
  abbrev after : List (List ℕ) → Snapshot
  after ds = survey_after head pool directory recipe ds

  -- as many chunks as the head says
  pub counted : length held ≡ head.chunks.0
  counted = contents_length pool directory 0 head.chunks.0

  -- they fill the pool up to where the head says
  pub full : (ds : List (List ℕ)) → total (grown held ds) ≡ head.filled.0 + total (added held ds)
  full ds =
      rw (grown_added held ds)
      (omega (arith, total_append held (added held ds), total_contents head pool directory b.fitting))

  -- what is counted with one chunk more
  progress_more : (ds : List (List ℕ)) (c : List ℕ)
      → cond (has (grown held ds) c) (with_repeated (progress_after head held ds) (length c)) (with_new (progress_after head held ds) (length c))
      ≡ progress_after head held (ds ++ (c ∷ []))
  unfolding added repeated
  progress_more ds c =
      let news = added_append (c ∷ []) held ds in
      let others = repeated_append (c ∷ []) held ds in
      rw (news, others) (by_test (has (grown held ds) c))
    where
      by_test : (t : Bool)
          → cond t (with_repeated (progress_after head held ds) (length c)) (with_new (progress_after head held ds) (length c))
          ≡ progress_with head (length (ds ++ (c ∷ []))) (added held ds ++ cond t [] (c ∷ [])) (repeated held ds ++ cond t (c ∷ []) [])
      by_test true =
          rw (append-nil (added held ds), length-append ds (c ∷ []), total_append (repeated held ds) (c ∷ []), add-zero (length c))
      by_test false =
          rw (
            append-nil (repeated held ds),
            length-append ds (c ∷ []),
            length-append (added held ds) (c ∷ []),
            total_append (added held ds) (c ∷ []),
            add-zero (length c),
            add_assoc head.chunks.0 (length (added held ds)) 1,
            add_assoc head.filled.0 (total (added held ds)) (length c),
          )

  module _ (bytes : Bytes job) (ds : List (List ℕ)) (c : List ℕ) (cs : List (List ℕ))
      (whole : chunks head.window job ≡ ds ++ (c ∷ cs)) (used : length ds ≤ length recipe) where
    -- what marks say of these chunks
    pub places : Places head.window job held [] ds (c ∷ cs)
    places =
        record {
          allowed = b.window;
          bytes = bytes;
          long = b.job_length;
          few = omega (arith, counted, (fits_facts head pool directory b.fitting).counted, b.directory_length);
          short = omega (arith, used, b.recipe_length);
          whole = whole;
        }

    -- it is not empty
    some : 1 ≤ length c
    some = (next_start places).some

    -- what the recipe's first places say
    firsts_in_lem : firsts_in head pool directory job (after ds) ≡ marks.appearing held [] ds
    firsts_in_lem = recipe_firsts head.window job held ds (c ∷ cs) places (drop (length (marks held [] ds)) recipe)

    -- the place of a chunk that the store lacks
    place_in_lem : has held c ≡ false → place_in head pool directory job (after ds) c ≡ number ds c
    unfolding has
    place_in_lem new =
        let first_places = take_at (marks held [] ds) (drop (length (marks held [] ds)) recipe) (length ds) (length_marks held [] ds) in
        rw first_places (number_firsts head.window job held c some new [] ds (c ∷ cs) places refl)

    -- the store holds the chunk, or an earlier place of the job has it
    stored_has : stored head pool directory job c ≡ has held c
    stored_has = ap (λ n. ltb (number held c) n) (sym counted) ∙ known_below held c

    met_has : has held c ≡ false → met head pool directory job (after ds) c ≡ has ds c
    met_has new = rw (place_in_lem new) (known_below ds c)

    known : (stored head pool directory job c || met head pool directory job (after ds) c) ≡ has (grown held ds) c
    known = rw (stored_has, has_grown held ds c) (by_test (has held c) refl)
      where
        by_test : (t : Bool) → has held c ≡ t → (t || met head pool directory job (after ds) c) ≡ (t || has ds c)
        by_test true h = refl
        by_test false h = met_has h

    -- so the code is the chunk's
    code_in_lem : code_in head pool directory job (after ds) c ≡ marks.code_in held ds c
    unfolding marks.code_in
    code_in_lem = rw stored_has (by_test (has held c) refl)
      where
        by_test : (t : Bool) → has held c ≡ t
            → cond t (number held c)
            (cond (met head pool directory job (after ds) c) (repeat_code (place_in head pool directory job (after ds) c)) (first_code (last_of (own_chain c) (firsts_in head pool directory job (after ds)))))
            ≡ cond t (number held c) (cond (has ds c) (repeat_code (number ds c)) (first_code (last_of (own_chain c) (marks.appearing held [] ds))))
        by_test true h = refl
        by_test false h = rw (met_has h, place_in_lem h, firsts_in_lem)

    -- the grounds are those of the walk
    pub ground_in : chunk_ground head pool directory job (after ds) c
        ≡ walk.chunk_ground (room_in pool directory recipe) (length ds) (grown held ds) c
    unfolding chunk_ground walk.chunk_ground
    ground_in =
        let long : length (noted recipe (marks held [] ds)) ≡ length recipe = noted_length recipe (marks held [] ds) (rw (length_marks held [] ds) used) in
        rw (known, long, length_grown held ds, counted, full ds)

    -- what the chunk leaves is the survey after it
    pub after_in : length ds < length recipe → after_chunk head pool directory job (after ds) c ≡ after (ds ++ (c ∷ []))
    unfolding after_chunk
    after_in room =
        let before = progress_after head held ds in
        let again = stored head pool directory job c || met head pool directory job (after ds) c in
        let counts : cond again (with_repeated before (length c)) (with_new before (length c)) ≡ progress_after head held (ds ++ (c ∷ [])) =
        rw known (progress_more ds c) in
        let places = noted_at recipe (marks held [] ds) (mark held ds c) (length ds) (length_marks held [] ds) room in
        ap₂ snapshot counts (rw (code_in_lem, marks_last held [] ds c) places)

    -- and its own heads go by it
    pub heads_in : (heads : List ℕ) → length heads ≡ own_chains → accepted (chunk_ground head pool directory job (after ds) c) ≡ true
        → Heads job (after ds).recipe heads (length ds)
        → Heads job (after (ds ++ (c ∷ []))).recipe (heads_after head pool directory job (after ds) heads c) (length (ds ++ (c ∷ [])))
    unfolding heads_after
    heads_in heads long accepts h =
        rw (accepts, known, has_grown held ds c) (by_test (has held c || has ds c) refl)
      where
        rest : List (List ℕ) → List ℕ
        rest es = drop (length (marks held [] es)) recipe

        by_test : (t : Bool) → (has held c || has ds c) ≡ t
            → Heads job (after (ds ++ (c ∷ []))).recipe (cond (not t) (set heads (own_chain c) (length ds)) heads) (length (ds ++ (c ∷ [])))
        by_test true e = heads_known head.window job held ds c cs places (rest ds) (rest (ds ++ (c ∷ []))) heads h e
        by_test false e = heads_new head.window job held ds c cs places (rest ds) (rest (ds ++ (c ∷ []))) heads h long e
