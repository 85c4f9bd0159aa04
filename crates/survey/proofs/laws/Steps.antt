-- What one chunk of a survey comes to, by the tests in the order in which the code makes them.
use Prim.Native.Nat.{ℕ, ◌+◌, ◌≤◌, ◌<◌}
use mathlib.Core.Path.{◌≡◌}
use mathlib.Core.List.{List}
use lib.ListN.{length, set}
use borrow.Author.Tests.{le-leb, lt-leb, lt-ltb, le-ltb}
use Rattle.refusal.specs.declared.Refusal.TheVariants.{RecipeFull, DirectoryFull, PoolFull}
use Rattle.directory.specs.Entry.{entries}
use Rattle.store.specs.declared.Head.{Head}
use Rattle.marks.specs.Marks.{mark_of, repeat_code, first_code, own_chain, last_of}
use Rattle.survey.specs.declared.Progress.{Progress}
use Rattle.survey.specs.internal.Snapshot.{Snapshot, snapshot, Outcome, ends, with_repeated, with_new}
use Rattle.survey.specs.internal.Snapshot.{number_in, firsts_in, place_in, chunk_ground, after_chunk, chunk_outcome, heads_after}
use Rattle.std.specs.Prelude.{None, Some}

module _ (head : Head) (pool directory job : List ℕ) (f : Snapshot) (heads c : List ℕ) where
  -- what the survey comes to, with the heads that it keeps of its own
  abbrev pub Comes : Outcome → List ℕ → Type 0
  Comes o after = (o ≡ chunk_outcome head pool directory job f c) × (after ≡ heads_after head pool directory job f heads c)

  -- the counts, and a code at the next place
  abbrev marked : Progress → ℕ → Outcome
  marked p code = ends None (snapshot p (set f.recipe f.progress.recipe_length (mark_of code (length c))))

  pub recipe_full : length f.recipe ≤ f.progress.recipe_length → Comes (ends (Some RecipeFull) f) heads
  unfolding chunk_outcome chunk_ground heads_after
  recipe_full full = (rw (le-ltb _ _ full), rw (le-ltb _ _ full))

  module _ (room : f.progress.recipe_length < length f.recipe) where
    pub found : number_in head pool directory job c < head.chunks.0
        → Comes (marked (with_repeated f.progress (length c)) (number_in head pool directory job c)) heads
    unfolding chunk_outcome chunk_ground after_chunk heads_after
    found known = (rw (lt-ltb _ _ room, lt-ltb _ _ known), rw (lt-ltb _ _ room, lt-ltb _ _ known))

    module _ (lacks : head.chunks.0 ≤ number_in head pool directory job c) where
      pub repeats : place_in head pool directory job f c < f.progress.recipe_length
          → Comes (marked (with_repeated f.progress (length c)) (repeat_code (place_in head pool directory job f c))) heads
      unfolding chunk_outcome chunk_ground after_chunk heads_after
      repeats met = (rw (lt-ltb _ _ room, le-ltb _ _ lacks, lt-ltb _ _ met), rw (lt-ltb _ _ room, le-ltb _ _ lacks, lt-ltb _ _ met))

      module _ (new : f.progress.recipe_length ≤ place_in head pool directory job f c) where
        pub directory_full : entries directory ≤ f.progress.chunks.0 → Comes (ends (Some DirectoryFull) f) heads
        unfolding chunk_outcome chunk_ground heads_after
        directory_full full =
            (rw (lt-ltb _ _ room, le-ltb _ _ lacks, le-ltb _ _ new, le-ltb _ _ full), rw (lt-ltb _ _ room, le-ltb _ _ lacks, le-ltb _ _ new, le-ltb _ _ full))

        module _ (entry : f.progress.chunks.0 < entries directory) where
          pub pool_full : length pool < f.progress.filled.0 + length c → Comes (ends (Some PoolFull) f) heads
          unfolding chunk_outcome chunk_ground heads_after
          pool_full full =
              (rw (lt-ltb _ _ room, le-ltb _ _ lacks, le-ltb _ _ new, lt-ltb _ _ entry, lt-leb _ _ full), rw (lt-ltb _ _ room, le-ltb _ _ lacks, le-ltb _ _ new, lt-ltb _ _ entry, lt-leb _ _ full))

          pub appears : f.progress.filled.0 + length c ≤ length pool
              → Comes (marked (with_new f.progress (length c)) (first_code (last_of (own_chain c) (firsts_in head pool directory job f))))
              (set heads (own_chain c) f.progress.recipe_length)
          unfolding chunk_outcome chunk_ground after_chunk heads_after
          appears fitting =
              (rw (lt-ltb _ _ room, le-ltb _ _ lacks, le-ltb _ _ new, lt-ltb _ _ entry, le-leb _ _ fitting), rw (lt-ltb _ _ room, le-ltb _ _ lacks, le-ltb _ _ new, lt-ltb _ _ entry, le-leb _ _ fitting))
