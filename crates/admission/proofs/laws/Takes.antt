-- What a take does to the store as a list of chunks.
use Prim.Native.Nat.{ℕ, ◌+◌, ◌≤◌}
use mathlib.Core.Path.{◌≡◌, refl, sym, ◌∙◌}
use mathlib.Core.Bool.{true, false}
use mathlib.Core.List.{List}
use lib.ListN.{length}
use Rattle.refusal.specs.Number.{accepted}
use Rattle.chunker.specs.Bytes.{Bytes}
use Rattle.chunker.specs.Chunks.{chunks, total}
use Rattle.chunker.proofs.laws.ground.Soundness.{window_bounds}
use Rattle.directory.specs.Entry.{entries}
use Rattle.store.specs.declared.Head.{Head}
use Rattle.store.specs.Contents.{grown}
use Rattle.store.specs.Grounds.{fits}
use Rattle.store.specs.Memory.{contents}
use Rattle.store.proofs.laws.contents.Additions.{grown_added}
use Rattle.index.specs.Grounds.{meets}
use Rattle.storing.specs.Storing.{index_with}
use Rattle.storing.proofs.laws.Adding.{adding_lengths, adding_fits, adding_holds}
use Rattle.storing.proofs.laws.Indexing.{adding_index_length, adding_meets}
use Rattle.index.proofs.laws.Grounds.{length_fits}
use Rattle.admission.specs.Quote.{quoted}
use Rattle.admission.specs.Take.{Taking, new_of, stores, taken}
use Rattle.admission.proofs.laws.Chunks.{chunks_allowed, added_allowed}
use Rattle.admission.proofs.laws.Surveyed as surveyed
use Rattle.admission.proofs.laws.Surveyed.{begun}
use Rattle.admission.proofs.laws.Asked.{passed, whole}

-- a take that is not refused adds the job's chunks
pub record Added (head : Head) (pool directory index job : List ℕ) (t : Taking) : Type 0 where
  pub window : t.answer.head.window ≡ head.window
  pub fitting : fits t.answer.head t.pool t.directory ≡ true
  pub held : contents t.pool t.directory t.answer.head.chunks.0
      ≡ grown (contents pool directory head.chunks.0) (chunks head.window job)
  pub pool_length : length t.pool ≡ length pool
  pub directory_length : length t.directory ≡ length directory
  pub index_length : length t.index ≡ length index
  pub indexed : meets t.index (contents t.pool t.directory t.answer.head.chunks.0) ≡ true
  pub entered : t.index ≡ index_with head index (new_of head pool directory job)

-- a refused one leaves the store
pub record Untouched (head : Head) (pool directory index : List ℕ) (t : Taking) : Type 0 where
  pub same_head : t.answer.head ≡ head
  pub same_pool : t.pool ≡ pool
  pub same_directory : t.directory ≡ directory
  pub same_index : t.index ≡ index

module _ (head : Head) (pool directory index recipe job : List ℕ) where
  pub untouched : accepted (quoted head pool directory index recipe job).answer.refusal ≡ false
      → Untouched head pool directory index (taken head pool directory index recipe job)
  unfolding taken
  untouched h = rw h (record { same_head = refl; same_pool = refl; same_directory = refl; same_index = refl })

  module _ (h : accepted (quoted head pool directory index recipe job).answer.refusal ≡ true) where
    abbrev new : List (List ℕ)
    new = new_of head pool directory job

    -- the store with the new chunks
    pub stores_new : taken head pool directory index recipe job ≡ stores head pool directory index new (quoted head pool directory index recipe job)
    unfolding taken
    stores_new = rw h

    -- there is room for them
    pub bytes_room : head.filled.0 + total new ≤ length pool
    bytes_room =
        let b = begun (passed head pool directory index recipe job h) in
        let walks = whole head pool directory index recipe job h in
        rw (surveyed.all_passed head pool directory recipe job b walks) at (surveyed.bytes_room head pool directory recipe job b walks)

    pub entries_room : head.chunks.0 + length new ≤ entries directory
    entries_room =
        let b = begun (passed head pool directory index recipe job h) in
        let walks = whole head pool directory index recipe job h in
        rw (surveyed.all_passed head pool directory recipe job b walks) at (surveyed.entries_room head pool directory recipe job b walks)

    pub adds : Bytes job → Added head pool directory index job (taken head pool directory index recipe job)
    adds bytes =
        let p = passed head pool directory index recipe job h in
        let b = window_bounds head.window p.window in
        let held = contents pool directory head.chunks.0 in
        let cs = chunks head.window job in
        let allowed = added_allowed head.window held cs (chunks_allowed head.window b.0 b.1 job bytes) in
        let lengths = adding_lengths head pool directory new bytes_room entries_room in
        rw stores_new
        (record {
          window = refl;
          fitting = adding_fits head pool directory new p.fitting bytes_room entries_room allowed;
          held = adding_holds head pool directory new p.fitting bytes_room entries_room allowed ∙ sym (grown_added held cs);
          pool_length = lengths.0;
          directory_length = lengths.1;
          index_length = adding_index_length head index new;
          indexed = rw (adding_holds head pool directory new p.fitting bytes_room entries_room allowed)
              (adding_meets head pool directory index new p.indexed (length_fits directory index p.index_length) (begun p).directory_length entries_room);
          entered = refl;
        })
