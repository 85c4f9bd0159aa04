-- A job that has room is accepted, and one that is refused for want of room has none.
use Prim.Native.Nat.{ℕ, ◌+◌, ◌/◌, ◌≤◌, ◌<◌}
use native.Mathlib.Omega.{arith}
use native.Mathlib.Nat.{zero-add}
use mathlib.Core.Path.{◌≡◌, sym, ap, subst, ◌∙◌}
use mathlib.Core.Logic.{◌⊎◌, ⊎_elim}
use mathlib.Core.Bool.{true}
use mathlib.Core.List.{List}
use lib.ListN.{length}
use Rattle.refusal.specs.Number.{number_of, accepted}
use Rattle.refusal.specs.declared.Refusal.{Refusal}
use Rattle.refusal.specs.declared.Refusal.TheVariants.{RecipeFull, DirectoryFull, PoolFull}
use Rattle.chunker.specs.Bytes.{Bytes}
use Rattle.chunker.specs.Chunks.{chunks, total}
use Rattle.chunker.proofs.laws.ground.Soundness.{window_bounds}
use Rattle.directory.specs.Entry.{entries}
use Rattle.store.specs.declared.Head.{Head}
use Rattle.store.specs.Contents.{grown}
use Rattle.store.specs.Memory.{contents}
use Rattle.store.proofs.laws.Memory.{contents_length}
use Rattle.store.proofs.laws.grounds.Filled.{total_contents}
use Rattle.store.proofs.laws.contents.Additions.{length_grown, added_most, total_both}
use Rattle.survey.specs.Walk.{room_in, job_walk}
use Rattle.survey.proofs.laws.Room.{total_grown, fits_accepted, Lacks, walk_lacks}
use Rattle.admission.specs.Grounds.{admission_ground}
use Rattle.admission.specs.Quote.{quoted}
use Rattle.admission.specs.Take.{new_of, taken}
use Rattle.admission.proofs.laws.grounds.Passed.{all_passed}
use Rattle.admission.proofs.laws.Chunks.{total_chunks}
use Rattle.admission.proofs.laws.Refusals.{quote_refusal, chunk_refused}
use Rattle.admission.proofs.theorems.ChunkCount.{chunk_count}
use Rattle.admission.proofs.theorems.QuoteAndTake.{same_refusal}
use Rattle.std.specs.Prelude.{Option, Some}

-- a job is accepted by quote and take
pub record Accepts (head : Head) (pool directory index recipe job : List ℕ) : Type 0 where
  pub quotes : accepted (quoted head pool directory index recipe job).answer.refusal ≡ true
  pub takes : accepted (taken head pool directory index recipe job).answer.quoted.refusal ≡ true

module _ (head : Head) (pool directory index recipe job : List ℕ) where
  -- the chunks of the store and of the job
  abbrev held : List (List ℕ)
  held = contents pool directory head.chunks.0

  abbrev cs : List (List ℕ)
  cs = chunks head.window job

  -- "A job that has room is accepted": for each chunk that it may have, a place of the recipe and an unused entry, and for each
  -- byte an unused one of the pool
  pub has_room : Bytes job → accepted (admission_ground head pool directory index recipe job) ≡ true
      → let most = length job / (head.window + 1) + 1 in
      most ≤ length recipe
      → head.chunks.0 + most ≤ entries directory
      → head.filled.0 + length job ≤ length pool
      → Accepts head pool directory index recipe job
  has_room bytes none places numbers room =
      let p = all_passed head pool directory index recipe job none in
      let w = window_bounds head.window p.window in
      let few = chunk_count head.window w.0 w.1 job bytes in
      let count = contents_length pool directory 0 head.chunks.0 in
      let full = total_contents head pool directory p.fitting in
      let walks = fits_accepted (room_in pool directory recipe) 0 held cs
      (record {
        places = omega (arith, few, places);
        entries = omega (arith, length_grown held cs, added_most held cs, few, count, numbers);
        bytes = omega (arith, total_grown held cs, total_both held cs, total_chunks head.window job, full, room);
      }) in
      let quotes = ap accepted (quote_refusal head pool directory index recipe job none) ∙ walks in
      record { quotes = quotes; takes = ap accepted (same_refusal head pool directory index recipe job) ∙ quotes }

  -- a quote or a take of the job reports a ground
  abbrev pub Reports : Option Refusal → Type 0
  Reports ground =
      ((quoted head pool directory index recipe job).answer.refusal ≡ ground)
      ⊎ ((taken head pool directory index recipe job).answer.quoted.refusal ≡ ground)

  -- one of 6 to 8 is reported where no earlier ground holds and the walk ends with it
  reported : (ground : Option Refusal) → 6 ≤ number_of ground → number_of ground ≤ 8 → Reports ground
      → (accepted (admission_ground head pool directory index recipe job) ≡ true)
      × ((job_walk head pool directory recipe job).refusal ≡ ground)
  reported ground late soon =
      ⊎_elim (chunk_refused head pool directory index recipe job ground late soon)
      (λ e. chunk_refused head pool directory index recipe job ground late soon (sym (same_refusal head pool directory index recipe job) ∙ e))

  -- what a job lacks of which a chunk is refused
  lacks : (ground : Option Refusal) → (job_walk head pool directory recipe job).refusal ≡ ground
      → Lacks (room_in pool directory recipe) (length cs) (grown held cs) ground
  lacks ground e =
      let room = room_in pool directory recipe in
      subst (λ r. Lacks room (length cs) (grown held cs) r) e
      (subst (λ n. Lacks room n (grown held cs) (job_walk head pool directory recipe job).refusal) (zero-add (length cs))
      (walk_lacks room 0 held cs))

  -- "At this piece, the recipe is full": the job has more chunks than the recipe has places
  pub full_recipe : Reports (Some RecipeFull) → length recipe < length (chunks head.window job)
  full_recipe r = lacks (Some RecipeFull) (reported (Some RecipeFull) (omega arith) (omega arith) r).1

  -- "This piece is new and the directory has no unused entry": store and job have more chunks than the directory has entries
  pub full_directory : Reports (Some DirectoryFull) → entries directory < head.chunks.0 + length (new_of head pool directory job)
  full_directory r =
      let none = reported (Some DirectoryFull) (omega arith) (omega arith) r in
      let more : entries directory < length (grown held cs) = lacks (Some DirectoryFull) none.1 in
      omega (arith, more, length_grown held cs, contents_length pool directory 0 head.chunks.0)

  -- "This piece is new and longer than the pool bytes after filled": store and new chunks have more bytes than the pool
  pub full_pool : Reports (Some PoolFull) → length pool < head.filled.0 + total (new_of head pool directory job)
  full_pool r =
      let none = reported (Some PoolFull) (omega arith) (omega arith) r in
      let p = all_passed head pool directory index recipe job none.0 in
      let more : length pool < total (grown held cs) = lacks (Some PoolFull) none.1 in
      omega (arith, more, total_grown held cs, total_contents head pool directory p.fitting)
