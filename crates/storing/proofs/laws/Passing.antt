-- The pass that stores the new chunks of a job, under way: what is still to do gives what was asked at the start.
use Prim.Native.Nat.{ℕ, suc, ◌+◌, ◌*◌, ◌-◌, ◌≤◌, ◌<◌}
use native.Mathlib.Omega.{arith}
use native.Mathlib.Nat.{sub-zero}
use native.Mathlib.Numerals.{add-one}
use mathlib.Core.Path.{◌≡◌, refl, sym, ap, ◌∙◌}
use mathlib.Core.Bool.{cond}
use mathlib.Core.List.{List, [], ◌∷◌}
use lib.Dec.{ltb}
use lib.ListN.{length, get_or, set, take, drop, length-set, length-take, length-drop}
use lib.Seq.{drop-cons}
use borrow.Author.Tests.{lt-ltb, le-ltb}
use Rattle.gear.specs.Gear.{chains, chain}
use Rattle.chunker.specs.Chunks.{total}
use Rattle.directory.specs.Entry.{stride, entries, entered}
use Rattle.copying.specs.Written.{written}
use Rattle.copying.proofs.laws.Written.{written_length}
use Rattle.store.specs.declared.Head.{Head}
use Rattle.index.specs.Index.{head_at, enter}
use Rattle.index.proofs.laws.Entering.{entered_at, length_enter}
use Rattle.marks.specs.Marks.{first_base, code_of, size_of, sizes, new_chunks}
use Rattle.marks.proofs.laws.Sizes.{sizes_more, sizes_fewer}
use Rattle.storing.specs.Storing.{stored}
use Rattle.storing.specs.internal.Storable.{Storable}
use Rattle.storing.proofs.laws.Writing.{head_after, pool_after, directory_after, index_after}
use Rattle.storing.proofs.laws.Steps.{pool_none, directory_none, index_none, pool_step, directory_step, index_step}

-- a head with this many chunks and bytes; no part of what is stored depends on the window
abbrev pub head_of : ℕ → ℕ → Head
head_of number filled = record { window = 0; chunks = record { 0 = number }; filled = record { 0 = filled } }

-- the new chunks of the places from this one on, whose chunk starts at `end`
abbrev pub left : List ℕ → List ℕ → ℕ → ℕ → ℕ → List (List ℕ)
left job recipe used end place = new_chunks job end (take (used - place) (drop place recipe))

-- storing no chunk
stored_none : (head : Head) (pool directory index : List ℕ)
    → record { pool = pool; directory = directory; index = index } ≡ stored head pool directory index []
unfolding stored
stored_none head pool directory index = rw (pool_none head pool, directory_none head directory, index_none head index)

-- what is stored is the same for any window
stored_window : (head : Head) (pool directory index : List ℕ) (new : List (List ℕ))
    → stored (head_of head.chunks.0 head.filled.0) pool directory index new ≡ stored head pool directory index new
unfolding stored
stored_window head pool directory index new = refl

-- storing one chunk, then others
stored_step : (head : Head) (pool directory index c : List ℕ) (cs : List (List ℕ))
    → head.filled.0 + length c ≤ length pool → head.chunks.0 * stride + 1 < length directory
    → stored (head_after head (length c)) (pool_after head pool c) (directory_after head directory c)
    (index_after head index c) cs
    ≡ stored head pool directory index (c ∷ cs)
unfolding stored
stored_step head pool directory index c cs bytes numbers =
    rw (pool_step head pool c cs bytes, directory_step head directory c cs numbers, index_step head index c cs)

-- no mark is left
new_none : (job : List ℕ) (at : ℕ) → new_chunks job at [] ≡ []
unfolding new_chunks
new_none job at = refl

-- the next of marks in a row
new_next : (job : List ℕ) (at m : ℕ) (ms : List ℕ) → new_chunks job at (m ∷ ms)
    ≡ cond (ltb (code_of m) first_base) (new_chunks job (at + size_of m) ms)
    (take (size_of m) (drop at job) ∷ new_chunks job (at + size_of m) ms)
unfolding new_chunks
new_next job at m ms = refl

-- no mark is passed
sizes_none : (recipe : List ℕ) → 0 ≡ sizes (take 0 recipe)
unfolding sizes
sizes_none recipe = refl

-- what is still to do at a place gives what was asked at the start
pub record Passing (pool₀ directory₀ index₀ recipe : List ℕ) (used : ℕ) (job : List ℕ) (number₀ filled₀ : ℕ)
    (pool directory index : List ℕ) (number filled end place : ℕ) : Type 0 where
  pub pool_kept : length pool ≡ length pool₀
  pub directory_kept : length directory ≡ length directory₀
  pub index_kept : length index ≡ length index₀
  pub indexed : chains + entries directory ≤ length index
  pub places : used ≤ length recipe
  pub inside : sizes (take used recipe) ≤ length job
  pub starts : end ≡ sizes (take place recipe)
  pub bytes : filled + total (left job recipe used end place) ≤ length pool
  pub numbers : (number + length (left job recipe used end place)) * stride ≤ length directory
  pub gives : stored (head_of number filled) pool directory index (left job recipe used end place)
      ≡ stored (head_of number₀ filled₀) pool₀ directory₀ index₀ (new_chunks job 0 (take used recipe))

-- nothing is done yet
pub passing_none : (head : Head) (pool directory index recipe : List ℕ) (used : ℕ) (job : List ℕ)
    → Storable head pool directory index recipe used job
    → Passing pool directory index recipe used job head.chunks.0 head.filled.0 pool directory index head.chunks.0
    head.filled.0 0 0
passing_none head pool directory index recipe used job s =
    record {
      pool_kept = refl;
      directory_kept = refl;
      index_kept = refl;
      indexed = s.index_length;
      places = s.used_places;
      inside = s.inside;
      starts = sizes_none recipe;
      bytes = rw sub-zero s.bytes;
      numbers = rw sub-zero s.entries;
      gives = rw sub-zero;
    }

-- all places are done
pub passing_all : (head : Head) {pool₀ directory₀ index₀ recipe : List ℕ} {used : ℕ} {job pool directory index : List ℕ}
    {number filled end place : ℕ}
    → Passing pool₀ directory₀ index₀ recipe used job head.chunks.0 head.filled.0 pool directory index number filled end place
    → used ≤ place → record { pool = pool; directory = directory; index = index }
    ≡ stored head pool₀ directory₀ index₀ (new_chunks job 0 (take used recipe))
passing_all head {used} {job} {pool} {directory} {index} {number} {filled} {end} {place} s h =
    let none : used - place ≡ 0 = omega arith in
    stored_none (head_of number filled) pool directory index ∙ rw (none, new_none job end) at s.gives
    ∙ stored_window head _ _ _ _

module _ {pool₀ directory₀ index₀ recipe : List ℕ} {used : ℕ} {job : List ℕ} {number₀ filled₀ : ℕ}
    {pool directory index : List ℕ} {number filled end place : ℕ}
    (s : Passing pool₀ directory₀ index₀ recipe used job number₀ filled₀ pool directory index number filled end place)
    (more : place < used) (size : ℕ) (sized : size ≡ size_of (get_or recipe place 0)) where
  -- where the next chunk starts
  starts_next : end + size ≡ sizes (take (place + 1) recipe)
  starts_next = rw (s.starts, sized) (sym (sizes_more recipe place (omega (arith, s.places))))

  -- the place's chunk lies in the job
  pub ends_inside : end + size ≤ length job
  ends_inside = omega (arith, starts_next, sizes_fewer recipe (place + 1) used (omega arith), s.inside)

  -- so it has as many bytes as its mark says
  pub part_length : length (take size (drop end job)) ≡ size
  part_length = simp (length-take, length-drop) (omega (arith, ends_inside))

  -- the new chunks of the place and of those after it
  left_step : left job recipe used end place
      ≡ cond (ltb (code_of (get_or recipe place 0)) first_base) (left job recipe used (end + size) (place + 1))
      (take size (drop end job) ∷ left job recipe used (end + size) (place + 1))
  left_step =
      let count : used - place ≡ suc (used - suc place) = omega arith in
      rw (count, drop-cons recipe place 0 (omega (arith, s.places)), add-one place, sized)
      (new_next job end (get_or recipe place 0) (take (used - suc place) (drop (suc place) recipe)))

  -- a place that tells no first appearance is passed
  pub passing_other : code_of (get_or recipe place 0) < first_base
      → Passing pool₀ directory₀ index₀ recipe used job number₀ filled₀ pool directory index number filled (end + size)
      (place + 1)
  passing_other h =
      let same : left job recipe used end place ≡ left job recipe used (end + size) (place + 1) =
      rw (lt-ltb (code_of (get_or recipe place 0)) first_base h) at left_step in
      record {
        pool_kept = s.pool_kept;
        directory_kept = s.directory_kept;
        index_kept = s.index_kept;
        indexed = s.indexed;
        places = s.places;
        inside = s.inside;
        starts = starts_next;
        bytes = rw same at s.bytes;
        numbers = rw same at s.numbers;
        gives = rw same at s.gives;
      }

  module _ (h : first_base ≤ code_of (get_or recipe place 0)) where
    -- the new chunks begin with that of the place
    left_first : left job recipe used end place
        ≡ take size (drop end job) ∷ left job recipe used (end + size) (place + 1)
    left_first = rw (le-ltb (code_of (get_or recipe place 0)) first_base h) at left_step

    -- there is room for its bytes
    pub room_bytes : filled + size ≤ length pool
    room_bytes = omega (arith, rw left_first at s.bytes, part_length)

    -- for its entry
    pub room_entry : number * stride + 1 < length directory
    room_entry = omega (arith, rw left_first at s.numbers)

    -- and for its link
    pub room_link : chains + number < length index
    room_link = omega (arith, room_entry, s.indexed)

    -- it is stored
    pub passing_new : (pool' directory' index' c : List ℕ) (own count : ℕ) → c ≡ take size (drop end job)
        → own ≡ chain c → count ≡ size → pool' ≡ written pool filled c
        → directory' ≡ entered directory number filled count
        → index' ≡ set (set index (chains + number) (head_at index own)) own number
        → Passing pool₀ directory₀ index₀ recipe used job number₀ filled₀ pool' directory' index' (number + 1)
        (filled + count) (end + size) (place + 1)
    passing_new pool' directory' index' c own count e o k p d i =
        let first = left_first ∙ ap (λ x. x ∷ left job recipe used (end + size) (place + 1)) (sym e) in
        let long : count ≡ length c = k ∙ sym part_length ∙ ap length (sym e) in
        let room : filled + length c ≤ length pool = omega (arith, room_bytes) in
        let front : index' ≡ enter index number c = i ∙ entered_at index number own c o in
        let bytes : length pool' ≡ length pool = ap length p ∙ written_length pool filled c room in
        let numbers : length directory' ≡ length directory = ap length d ∙ simp length-set in
        let links : length index' ≡ length index = ap length front ∙ length_enter index number c in
        record {
          pool_kept = bytes ∙ s.pool_kept;
          directory_kept = numbers ∙ s.directory_kept;
          index_kept = links ∙ s.index_kept;
          indexed = rw (numbers, links) s.indexed;
          places = s.places;
          inside = s.inside;
          starts = starts_next;
          bytes = omega (arith, rw first at s.bytes);
          numbers = omega (arith, rw first at s.numbers);
          gives = rw (p, d, front, long)
              (stored_step (head_of number filled) pool directory index c
              (left job recipe used (end + size) (place + 1)) room room_entry ∙ rw first at s.gives);
        }
