-- The recipe of each job that is taken gives the job back at every later place of a list of events.
use Prim.Native.Nat.{ℕ, ◌≤◌, ◌<◌}
use mathlib.Core.Path.{◌≡◌, refl, ap₂, sym, ◌∙◌}
use mathlib.Core.Bool.{true}
use mathlib.Core.List.{List, [], ◌∷◌, ◌++◌, map}
use borrow.Author.Tests.{le-leb, lt-ltb}
use lib.ListN.{length, length-map}
use Rattle.chunker.specs.Splitting.{joined}
use Rattle.chunker.specs.Chunks.{chunks}
use Rattle.chunker.proofs.theorems.ChunkSizes.{chunks_joined}
use Rattle.store.specs.declared.Head.{Head}
use Rattle.store.specs.Grounds.{memory_allowed, recipe_allowed, all_below}
use Rattle.store.specs.Memory.{contents}
use Rattle.store.specs.Contents.{number}
use Rattle.admission.specs.Quote.{Quotation, recipe_of}
use Rattle.promises.specs.History.{Event, start, holds, before, TakenAt, AllBytes}
use Rattle.store.proofs.laws.contents.Growth.{Among, among_each}
use Rattle.store.proofs.laws.ChunkOfNumber.{number_counted, chunk_of_number}
use Rattle.promises.proofs.laws.Events.{grows, told_at, taken_asked, named_at, start_fits}
use Rattle.rebuild.specs.Rebuilding.{rebuilt_bytes, rebuild_ground, rebuilt}
use Rattle.promises.specs.GivesBack.{GivesBack}
use Rattle.rebuild.proofs.laws.grounds.RebuildGround.{all_pass}
use Rattle.store.specs.Limits.{recipe_limit}
use Rattle.std.specs.Prelude.{None}

module _ (pool directory : List ℕ) (n : ℕ) where
  -- the numbers of chunks that a store holds name those chunks
  numbers_rebuilt : (cs : List (List ℕ)) → Among cs (contents pool directory n)
      → rebuilt_bytes pool directory (map (number (contents pool directory n)) cs) ≡ joined cs
  unfolding rebuilt_bytes
  numbers_rebuilt [] h = refl
  numbers_rebuilt (c ∷ cs) h =
      ap₂ ◌++◌ (chunk_of_number pool directory n c (among_each (contents pool directory n) c cs h).0)
      (numbers_rebuilt cs (among_each (contents pool directory n) c cs h).1)

  -- and are below the count
  numbers_below : (cs : List (List ℕ)) → Among cs (contents pool directory n)
      → all_below n (map (number (contents pool directory n)) cs) ≡ true
  unfolding all_below
  numbers_below [] h = refl
  numbers_below (c ∷ cs) h =
      rw (lt-ltb _ _ (number_counted pool directory n c (among_each (contents pool directory n) c cs h).0))
      (numbers_below cs (among_each (contents pool directory n) c cs h).1)

-- as many numbers as a job has chunks are within the limit of a recipe
numbers_allowed : (f : List ℕ → ℕ) (cs : List (List ℕ)) → length cs ≤ recipe_limit → recipe_allowed (map f cs) ≡ true
unfolding recipe_allowed
numbers_allowed f cs h = le-leb (length (map f cs)) recipe_limit (rw length-map h)

-- the limits of pool and directory depend on their lengths only
memory_allowed_same : (pool directory pool' directory' : List ℕ) → length pool' ≡ length pool
    → length directory' ≡ length directory → memory_allowed pool directory ≡ true → memory_allowed pool' directory' ≡ true
unfolding memory_allowed
memory_allowed_same pool directory pool' directory' p d h = rw (p, d) h

-- a rebuilding on which no ground holds
rebuilt_accepted : (head : Head) (pool directory recipe output : List ℕ)
    → rebuild_ground head pool directory recipe output ≡ None
    → (job : List ℕ) → rebuilt_bytes pool directory recipe ≡ job
    → GivesBack job output (rebuilt head pool directory recipe output)
unfolding rebuilt
rebuilt_accepted head pool directory recipe output g job e =
    rw (g, e) (record { refusal = refl; written = refl; output = refl })

-- a job that is taken at place i is given back by its recipe from the store as it stands before each later place j, whatever
-- was quoted, taken or refused between; past the list's end, that is the store after the whole list
pub gives_back : (w : ℕ) (pool directory : List ℕ) (events : List Event) → AllBytes events
    → (i : ℕ) (job : List ℕ) (q : Quotation) → TakenAt (start w pool directory) events i job q
    → (j : ℕ) → i < j → (output : List ℕ) → length job ≤ length output
    → let later = before (start w pool directory) events j in
    GivesBack job output (rebuilt later.head later.pool later.directory (recipe_of q) output)
gives_back w pool directory events b i job q a j h output room =
    let s = start w pool directory in
    let t = before s events j in
    let f = start_fits w pool directory in
    let here = grows s f events b i in
    let g = grows s f events b j in
    let told = told_at s f events b i job q (taken_asked a) in
    let named = named_at s f events b i job q a j h in
    let numbers = named.numbers in
    let among = named.among in
    let memory = memory_allowed_same (before s events i).pool (before s events i).directory t.pool t.directory
    (g.pool_length ∙ sym here.pool_length) (g.directory_length ∙ sym here.directory_length) told.memory in
    let bytes : rebuilt_bytes t.pool t.directory (recipe_of q) ≡ job =
    rw numbers (numbers_rebuilt t.pool t.directory t.head.chunks.0 (chunks w job) among ∙ chunks_joined w job) in
    rebuilt_accepted t.head t.pool t.directory _ output
    (all_pass t.head t.pool t.directory _ output
    (rw g.window told.allowed)
    memory
    (rw numbers (numbers_allowed (number (holds t)) (chunks w job) told.short))
    g.fitting.head
    (rw numbers (numbers_below t.pool t.directory t.head.chunks.0 (chunks w job) among))
    (rw bytes room))
    job bytes
