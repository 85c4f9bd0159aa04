-- The chunks of a job, one after another, against the store as a list of chunks: those that the store holds and the new ones
-- of this job so far.
use Rattle.std.specs.Prelude.{ℕ, suc, ◌+◌, cond, ◌||◌, List, [], ◌∷◌, ◌++◌, leb, ltb, length, drop, None, Option}
use Rattle.refusal.specs.Number.{accepted}
use Rattle.refusal.specs.Grounds.{unless, first}
use Rattle.refusal.specs.declared.Refusal.{Refusal}
use Rattle.refusal.specs.declared.Refusal.TheVariants.{RecipeFull, DirectoryFull, PoolFull}
use Rattle.chunker.specs.Chunks.{chunks, total}
use Rattle.directory.specs.Entry.{entries}
use Rattle.store.specs.declared.Head.{Head}
use Rattle.store.specs.Contents.{has, gain}
use Rattle.store.specs.Memory.{contents}

-- what there is room for: the places of the recipe, the entries of the directory and the bytes of the pool
pub record Room : Type 0 where
  pub places : ℕ
  pub entries : ℕ
  pub bytes : ℕ

-- ground 6, "At this piece, the recipe is full": so many places are used
abbrev pub recipe_full_ground : Room → ℕ → Option Refusal
recipe_full_ground room used = unless (ltb used room.places) RecipeFull

-- ground 7, "This piece is new and the directory has no unused entry"
abbrev pub directory_full_ground : Room → List (List ℕ) → List ℕ → Option Refusal
directory_full_ground room held c = unless (has held c || ltb (length held) room.entries) DirectoryFull

-- ground 8, "This piece is new and longer than the pool bytes after filled"
abbrev pub pool_full_ground : Room → List (List ℕ) → List ℕ → Option Refusal
pool_full_ground room held c = unless (has held c || leb (total held + length c) room.bytes) PoolFull

-- "6 to 8 are tested in that order for each piece, the search coming after 6"
unfoldable pub chunk_ground : Room → ℕ → List (List ℕ) → List ℕ → Option Refusal
chunk_ground room used held c =
    first (recipe_full_ground room used ∷ directory_full_ground room held c ∷ pool_full_ground room held c ∷ [])

-- the ground on which a chunk is refused, if one is, and the chunks before it; else all
pub record Walk : Type 0 where
  pub refusal : Option Refusal
  pub passed : List (List ℕ)

-- "Pieces are handled in job order", up to the first that is refused
unfoldable pub walk : Room → ℕ → List (List ℕ) → List (List ℕ) → Walk
walk room used held [] = record { refusal = None; passed = [] }
walk room used held (c ∷ cs) =
    let on = walk room (suc used) (gain held c) cs in
    cond (accepted (chunk_ground room used held c))
    (record { refusal = on.refusal; passed = c ∷ on.passed })
    (record { refusal = chunk_ground room used held c; passed = [] })

-- the room in lent memory
abbrev pub room_in : List ℕ → List ℕ → List ℕ → Room
room_in pool directory recipe =
    record { places = length recipe; entries = entries directory; bytes = length pool }

-- the walk over a job's chunks
abbrev pub job_walk : Head → List ℕ → List ℕ → List ℕ → List ℕ → Walk
job_walk head pool directory recipe job =
    walk (room_in pool directory recipe) 0 (contents pool directory head.chunks.0) (chunks head.window job)

-- "Each number goes into the recipe": at its first places, and those beyond stay unchanged
abbrev pub noted : List ℕ → List ℕ → List ℕ
noted recipe numbers = numbers ++ drop (length numbers) recipe
