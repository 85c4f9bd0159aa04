-- The grounds on which a store is turned away, each by its test, and the first of an operation's grounds that holds.
use Rattle.std.specs.Prelude.{ℕ, ◌%◌, Bool, true, ◌&&◌, List, [], ◌∷◌, leb, ltb, eqb, length, Option}
use Rattle.refusal.specs.Grounds.{unless, first}
use Rattle.refusal.specs.declared.Refusal.{Refusal}
use Rattle.refusal.specs.declared.Refusal.TheVariants.{MemoryLimit, Head as HeadMisfit, ChunkNumber as NoChunk}
use Rattle.chunker.specs.Scanner.{window_ground}
use Rattle.directory.specs.declared.ChunkNumber.{ChunkNumber}
use Rattle.store.specs.declared.Head.{Head}
use Rattle.directory.specs.Entry.{stride, entries}
use Rattle.directory.specs.Layout.{laid_out}
use Rattle.store.specs.Limits.{pool_limit, directory_limit, recipe_limit}

-- "The pool has over 67,108,864 bytes, the directory over 131,070 numbers or an odd count" does not hold
unfoldable pub memory_allowed : List ℕ → List ℕ → Bool
memory_allowed pool directory =
    leb (length pool) pool_limit && leb (length directory) directory_limit && eqb (length directory % stride) 0

-- ground 4, of pool and directory
abbrev pub memory_ground : List ℕ → List ℕ → Option Refusal
memory_ground pool directory = unless (memory_allowed pool directory) MemoryLimit

-- ".. or the recipe over 65,535 numbers" does not hold
unfoldable pub recipe_allowed : List ℕ → Bool
recipe_allowed recipe = leb (length recipe) recipe_limit

-- ground 4, of a recipe
abbrev pub recipe_ground : List ℕ → Option Refusal
recipe_ground recipe = unless (recipe_allowed recipe) MemoryLimit

-- "Pieces is at most the directory's entries, filled at most the pool's length" (ground 5)
unfoldable pub fits : Head → List ℕ → List ℕ → Bool
fits head pool directory =
    leb head.chunks.0 (entries directory) && leb head.filled.0 (length pool)
    && laid_out head.window directory 0 0 head.filled.0 head.chunks.0

-- ground 5, "The head does not fit pool and directory"
abbrev pub head_ground : Head → List ℕ → List ℕ → Option Refusal
head_ground head pool directory = unless (fits head pool directory) HeadMisfit

-- "A piece number is not below pieces" holds of no number
unfoldable pub all_below : ℕ → List ℕ → Bool
all_below chunks [] = true
all_below chunks (number ∷ numbers) = ltb number chunks && all_below chunks numbers

-- ground 9, of some numbers
abbrev pub number_ground : Head → List ℕ → Option Refusal
number_ground head numbers = unless (all_below head.chunks.0 numbers) NoChunk

-- the first of the grounds 1, 4 and 5 that holds of a store
unfoldable pub store_ground : Head → List ℕ → List ℕ → Option Refusal
store_ground head pool directory =
    first (window_ground head.window ∷ memory_ground pool directory ∷ head_ground head pool directory ∷ [])

-- "looking 1, 4, 5 and 9"
unfoldable pub look_ground : Head → List ℕ → List ℕ → ChunkNumber → Option Refusal
look_ground head pool directory number =
    first
    (window_ground head.window
    ∷ memory_ground pool directory
    ∷ head_ground head pool directory
    ∷ number_ground head (number.0 ∷ [])
    ∷ [])
