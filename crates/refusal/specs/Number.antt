-- The numbers of the grounds for turning work away, as the scope's section "Grounds" and the change requests list them.
use Rattle.std.specs.Prelude.{ℕ, Bool, true, false, Option, None, Some}
use Rattle.refusal.specs.declared.Refusal.{Refusal}
use Rattle.refusal.specs.declared.Refusal.TheVariants.{Window, Unsound, JobLength, MemoryLimit, Head, RecipeFull, DirectoryFull, PoolFull, ChunkNumber, OutputShort, IndexLength, Index}

-- "The first ground that holds is reported": its number, and 0 where none holds
abbrev pub number_of : Option Refusal → ℕ
number_of None = 0
number_of (Some Window) = 1
number_of (Some Unsound) = 2
number_of (Some JobLength) = 3
number_of (Some MemoryLimit) = 4
number_of (Some Head) = 5
number_of (Some RecipeFull) = 6
number_of (Some DirectoryFull) = 7
number_of (Some PoolFull) = 8
number_of (Some ChunkNumber) = 9
number_of (Some OutputShort) = 10
number_of (Some IndexLength) = 11
number_of (Some Index) = 12

-- "where none holds the work is done"
abbrev pub accepted : Option Refusal → Bool
accepted None = true
accepted (Some refusal) = false
