-- Only `None` says that no ground holds.
use mathlib.Core.Path.{◌≡◌, refl, sym}
use mathlib.Core.Bool.{true, true≢false}
use lib.Dec.{eqb}
use Rattle.std.specs.Prelude.{Option, None, Some}
use Rattle.refusal.specs.declared.Refusal.{Refusal}
use Rattle.refusal.specs.declared.Refusal.TheVariants.{Window, Unsound, JobLength, MemoryLimit, Head, RecipeFull, DirectoryFull, PoolFull, ChunkNumber, OutputShort, IndexLength, Index}
use Rattle.refusal.specs.Number.{number_of, accepted}

pub no_ground : (ground : Option Refusal) → accepted ground ≡ true → ground ≡ None
no_ground None h = refl
no_ground (Some ground) h = absurd (true≢false (sym h))

-- and only its number is 0
pub accepted_number : (ground : Option Refusal) → accepted ground ≡ eqb (number_of ground) 0
accepted_number None = refl
accepted_number (Some Window) = refl
accepted_number (Some Unsound) = refl
accepted_number (Some JobLength) = refl
accepted_number (Some MemoryLimit) = refl
accepted_number (Some Head) = refl
accepted_number (Some RecipeFull) = refl
accepted_number (Some DirectoryFull) = refl
accepted_number (Some PoolFull) = refl
accepted_number (Some ChunkNumber) = refl
accepted_number (Some OutputShort) = refl
accepted_number (Some IndexLength) = refl
accepted_number (Some Index) = refl
