-- The stretch of the pool that a number's entry gives.
use Prim.Native.Nat.{ℕ, ◌+◌, ◌*◌, ◌<◌}
use mathlib.Core.Path.{◌≡◌}
use mathlib.Core.Bool.{true, and-eq-true_iff}
use mathlib.Core.List.{List, [], ◌∷◌}
use lib.ListN.{length}
use borrow.Author.Tests.{ltb-true, lt-leb}
use Rattle.refusal.specs.Number.{accepted}
use Rattle.refusal.specs.declared.Refusal.TheVariants.{Head as HeadMisfit, ChunkNumber as NoChunk}
use Rattle.chunker.specs.Scanner.{window_ground}
use Rattle.store.specs.declared.Head.{Head}
use Rattle.directory.specs.declared.ChunkNumber.{ChunkNumber}
use Rattle.directory.specs.Entry.{offset_at, length_at, stride}
use Rattle.store.specs.Grounds.{fits, memory_ground, head_ground, all_below, number_ground, look_ground}
use Rattle.store.specs.Looking.{stretch_of}
use Rattle.store.proofs.laws.grounds.Fitting.{Placed, fits_entry}
use Rattle.refusal.proofs.laws.Grounds.{none_holds, passed}

-- an accepted look finds the chunk's entry in the directory and its bytes in the pool
pub look_placed : (head : Head) (pool directory : List ℕ) (number : ChunkNumber)
    → accepted (look_ground head pool directory number) ≡ true → Placed head pool directory number.0
unfolding look_ground all_below
look_placed head pool directory number h =
    let none = none_holds
    (window_ground head.window
    ∷ memory_ground pool directory
    ∷ head_ground head pool directory
    ∷ number_ground head (number.0 ∷ [])
    ∷ [])
    h in
    let fitting = passed (fits head pool directory) HeadMisfit none.1.1.0 in
    let below = (and-eq-true_iff _ _).0 (passed (all_below head.chunks.0 (number.0 ∷ [])) NoChunk none.1.1.1.0) in
    fits_entry head pool directory fitting number.0 (ltb-true _ _ below.0)

-- an entry that the directory has
pub stretch_found : (directory : List ℕ) (q : ℕ) → q * stride + 1 < length directory
    → stretch_of directory q ≡ record { offset = record { 0 = offset_at directory q }; length = length_at directory q }
unfolding stretch_of
stretch_found directory q h = rw (lt-leb (length directory) (q * stride + 1) h)
