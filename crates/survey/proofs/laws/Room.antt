-- A walk over a job's chunks refuses one only where there is no room for them all.
use Prim.Native.Nat.{ℕ, suc, ◌+◌, ◌≤◌, ◌<◌}
use native.Mathlib.Omega.{arith}
use mathlib.Core.Path.{◌≡◌, refl, ap}
use mathlib.Core.Bool.{Bool, true, false, cond, ◌||◌}
use mathlib.Core.List.{List, [], ◌∷◌, ◌++◌}
use lib.Dec.{leb, ltb}
use lib.ListN.{length, length-append}
use borrow.Author.Tests.{ltb-false, leb-false, lt-ltb, le-leb}
use Rattle.refusal.specs.Number.{accepted}
use Rattle.refusal.specs.Grounds.{unless, first}
use Rattle.refusal.specs.declared.Refusal.{Refusal}
use Rattle.refusal.specs.declared.Refusal.TheVariants.{Window, Unsound, JobLength, MemoryLimit, Head}
use Rattle.refusal.specs.declared.Refusal.TheVariants.{RecipeFull, DirectoryFull, PoolFull, ChunkNumber, OutputShort}
use Rattle.refusal.specs.declared.Refusal.TheVariants.{IndexLength, Index}
use Rattle.chunker.specs.Chunks.{total}
use Rattle.store.specs.Contents.{has, gain, grown, added}
use Rattle.store.proofs.laws.contents.Additions.{grown_added, length_grown, total_append}
use Rattle.survey.specs.Walk.{Room, Walk, chunk_ground, walk}
use Rattle.survey.proofs.laws.Walking.{Fits}
use Rattle.std.specs.Prelude.{None, Option, Some}

-- a store has as many bytes more as the new ones of the chunks that come
pub total_grown : (held cs : List (List ℕ)) → total (grown held cs) ≡ total held + total (added held cs)
total_grown held cs = omega (arith, ap total (grown_added held cs), total_append held (added held cs))

-- after a new chunk and others, a store has the chunk and its bytes
module _ (held : List (List ℕ)) (c : List ℕ) (cs : List (List ℕ)) where
  more_chunks : length held < length (grown (held ++ (c ∷ [])) cs)
  more_chunks = omega (arith, length_grown (held ++ (c ∷ [])) cs, length-append held (c ∷ []))

  more_bytes : total held + length c ≤ total (grown (held ++ (c ∷ [])) cs)
  more_bytes = omega (arith, total_grown (held ++ (c ∷ [])) cs, total_append held (c ∷ []))

module _ (room : Room) (used : ℕ) (held : List (List ℕ)) (c : List ℕ) (cs : List (List ℕ)) where
  -- the ground of a chunk that is known, or not
  abbrev ground : Bool → Option Refusal
  ground known =
      first
      (unless (ltb used room.places) RecipeFull
      ∷ unless (known || ltb (length held) room.entries) DirectoryFull
      ∷ unless (known || leb (total held + length c) room.bytes) PoolFull
      ∷ [])

  by_known : (known : Bool) → used + length (c ∷ cs) ≤ room.places
      → length (grown (cond known held (held ++ (c ∷ []))) cs) ≤ room.entries
      → total (grown (cond known held (held ++ (c ∷ []))) cs) ≤ room.bytes → accepted (ground known) ≡ true
  by_known true p e b = rw (lt-ltb used room.places (omega arith))
  by_known false p e b =
      rw (
        lt-ltb used room.places (omega arith),
        lt-ltb (length held) room.entries (omega (arith, more_chunks held c cs)),
        le-leb (total held + length c) room.bytes (omega (arith, more_bytes held c cs)),
      )

  -- the first of chunks for which there is room is not refused
  first_fits : Fits room used held (c ∷ cs) → accepted (chunk_ground room used held c) ≡ true
  unfolding chunk_ground grown gain
  first_fits f = by_known (has held c) f.places f.entries f.bytes

-- where there is room for all, none is
pub fits_accepted : (room : Room) (used : ℕ) (held cs : List (List ℕ)) → Fits room used held cs
    → accepted (walk room used held cs).refusal ≡ true
unfolding walk grown
fits_accepted room used held [] f = refl
fits_accepted room used held (c ∷ cs) f =
    rw (first_fits room used held c cs f)
    (fits_accepted room (suc used) (gain held c) cs
    (record { places = omega (arith, f.places); entries = f.entries; bytes = f.bytes }))

-- what a refusal says of so many numbers and a store: there are not so many places, entries or bytes
abbrev pub Lacks : Room → ℕ → List (List ℕ) → Option Refusal → Type 0
Lacks room count store None = Unit {0}
Lacks room count store (Some Window) = Unit {0}
Lacks room count store (Some Unsound) = Unit {0}
Lacks room count store (Some JobLength) = Unit {0}
Lacks room count store (Some MemoryLimit) = Unit {0}
Lacks room count store (Some Head) = Unit {0}
Lacks room count store (Some RecipeFull) = room.places < count
Lacks room count store (Some DirectoryFull) = room.entries < length store
Lacks room count store (Some PoolFull) = room.bytes < total store
Lacks room count store (Some ChunkNumber) = Unit {0}
Lacks room count store (Some OutputShort) = Unit {0}
Lacks room count store (Some IndexLength) = Unit {0}
Lacks room count store (Some Index) = Unit {0}

-- a refused chunk has no room, and so they all have none
module _ (room : Room) (used : ℕ) (held : List (List ℕ)) (c : List ℕ) (cs : List (List ℕ)) where
  by_tests : (place known entry bytes : Bool) → ltb used room.places ≡ place
      → ltb (length held) room.entries ≡ entry → leb (total held + length c) room.bytes ≡ bytes
      → Lacks room (used + length (c ∷ cs)) (grown (cond known held (held ++ (c ∷ []))) cs)
      (first (unless place RecipeFull ∷ unless (known || entry) DirectoryFull ∷ unless (known || bytes) PoolFull ∷ []))
  by_tests false known entry bytes p e b = omega (arith, ltb-false used room.places p)
  by_tests true true entry bytes p e b = tt
  by_tests true false false bytes p e b = omega (arith, ltb-false (length held) room.entries e, more_chunks held c cs)
  by_tests true false true false p e b =
      omega (arith, leb-false (total held + length c) room.bytes b, more_bytes held c cs)
  by_tests true false true true p e b = tt

  chunk_lacks : Lacks room (used + length (c ∷ cs)) (grown held (c ∷ cs)) (chunk_ground room used held c)
  unfolding chunk_ground grown gain
  chunk_lacks = by_tests _ (has held c) _ _ refl refl refl

-- what the refusal of a walk says
pub walk_lacks : (room : Room) (used : ℕ) (held cs : List (List ℕ))
    → Lacks room (used + length cs) (grown held cs) (walk room used held cs).refusal
unfolding walk grown
walk_lacks room used held [] = tt
walk_lacks room used held (c ∷ cs) =
    let on = walk room (suc used) (gain held c) cs in
    let count : suc used + length cs ≡ used + length (c ∷ cs) = omega arith in
    let later : Lacks room (used + length (c ∷ cs)) (grown (gain held c) cs) on.refusal =
    rw count at (walk_lacks room (suc used) (gain held c) cs) in
    let refused = chunk_lacks room used held c cs in
    elim (accepted (chunk_ground room used held c)) as
    (λ t. Lacks room (used + length (c ∷ cs)) (grown (gain held c) cs)
    (cond {A = Walk} t (record { refusal = on.refusal; passed = c ∷ on.passed })
    (record { refusal = chunk_ground room used held c; passed = [] })).refusal) [
      | true ↦ later
      | false ↦ refused
    ]
