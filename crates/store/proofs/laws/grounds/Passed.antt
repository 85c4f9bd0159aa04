-- The grounds of a store and of a look, test by test.
use Prim.Native.Nat.{ℕ}
use mathlib.Core.Path.{◌≡◌, refl}
use mathlib.Core.Bool.{Bool, true, false, cond, ◌&&◌}
use mathlib.Core.List.{List, [], ◌∷◌}
use Rattle.refusal.specs.Number.{accepted}
use lib.Dec.{ltb}
use Rattle.std.specs.Prelude.{None, Some}
use Rattle.refusal.specs.Grounds.{unless, first}
use Rattle.refusal.specs.declared.Refusal.{Refusal}
use Rattle.refusal.specs.declared.Refusal.TheVariants.{Window, MemoryLimit, Head as HeadMisfit, ChunkNumber as NoChunk}
use Rattle.refusal.proofs.laws.Grounds.{none_holds, passed, first_append}
use Rattle.chunker.specs.Scanner.{window_allowed, window_ground}
use Rattle.directory.specs.declared.ChunkNumber.{ChunkNumber}
use Rattle.store.specs.declared.Head.{Head}
use Rattle.store.specs.Grounds.{all_below, fits, memory_allowed, memory_ground, head_ground, number_ground, store_ground, look_ground}

-- none of the grounds 1, 4 and 5 holds of a store
pub record Passed (head : Head) (pool directory : List ℕ) : Type 0 where
  pub window : window_allowed head.window ≡ true
  pub memory : memory_allowed pool directory ≡ true
  pub fitting : fits head pool directory ≡ true

module _ (head : Head) (pool directory : List ℕ) where
  -- it is so where the first that holds is none
  pub store_passed : accepted (store_ground head pool directory) ≡ true → Passed head pool directory
  unfolding store_ground
  store_passed h =
      let none = none_holds
      (window_ground head.window ∷ memory_ground pool directory ∷ head_ground head pool directory ∷ [])
      h in
      record {
        window = passed (window_allowed head.window) Window none.0;
        memory = passed (memory_allowed pool directory) MemoryLimit none.1.0;
        fitting = passed (fits head pool directory) HeadMisfit none.1.1.0;
      }

  -- a look is refused by the store's grounds, and then by ground 9
  pub look_ground_lem : (number : ChunkNumber) → look_ground head pool directory number
      ≡ cond (accepted (store_ground head pool directory)) (first (number_ground head (number.0 ∷ []) ∷ []))
      (store_ground head pool directory)
  unfolding look_ground store_ground
  look_ground_lem number =
      first_append
      (window_ground head.window ∷ memory_ground pool directory ∷ head_ground head pool directory ∷ [])
      (number_ground head (number.0 ∷ []) ∷ [])

  -- .. so the ground of a store is that of the look
  pub look_fails : (number : ChunkNumber) {ground : Refusal} → store_ground head pool directory ≡ Some ground
      → Some ground ≡ look_ground head pool directory number
  look_fails number h = rw (look_ground_lem number, h)

  -- .. and where none holds, ground 9 is
  pub look_passes : (number : ChunkNumber) → store_ground head pool directory ≡ None
      → unless (ltb number.0 head.chunks.0) NoChunk ≡ look_ground head pool directory number
  unfolding all_below
  look_passes number h = rw (look_ground_lem number, h) (by_test (ltb number.0 head.chunks.0))
    where
      by_test : (t : Bool) → unless t NoChunk ≡ first (unless (t && true) NoChunk ∷ [])
      by_test true = refl
      by_test false = refl
