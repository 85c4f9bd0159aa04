-- Rebuilding: "The pieces that a recipe names are written to the output one after another".
use Rattle.std.specs.Prelude.{ℕ, cond, List, [], ◌∷◌, ◌++◌, map, leb, length, drop, None, Option}
use Rattle.refusal.specs.Number.{accepted}
use Rattle.refusal.specs.Grounds.{unless, first}
use Rattle.refusal.specs.declared.Refusal.{Refusal}
use Rattle.refusal.specs.declared.Refusal.TheVariants.{OutputShort}
use Rattle.chunker.specs.Scanner.{window_ground}
use Rattle.chunker.specs.Splitting.{joined}
use Rattle.store.specs.declared.Head.{Head}
use Rattle.store.specs.Memory.{chunk_at}
use Rattle.store.specs.Grounds.{memory_ground, recipe_ground, head_ground, number_ground}
use Rattle.rebuild.specs.declared.Rebuilt.{Rebuilt}

-- the chunks that a recipe names, laid end to end: "an empty recipe writes nothing"
unfoldable pub rebuilt_bytes : List ℕ → List ℕ → List ℕ → List ℕ
rebuilt_bytes pool directory recipe = joined (map (chunk_at pool directory) recipe)

-- ground 10, "The output is shorter than the rebuilt job"
abbrev pub output_ground : List ℕ → List ℕ → List ℕ → List ℕ → Option Refusal
output_ground pool directory recipe output =
    unless (leb (length (rebuilt_bytes pool directory recipe)) (length output)) OutputShort

-- "rebuilding 1, 4, 5, 9 and 10": the first that holds. Ground 4 is tested of the recipe too, 9 of all its numbers
unfoldable pub rebuild_ground : Head → List ℕ → List ℕ → List ℕ → List ℕ → Option Refusal
rebuild_ground head pool directory recipe output =
    first
    (window_ground head.window
    ∷ recipe_ground recipe
    ∷ memory_ground pool directory
    ∷ head_ground head pool directory
    ∷ number_ground head recipe
    ∷ output_ground pool directory recipe output
    ∷ [])

-- what a rebuilding answers, and how it leaves the output
pub record Rebuilding : Type 0 where
  pub answer : Rebuilt
  pub output : List ℕ

-- "Output past the job is untouched", "A refused rebuilding leaves the output untouched"; the bytes written are told, 0 when
-- refused
unfoldable pub rebuilt : Head → List ℕ → List ℕ → List ℕ → List ℕ → Rebuilding
rebuilt head pool directory recipe output =
    let refusal = rebuild_ground head pool directory recipe output in
    let bytes = rebuilt_bytes pool directory recipe in
    cond (accepted refusal)
    (record { answer = record { refusal = None; written = length bytes }; output = bytes ++ drop (length bytes) output })
    (record { answer = record { refusal = refusal; written = 0 }; output = output })
