-- The peak of a chunk that a cut ends: the place and the value of its maximum point.
use Rattle.std.specs.Prelude.{ℕ, ◌-◌, ◌≡◌, List, [], ◌∷◌, map, length}
use Rattle.scan.specs.declared.Fed.{Fed}
use Rattle.scan.specs.Scanner.{fresh}
use Rattle.chunker.specs.Chunks.{cut_chunks}
use Rattle.chunker.specs.Method.{byte_at, FirstMaximumPoint}

-- "the place and value of its maximum point": the place counts from 1 in the piece
pub record Peak : Type 0 where
  pub place : ℕ
  pub value : ℕ

-- what a feed tells: "Each cut now reports the place and value of its maximum point"
abbrev pub told_peak : Fed → Peak
told_peak f = record { place = f.place; value = f.value }

-- by the published method: the place is the chunk's first maximum point, and the value the byte there
pub record PeakOf (w : ℕ) (chunk : List ℕ) (p : Peak) : Type 0 where
  pub first : FirstMaximumPoint w chunk p.place
  pub byte : byte_at chunk p.place ≡ p.value

-- .. of each of some chunks in order
abbrev pub PeaksOf : ℕ → List (List ℕ) → List Peak → Type 0
PeaksOf w [] [] = Unit {0}
PeaksOf w [] (p ∷ ps) = ⊥
PeaksOf w (c ∷ cs) [] = ⊥
PeaksOf w (c ∷ cs) (p ∷ ps) = PeakOf w c p × PeaksOf w cs ps

-- "The piece ends w places after its first maximum point": so it is w places before the end of a chunk that a cut ends
unfoldable pub peak_of : ℕ → List ℕ → Peak
peak_of w chunk = record { place = length chunk - w; value = byte_at chunk (length chunk - w) }

-- the peaks of a job in order, one for each cut; the last piece has one only if a cut ends it
unfoldable pub peaks : ℕ → List ℕ → List Peak
peaks w job = map (peak_of w) (cut_chunks (fresh w) [] job)
