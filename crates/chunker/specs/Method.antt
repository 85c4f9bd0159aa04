-- The published method: Asymmetric Extremum, document 002 section 3.1, with the maximum as extreme and one byte as a value.
-- It speaks of bytes and places alone.
use Rattle.std.specs.Prelude.{ℕ, zero, suc, ◌+◌, ◌≤◌, ◌<◌, ◌≡◌, List, [], ◌∷◌, length, get_or, take, drop}

-- the byte at a place, "Places in a piece count from 1"; 0 where there is none
abbrev pub byte_at : List ℕ → ℕ → ℕ
byte_at xs zero = 0
byte_at xs (suc i) = get_or xs i 0

-- "a maximum point is a place whose byte is the piece's first or larger than every byte of the piece before it, and not
-- smaller than any of the w bytes after it, all of which exist". `larger` is vacuous at the first byte
pub record MaximumPoint (w : ℕ) (xs : List ℕ) (p : ℕ) : Type 0 where
  pub place : 1 ≤ p
  pub window : p + w ≤ length xs
  pub larger : (q : ℕ) → 1 ≤ q → q < p → byte_at xs q < byte_at xs p
  pub not_smaller : (q : ℕ) → p < q → q ≤ p + w → byte_at xs q ≤ byte_at xs p

pub record FirstMaximumPoint (w : ℕ) (xs : List ℕ) (p : ℕ) : Type 0 where
  pub maximum : MaximumPoint w xs p
  pub first : (q : ℕ) → q < p → MaximumPoint w xs q → ⊥

-- "The piece ends w places after its first maximum point. The next starts afresh. What remains at the end of the job, if
-- anything, is the last piece." `xs` is what a job has left, `cs` the chunks that cuts end, `rest` what remains
abbrev pub Division : ℕ → List ℕ → List (List ℕ) → List ℕ → Type 0
Division w xs [] rest = (xs ≡ rest) × ((p : ℕ) → MaximumPoint w xs p → ⊥)
Division w xs (c ∷ cs) rest =
    (p : ℕ) × FirstMaximumPoint w xs p × (c ≡ take (p + w) xs) × Division w (drop (p + w) xs) cs rest
