-- The published method in one condition. Of the two conditions of a maximum point, that its byte is larger than every byte of the
-- piece before it is left out: at the first place that meets the other, it follows.
use Rattle.std.specs.Prelude.{ℕ, ◌+◌, ◌≤◌, ◌<◌, ◌≡◌, List, [], ◌∷◌, length, take, drop}
use Rattle.chunker.specs.Method.{byte_at}

-- a place whose byte is "not smaller than any of the w bytes after it, all of which exist"
pub record Unexceeded (w : ℕ) (xs : List ℕ) (p : ℕ) : Type 0 where
  pub place : 1 ≤ p
  pub window : p + w ≤ length xs
  pub not_smaller : (q : ℕ) → p < q → q ≤ p + w → byte_at xs q ≤ byte_at xs p

pub record FirstUnexceeded (w : ℕ) (xs : List ℕ) (p : ℕ) : Type 0 where
  pub unexceeded : Unexceeded w xs p
  pub first : (q : ℕ) → q < p → Unexceeded w xs q → ⊥

-- each chunk ends w places after its first such place; what remains has none. `xs` is what a job has left, `cs` the chunks that
-- cuts end, `rest` what remains
abbrev pub InOneCondition : ℕ → List ℕ → List (List ℕ) → List ℕ → Type 0
InOneCondition w xs [] rest = (xs ≡ rest) × ((p : ℕ) → Unexceeded w xs p → ⊥)
InOneCondition w xs (c ∷ cs) rest =
    (p : ℕ) × FirstUnexceeded w xs p × (c ≡ take (p + w) xs) × InOneCondition w (drop (p + w) xs) cs rest
