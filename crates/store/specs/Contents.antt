-- The store as a list of chunks: the number that a chunk has or gets, and what a job's chunks add.
use Rattle.std.specs.Prelude.{ℕ, suc, ◌<◌, ◌≡◌, Bool, true, false, cond, ◌&&◌, ◌||◌, List, [], ◌∷◌, ◌++◌, eqb, length, get_or}
use Rattle.chunker.specs.Chunks.{total}

-- "the same length and bytes"
unfoldable pub same : List ℕ → List ℕ → Bool
same [] [] = true
same [] (c ∷ cs) = false
same (b ∷ bs) [] = false
same (b ∷ bs) (c ∷ cs) = eqb b c && same bs cs

-- "The answer is the lowest-numbered piece with the same length and bytes"; where there is none, the next unused number
unfoldable pub number : List (List ℕ) → List ℕ → ℕ
number [] c = 0
number (d ∷ ds) c = let later = suc (number ds c) in cond (same d c) 0 later

-- a chunk is among chunks
unfoldable pub has : List (List ℕ) → List ℕ → Bool
has [] c = false
has (d ∷ ds) c = same d c || has ds c

-- a chunk is added at the end unless it is there
unfoldable pub gain : List (List ℕ) → List ℕ → List (List ℕ)
gain held c = cond (has held c) held (held ++ (c ∷ []))

-- the store after chunks in order
unfoldable pub grown : List (List ℕ) → List (List ℕ) → List (List ℕ)
grown held [] = held
grown held (c ∷ cs) = grown (gain held c) cs

-- of chunks in order, the new ones: "A piece found by the search, pieces added for this job included, is repeated. Any
-- other is new"
unfoldable pub added : List (List ℕ) → List (List ℕ) → List (List ℕ)
added held [] = []
added held (c ∷ cs) = let later = added (gain held c) cs in cond (has held c) later (c ∷ later)

-- the repeated ones
unfoldable pub repeated : List (List ℕ) → List (List ℕ) → List (List ℕ)
repeated held [] = []
repeated held (c ∷ cs) = let later = repeated (gain held c) cs in cond (has held c) (c ∷ later) later

-- their numbers: that of a new chunk is "the next number"
unfoldable pub numbers : List (List ℕ) → List (List ℕ) → List ℕ
numbers held [] = []
numbers held (c ∷ cs) = number held c ∷ numbers (gain held c) cs

-- the bytes that chunks add
abbrev pub gained : List (List ℕ) → List (List ℕ) → ℕ
gained held cs = total (added held cs)

-- no two of the chunks are equal: each is found at its own place
abbrev pub Distinct : List (List ℕ) → Type 0
Distinct held = (p : ℕ) → p < length held → number held (get_or held p []) ≡ p
