-- A scanner and what a feed tells, as numbers.
use Rattle.std.specs.Prelude.{ℕ, ◌≡◌, ◌≤◌, ◌<◌, cond, List, [], ◌∷◌, get_or, Option, Some, Result, MatchResult}
use Rattle.refusal.specs.Grounds.{first}
use Rattle.refusal.specs.declared.Refusal.{Refusal}
use Rattle.refusal.specs.declared.Refusal.TheVariants.{Unsound}
use Rattle.scan.specs.declared.Scanner.{Scanner}
use Rattle.scan.specs.declared.Fed.{Fed}
use Rattle.chunker.specs.Scanner.{window_ground}

-- "window, bytes since the last cut (count), place of the largest byte so far (first on a tie) and its value"
abbrev pub numbers_of : Scanner → List ℕ
numbers_of s = s.window ∷ s.count ∷ s.place ∷ s.value ∷ []

-- the scanner of four numbers
abbrev pub scanner_of : List ℕ → Scanner
scanner_of n = record { window = get_or n 0 0; count = get_or n 1 0; place = get_or n 2 0; value = get_or n 3 0 }

-- the first of the grounds 1 and 2 that holds of a scanner that is not sound
abbrev pub unsound_ground : ℕ → Option Refusal
unsound_ground w = first (window_ground w ∷ Some Unsound ∷ [])

-- four numbers of which the last is a byte give their scanner, others their ground
abbrev pub Reads : List ℕ → Result Scanner Refusal → Type 0
Reads n r =
    MatchResult r
    (λ s. (s ≡ scanner_of n) × (get_or n 3 0 ≤ 255))
    (λ refusal. (Some refusal ≡ unsound_ground (get_or n 0 0)) × (255 < get_or n 3 0))

-- "The answer says how many bytes were consumed and whether a cut follows", which 1 tells, and "the place and value of its
-- maximum point"
abbrev pub told : Fed → List ℕ
told f = f.consumed ∷ cond f.cut 1 0 ∷ f.place ∷ f.value ∷ []
