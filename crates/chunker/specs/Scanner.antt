-- The scanner's numbers: when a window is allowed, a scanner sound, and which ground is reported.
use Rattle.std.specs.Prelude.{ℕ, ◌+◌, ◌*◌, Bool, ◌&&◌, ◌||◌, [], ◌∷◌, leb, ltb, eqb, Option}
use Rattle.refusal.specs.declared.Refusal.{Refusal}
use Rattle.refusal.specs.declared.Refusal.TheVariants.{Window, Unsound}
use Rattle.refusal.specs.Grounds.{unless, first}
use Rattle.scan.specs.declared.Scanner.{Scanner}
use Rattle.scan.specs.Limits.{window_limit}

-- "Make that the limit in ground 1": the window is 1 to 64
unfoldable pub window_allowed : ℕ → Bool
window_allowed w = leb 1 w && leb w window_limit

-- "count, place and value are all 0"
unfoldable pub untouched : Scanner → Bool
untouched s = eqb s.count 0 && eqb s.place 0 && eqb s.value 0

-- "1 ≤ place ≤ count < place + w and place ≤ value × w + 1"
unfoldable pub consistent : Scanner → Bool
consistent s =
    leb 1 s.place && leb s.place s.count && ltb s.count (s.place + s.window)
    && leb s.place (s.value * s.window + 1)

-- "A scanner is sound if count, place and value are all 0, or if .."
unfoldable pub sound : Scanner → Bool
sound s = untouched s || consistent s

-- ground 1
abbrev pub window_ground : ℕ → Option Refusal
window_ground w = unless (window_allowed w) Window

-- "feeding and finishing 1 and 2": the first that holds of a scanner
unfoldable pub scanner_ground : Scanner → Option Refusal
scanner_ground s = first (window_ground s.window ∷ unless (sound s) Unsound ∷ [])
