-- The scanner's functions over numbers.
use Rattle.std.specs.Prelude.{ℕ, cond, ◌&&◌, List, [], ◌∷◌, leb, get_or, Option}
use Rattle.refusal.specs.Number.{number_of, accepted}
use Rattle.refusal.specs.Grounds.{unless, first}
use Rattle.refusal.specs.declared.Refusal.{Refusal}
use Rattle.refusal.specs.declared.Refusal.TheVariants.{Unsound}
use Rattle.chunker.specs.Scanner.{window_ground, sound}
use Rattle.chunker.specs.Answers.{opened, fed, finished}
use Rattle.numbers.specs.Scanning.{numbers_of, scanner_of, told}

-- "feeding and finishing 1 and 2": the first that holds of four numbers; "its value, a byte"
unfoldable pub numbers_ground : List ℕ → Option Refusal
numbers_ground n =
    first (window_ground (get_or n 0 0) ∷ unless (leb (get_or n 3 0) 255 && sound (scanner_of n)) Unsound ∷ [])

-- what an opening answers and writes
pub record ScannerOpening : Type 0 where
  pub refusal : ℕ
  pub scanner : List ℕ

-- "A refused opening gives all zeros"
unfoldable pub scanner_opened : ℕ → ScannerOpening
scanner_opened w = record { refusal = number_of (opened w).refusal; scanner = numbers_of (opened w).scanner }

-- what a feed answers and writes
pub record ScannerFeeding : Type 0 where
  pub refusal : ℕ
  pub scanner : List ℕ
  pub fed : List ℕ

-- "A refused feed hands the scanner back, consumes 0 and reports no cut", "without a cut both are 0"
unfoldable pub scanner_fed : List ℕ → List ℕ → ScannerFeeding
scanner_fed n part =
    let refusal = numbers_ground n in
    let f = fed (scanner_of n) part in
    cond (accepted refusal)
    (record { refusal = number_of refusal; scanner = numbers_of f.scanner; fed = told f })
    (record { refusal = number_of refusal; scanner = n; fed = 0 ∷ 0 ∷ 0 ∷ 0 ∷ [] })

-- what a finish answers and writes
pub record ScannerFinishing : Type 0 where
  pub refusal : ℕ
  pub scanner : List ℕ
  pub count : ℕ

-- "Finishing tells the count", "A refused finish tells 0 and hands the scanner back"
unfoldable pub scanner_finished : List ℕ → ScannerFinishing
scanner_finished n =
    let refusal = numbers_ground n in
    let f = finished (scanner_of n) in
    cond (accepted refusal)
    (record { refusal = number_of refusal; scanner = numbers_of f.scanner; count = f.count })
    (record { refusal = number_of refusal; scanner = n; count = 0 })
