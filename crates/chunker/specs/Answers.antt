-- What each public function answers, on accepted and refused input alike.
use Rattle.std.specs.Prelude.{ℕ, false, cond, List, None, Option, Some}
use Rattle.refusal.specs.Number.{accepted}
use Rattle.refusal.specs.declared.Refusal.{Refusal}
use Rattle.refusal.specs.declared.Refusal.TheVariants.{Window}
use Rattle.scan.specs.declared.Scanner.{Scanner}
use Rattle.chunker.specs.declared.Opened.{Opened}
use Rattle.scan.specs.declared.Fed.{Fed}
use Rattle.chunker.specs.declared.Finished.{Finished}
use Rattle.chunker.specs.Scanner.{window_allowed, scanner_ground}
use Rattle.scan.specs.Scanner.{fresh}
use Rattle.scan.specs.Scan.{scan}

-- "Opening a scanner tests 1", "A refused opening gives all zeros"
unfoldable pub opened : ℕ → Opened
opened w =
    cond (window_allowed w)
    (record { refusal = None; scanner = fresh w })
    (record { refusal = Some Window; scanner = fresh 0 })

-- the answer where no byte is passed: "hands the scanner back, consumes 0 and reports no cut", "without a cut both are 0"
abbrev pub unmoved : Option Refusal → Scanner → Fed
unmoved refusal s = record { refusal = refusal; scanner = s; consumed = 0; cut = false; place = 0; value = 0 }

-- "feeding tests 1 and 2"; a refused feed passes no byte
unfoldable pub fed : Scanner → List ℕ → Fed
fed s part = cond (accepted (scanner_ground s)) (scan s 0 part) (unmoved (scanner_ground s) s)

-- what a feed in place answers, and the scanner that it leaves behind the reference
pub record FedInPlace : Type 0 where
  pub answer : Fed
  pub scanner : Scanner

-- "The line controller's own scanner can also be moved on in its place, with the same answers"
abbrev pub fed_in_place : Scanner → List ℕ → FedInPlace
fed_in_place s part = record { answer = fed s part; scanner = (fed s part).scanner }

-- "Finishing tells the count and sets count, place and value to 0; the window is kept",
-- "A refused finish tells 0 and hands the scanner back"
unfoldable pub finished : Scanner → Finished
finished s =
    cond (accepted (scanner_ground s))
    (record { refusal = scanner_ground s; scanner = fresh s.window; count = s.count })
    (record { refusal = scanner_ground s; scanner = s; count = 0 })
