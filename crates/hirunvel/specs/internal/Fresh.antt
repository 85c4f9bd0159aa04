-- What the feed of a fresh scanner writes over its numbers.
use Rattle.std.specs.Prelude.{ℕ, cond, List}
use Rattle.refusal.specs.Number.{number_of}
use Rattle.scan.specs.declared.Fed.{Fed}
use Rattle.numbers.specs.Scanning.{numbers_of, told}
use Rattle.hirunvel.specs.Scanning.{ScannerFeeding}

-- after a cut the numbers stay: a scanner is fresh again then
abbrev pub handed_over : Fed → List ℕ → ScannerFeeding
handed_over f n =
    record {
      refusal = number_of f.refusal;
      scanner = cond f.cut n (numbers_of f.scanner);
      fed = told f;
    }
