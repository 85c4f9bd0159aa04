-- A scanner between two chunks.
use Rattle.std.specs.Prelude.{ℕ}
use Rattle.scan.specs.declared.Scanner.{Scanner}

-- "After a cut, count, place and value are 0": a scanner with no byte since the last cut
abbrev pub fresh : ℕ → Scanner
fresh w = record { window = w; count = 0; place = 0; value = 0 }
