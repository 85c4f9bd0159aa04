-- What a scan asks of a scanner.
use Rattle.std.specs.Prelude.{◌+◌, ◌*◌, ◌≤◌, ◌<◌, min}
use Rattle.scan.specs.declared.Scanner.{Scanner}
use Rattle.scan.specs.Limits.{window_limit}

-- "1 ≤ place ≤ count < place + w and place ≤ value × w + 1", or all 0, of an allowed window
pub record Sound (s : Scanner) : Type 0 where
  pub low : 1 ≤ s.window
  pub high : s.window ≤ window_limit
  pub within : s.place ≤ s.count
  pub live : s.count < s.place + s.window
  pub begun : min 1 s.count ≤ s.place
  pub reach : s.place ≤ s.value * s.window + 1
  pub empty : s.value ≤ 255 * s.count
  pub byte : s.value < 256
