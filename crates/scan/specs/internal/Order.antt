-- The numbers of a scan under way over a part.
use Rattle.std.specs.Prelude.{ℕ, ◌+◌, ◌*◌, ◌≤◌, ◌<◌, List, length, get_or}
use Rattle.scan.specs.Limits.{window_limit}

-- the numbers of a scan under way over a part, with an open chunk: those of a sound scanner, and no byte since the place is larger than v
pub record InOrder (part : List ℕ) (w base d v i : ℕ) : Type 0 where
  pub low : 1 ≤ w
  pub high : w ≤ window_limit
  pub index : i ≤ length part
  pub begun : 1 ≤ base + i
  pub live : i < d
  pub near : d ≤ i + w
  pub fits : w < base + d
  pub reach : base + d ≤ v * w + 1 + w
  pub byte : v < 256
  pub seen : (q : ℕ) → d ≤ q + w → q < i → get_or part q 0 ≤ v
