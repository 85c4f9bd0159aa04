-- A scan under way over a part: its numbers, and what the rest of the part gives.
use Rattle.std.specs.Prelude.{ℕ, ◌+◌, ◌-◌, ◌≡◌, List, get_or, drop}
use Rattle.scan.specs.declared.Scanner.{Scanner}
use Rattle.scan.specs.declared.Fed.{Fed}
use Rattle.scan.specs.declared.run.Run.{Run}
use Rattle.scan.specs.Scan.{uncut, cut_after, scan}

-- the scanner after i bytes of a part, of whose open chunk `base` bytes came before the part: its place is w before the
-- deadline d, the number of bytes of the part after which the chunk ends if no larger byte comes
abbrev pub standing : ℕ → ℕ → ℕ → ℕ → ℕ → Scanner
standing w base d v i = record { window = w; count = base + i; place = base + d - w; value = v }

-- what the rest of the part from index i on gives
unfoldable pub onward : List ℕ → ℕ → ℕ → ℕ → ℕ → ℕ → Fed
onward part w base d v i = scan (standing w base d v i) i (drop i part)

-- the same from a run on
abbrev pub rest : Run → Fed
rest r = onward r.part.now r.window r.base r.deadline r.value r.at

-- the answer where no cut follows the bytes that a run has passed
abbrev pub uncut_at : Run → Fed
uncut_at r = uncut (standing r.window r.base r.deadline r.value r.at) r.at

-- the answer where a cut follows the bytes up to a run's deadline, w after its largest byte
abbrev pub cut_at : Run → Fed
cut_at r = cut_after r.window r.deadline (r.base + r.deadline - r.window) r.value

-- a run further on in the part, with the same window and the same answer to come
pub record Further (r next : Run) : Type 0 where
  pub part : next.part.now ≡ r.part.now
  pub window : next.window ≡ r.window
  pub gives : rest next ≡ rest r

-- a run that is past the first byte of a chunk, with a whole window to come
pub record PastFirst (r : Run) : Type 0 where
  pub base : r.base ≡ 0
  pub at : r.at ≡ 1
  pub value : r.value ≡ get_or r.part.now 0 0
  pub whole : r.deadline ≡ r.at + r.window

-- a run that sets out on a part, with the answer that the scanner gives; that of a fresh scanner is past its first byte
pub record Begun (s : Scanner) (r : Run) (bytes : List ℕ) : Type 0 where
  pub part : r.part.now ≡ bytes
  pub window : r.window ≡ s.window
  pub gives : rest r ≡ scan s 0 bytes
  pub fresh : s.count ≡ 0 → PastFirst r
