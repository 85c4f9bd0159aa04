-- A chunk that is written with more bytes after it.
use Rattle.std.specs.Prelude.{ℕ, ◌+◌, ◌≤◌, ◌≡◌, List, length, take}
use Rattle.copying.specs.Written.{written}

-- "written to the output one after another", so that what stands after a chunk is written over: bytes that begin with the
-- chunk and go no further than `end` are written at a place
pub record Covered (before : List ℕ) (at end : ℕ) (chunk after : List ℕ) : Type 0 where
  pub bytes : List ℕ
  pub begins : take (length chunk) bytes ≡ chunk
  pub within : at + length bytes ≤ end
  pub gives : after ≡ written before at bytes
