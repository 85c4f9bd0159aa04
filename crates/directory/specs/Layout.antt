-- How the entries of a directory are laid out in the pool.
use Rattle.std.specs.Prelude.{ℕ, zero, suc, ◌+◌, ◌*◌, Bool, ◌&&◌, List, ◌==◌, nat_le}
use Rattle.directory.specs.Entry.{offset_at, length_at}

-- an entry with this offset and length starts at `from`, and its length is 1 to `longest`
abbrev pub entry_allowed : ℕ → ℕ → ℕ → ℕ → Bool
entry_allowed offset size from longest = offset == from && nat_le 1 size && nat_le size longest

-- "Entry 0 starts at 0, each next one where the last ended, and the last ends at filled"; "Lengths are 1 to
-- 256 × w + 1": the n entries from entry i on, of which the first starts at `from`
unfoldable pub laid_out : ℕ → List ℕ → ℕ → ℕ → ℕ → ℕ → Bool
laid_out w directory i from filled zero = from == filled
laid_out w directory i from filled (suc n) =
    entry_allowed (offset_at directory i) (length_at directory i) from (256 * w + 1)
    && laid_out w directory (suc i) (from + length_at directory i) filled n
